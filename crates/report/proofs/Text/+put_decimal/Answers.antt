use native.Mathlib.Omega.{arith}
use mathlib.Core.Path.{◌∙◌}
use Rattle.report.proofs.TextLaws.{decimal-short, decimal-long, decimal-first, decimal-last, decimal-within}
use Rattle.report.proofs.Text.+put_decimal.Goals as goal

pub put_byte-requires : goal.put_byte-requires
put_byte-requires t c = omega (arith, c.requires, decimal-short c.args.n c.if-n-lt10.true)

pub put_decimal-requires : goal.put_decimal-requires
put_decimal-requires t c =
    let l = c.if-n-lt10.false in
    let e = c.decreases in
    let k = decimal-long c.args.n l in
    let r = c.requires in
    (omega arith, omega arith)

pub put_byte-requires-else-n-lt10 : goal.put_byte-requires-else-n-lt10
put_byte-requires-else-n-lt10 t c = let l = (decimal-within _ _ _ c.requires _ _ c.if-n-lt10.false c.put_decimal.ensures.put).0 in omega arith

pub returns-then-n-lt10 : goal.returns-then-n-lt10
returns-then-n-lt10 t c = record {
  same = c.put_byte.ensures.same;
  put = decimal-first _ _ _ c.requires _ _ _ c.if-n-lt10.true c.digit.ensures c.put_byte.ensures.put;
}

pub returns-else-n-lt10 : goal.returns-else-n-lt10
returns-else-n-lt10 t c = record {
  same = c.put_byte-else-n-lt10.ensures.same ∙ c.put_decimal.ensures.same;
  put = decimal-last _ _ _ c.requires _ _ _ c.if-n-lt10.false c.put_decimal.ensures.put c.digit-else-n-lt10.ensures _ _ c.put_byte-else-n-lt10.ensures.put;
}
