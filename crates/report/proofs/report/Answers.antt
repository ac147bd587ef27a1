-- `report::report` meets its contract: each way out puts the text that the input asks for. Assumes nothing.
use Prim.Native.Nat.{ℕ}
use mathlib.Core.Path.{refl, sym, subst}
use mathlib.Core.List.{List, [], ◌∷◌, ◌++◌}
use Rattle.std.proofs.Common.{rules}
use Rattle.rules.specs.Sets.{tabulate}
use Rattle.rules.specs.Print.{ascii, too_long_text, bad_field_text}
use Rattle.rules.specs.Table.{house}
use Rattle.rules.specs.RunText.{good_text}
use Rattle.report.specs.Put.{Put}
use Rattle.fields.proofs.ReadLaws.{room}
use Rattle.report.proofs.ReportLaws.{report-long, report-bad, report-good, report-ready}
use Rattle.report.proofs.report.Goals as goal

pub returns-then-input-gt65536 : goal.returns-then-input-gt65536
unfolding too_long_text ascii tabulate
returns-then-input-gt65536 c =
    report-long _ _ c.if-out-lt524288.false _ _ _ c.if-input-gt65536.true refl (subst (λ (o : List ℕ). Put (ascii "input too long" ++ (10 ∷ [])) 0 c.args.out.now o c.put.new.self.len) (search rules) c.put.ensures.put)

pub returns-in-Err : goal.returns-in-Err
returns-in-Err c =
    report-bad _ _ c.if-out-lt524288.false _ (room 0) _ c.if-input-gt65536.false _ c.in-Err.ensures _ _ (rw (sym c.place.ensures) (subst (λ (o : List ℕ). Put (bad_field_text c.place.result) 0 c.args.out.now o c.put_bad_field.new.self.len) (search rules) c.put_bad_field.ensures.put))

pub put_lines-requires : goal.put_lines-requires
put_lines-requires c =
    (refl, report-ready _ c.args.out.now c.if-out-lt524288.false _ (room 0) _ c.if-input-gt65536.false _ c.in-Ok.ensures, c.if-out-lt524288.false)

pub returns : goal.returns
returns c =
    report-good _ _ c.if-out-lt524288.false _ (room 0) _ c.if-input-gt65536.false _ c.in-Ok.ensures _ _ (subst (λ (o : List ℕ). Put (good_text house c.args.input.now) 0 c.args.out.now o c.put_lines.new.self.len) (search rules) c.put_lines.ensures.put)
