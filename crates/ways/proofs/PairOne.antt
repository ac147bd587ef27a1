-- The numbers of a pair's answer say which result it is, so no second result keeps the promise of `mask_pair`. Assumes nothing.
use native.Mathlib.Omega.{arith}
use mathlib.Core.Path.{◌≡◌, sym, ap}
use Rattle.std.specs.Prelude.{Result, Ok, Err}
use Rattle.rules.specs.declared.Refusal.{Refusal}
use Rattle.rules.specs.Answers.{number}
use Rattle.rules.proofs.Answers.{number-some, refusal-one}
use Rattle.ways.specs.declared.Pair.{Pair}
use Rattle.ways.specs.Pairs.{PairAnswer, paired}

apart : {B : Type 0} (e : Refusal) → number e ≡ 0 → B
apart e h = let l = number-some e in absurd (omega arith)

pub paired-one : (q r : Result Pair Refusal) → paired q ≡ paired r → q ≡ r
paired-one (Ok p) (Ok q) e =
    let s : p ≡ q = λ i. record { distance = ap (λ (x : PairAnswer). x.answer.distance) e i; home = ap (λ (x : PairAnswer). x.home) e i; masks = ap (λ (x : PairAnswer). x.masks) e i } in
    ap Ok s
paired-one (Ok p) (Err f) e = apart f (sym (ap (λ (x : PairAnswer). x.answer.number) e))
paired-one (Err f) (Ok p) e = apart f (ap (λ (x : PairAnswer). x.answer.number) e)
paired-one (Err f) (Err g) e = ap Err (refusal-one f g (ap (λ (x : PairAnswer). x.answer.number) e) (ap (λ (x : PairAnswer). x.answer.place) e))
