-- A pair answered without the judge is answered as with it, where the judge accepts: a sound table is not too long, so the first row that
-- stands in for the judge's is never given there. Assumes nothing.
use Prim.Native.Nat.{ℕ, ◌*◌, ◌≤◌, ◌<◌}
use native.Mathlib.Omega.{arith}
use mathlib.Core.Path.{◌≡◌, refl, sym, ap, ◌∙◌, subst, subst₂}
use mathlib.Core.List.{List, [], ◌∷◌, ◌++◌}
use lib.Dec.{ltb}
use lib.ListN.{length, take, drop}
use borrow.Author.Tests.{lt-ltb, le-ltb}
use Rattle.std.specs.Prelude.{Result, Ok, Err}
use Rattle.rules.specs.declared.Refusal.{Refusal}
use Rattle.rules.specs.declared.Refusal.TheVariants.{ShortOutput}
use Rattle.rules.specs.Answers.{number, place, Judgement, Answer, judged, measured}
use Rattle.rules.proofs.Answers.{number-some}
use Rattle.rules.specs.Sets.{tabulate}
use Rattle.rules.specs.Table.{Sizes, switches}
use Rattle.rules.specs.Look.{Looked, first, answered}
use Rattle.rules.specs.RunTable.{look_table, judge_of}
use Rattle.rules.specs.RunPair.{distance, mask, look_apart, look7, look8, measure_of, mask_judgement, mask_answer, mask_memory}
use Rattle.ways.specs.Pairs.{look_long, measure_pair, pair_judgement, PairAnswer, pair_of, paired}
use Rattle.rules.proofs.Says.{Numbered, first-stop, first_past, first-none, first_some, answered-number, answered-place, answered-zero, first-zero, answered-accepted, answered-refused, kept-accepted, kept-refused}
use Rattle.rules.proofs.Tables.{sound-length}
use Rattle.rules.specs.Promise.{Judged, Measured, Masked}
use Rattle.ways.specs.declared.Pair.{Pair}
use Rattle.rules.proofs.Kept.{judged-met, measured-met, masked-met}
use Rattle.rules.proofs.Lists.{take-tabulate}
use Rattle.wiring.proofs.Found.{judge-refuses, judge-accepts, judge-is, judge-number, judge-sound}

-- the answer of a refusal
abbrev pub bare : Judgement → Answer
bare j = record { number = j.number; place = j.place; distance = 0; count = 0; tries = 0 }

-- where the judge refuses
pub refuses : (z : Sizes) (t : List ℕ) (e : Refusal) → Judged z t (judged {A = Unit {0}} (Err e)) → ¬ ((judge_of z t).number ≡ 0)
refuses z t e h n = let l = number-some e in let k : number e ≡ (judge_of z t).number = judge-number z t h in omega arith

module _ (z : Sizes) (t : List ℕ) (a d : ℕ) where
  -- ---- after the judge

  pub judged-first : (ls : List Looked) → (judge_of z t).number ≡ 0 → first (look_table z t ++ ls) ≡ first (look_long z t a d ∷ ls)
  judged-first ls h =
      let l = sound-length z t (judge-sound z t (judged-met z t) h) in
      let m : length t ≤ 8 * z.most = let i = l.1 in let e = l.2 in omega arith in
      judge-accepts z t ls h ∙ sym (first-none 1 (ltb (8 * z.most) (length t)) ls (le-ltb (8 * z.most) (length t) m))

  pub measure-judged : (judge_of z t).number ≡ 0 → measure_of z t a d ≡ measure_pair z t a d
  unfolding measure_of measure_pair
  measure-judged h = ap (λ (j : Judgement). answered j (distance z t a d) 0 0) (judged-first (look_apart z t a d []) h)

  pub measure-refused : ¬ ((judge_of z t).number ≡ 0) → measure_of z t a d ≡ bare (judge_of z t)
  unfolding measure_of
  measure-refused h = ap (λ (j : Judgement). answered j (distance z t a d) 0 0) (judge-refuses z t (look_apart z t a d []) h) ∙ answered-refused (judge_of z t) (distance z t a d) 0 0 h

  -- the rows of a pair are numbered
  pub five : Numbered (look_long z t a d ∷ look_apart z t a d (look7 z t a d ∷ []))
  unfolding Numbered
  five = (omega arith, (omega arith, (omega arith, (omega arith, (omega arith, tt)))))

  -- ---- mask issue: the judge, the pair, and then the room

  module _ (out : List ℕ) where
    abbrev room : Looked
    room = look8 z t a d (switches t) out

    mask_first : (judge_of z t).number ≡ 0 → mask_judgement z t a d out ≡ first (look_long z t a d ∷ look_apart z t a d (look7 z t a d ∷ room ∷ []))
    unfolding mask_judgement
    mask_first h = judged-first (look_apart z t a d (look7 z t a d ∷ room ∷ [])) h

    -- refused by the judge
    pub mask-judge : ¬ ((judge_of z t).number ≡ 0) → mask_judgement z t a d out ≡ judge_of z t
    unfolding mask_judgement
    mask-judge h = judge-refuses z t (look_apart z t a d (look7 z t a d ∷ room ∷ [])) h

    -- refused by the pair
    pub mask-pair : (judge_of z t).number ≡ 0 → ¬ ((pair_judgement z t a d).number ≡ 0) → mask_judgement z t a d out ≡ pair_judgement z t a d
    unfolding pair_judgement
    mask-pair h k = mask_first h ∙ first-stop (look_long z t a d ∷ look_apart z t a d (look7 z t a d ∷ [])) (room ∷ []) k

    -- refused for want of room, or not
    pub mask-last : (judge_of z t).number ≡ 0 → (pair_judgement z t a d).number ≡ 0 → mask_judgement z t a d out ≡ first (room ∷ [])
    unfolding pair_judgement
    mask-last h k = mask_first h ∙ first_past (look_long z t a d ∷ look_apart z t a d (look7 z t a d ∷ [])) (room ∷ []) five k

    pub mask-refused : (j : Judgement) → mask_judgement z t a d out ≡ j → ¬ (j.number ≡ 0)
        → (mask_answer z t a d out ≡ bare j) × (mask_memory z t a d out ≡ out)
    unfolding mask_answer mask_memory
    mask-refused j e h =
        let k : ¬ ((mask_judgement z t a d out).number ≡ 0) = λ n. h (ap (λ (x : Judgement). x.number) (sym e) ∙ n) in
        (ap (λ (x : Judgement). answered x (distance z t a d) 0 0) e ∙ answered-refused j (distance z t a d) 0 0 h, kept-refused (mask_judgement z t a d out) _ out k)

    pub mask-made : mask_judgement z t a d out ≡ record { number = 0; place = 0 }
        → (mask_answer z t a d out ≡ record { number = 0; place = 0; distance = distance z t a d; count = 0; tries = 0 }) × (mask_memory z t a d out ≡ tabulate (switches t) (mask z t a d) ++ drop (switches t) out)
    unfolding mask_answer mask_memory
    mask-made e =
        (ap (λ (x : Judgement). answered x (distance z t a d) 0 0) e ∙ answered-accepted (record { number = 0; place = 0 }) (distance z t a d) 0 0 refl, kept-accepted (mask_judgement z t a d out) _ out (ap (λ (x : Judgement). x.number) e))

  -- a pair that is refused says the number and the place of its refusals
  pub pair-said : (e : Refusal) → paired (Err e) ≡ pair_of z t a d → record { number = number e; place = place e } ≡ pair_judgement z t a d
  unfolding pair_of
  pair-said e is =
      let j = pair_judgement z t a d in
      λ i. record {
        number = (ap (λ (x : PairAnswer). x.answer.number) is ∙ answered-number j (distance z t a d) 0 0) i;
        place = (ap (λ (x : PairAnswer). x.answer.place) is ∙ answered-place j (distance z t a d) 0 0) i;
      }

  -- ---- the ways out of `distance`

  pub distance-refused : (e : Refusal) → Judged z t (judged {A = Unit {0}} (Err e)) → Measured z t a d (measured (Err e))
  distance-refused e h =
      let n : ¬ ((judge_of z t).number ≡ 0) = refuses z t e h in
      subst (Measured z t a d) (measure-refused n ∙ ap bare (sym (judge-is z t h))) (measured-met z t a d)

  module _ (h : Judged z t (record { number = 0; place = 0 })) where
    accepts : (judge_of z t).number ≡ 0
    accepts = sym (judge-number z t h)

    pub distance-given : (r : Result ℕ Refusal) → measured r ≡ measure_pair z t a d → Measured z t a d (measured r)
    distance-given r e = subst (Measured z t a d) (measure-judged accepts ∙ sym e) (measured-met z t a d)

    pub judged-few : switches t ≤ z.most
    judged-few = (sound-length z t (judge-sound z t h refl)).1

  -- ---- the ways out of `masks`

  module _ (out : List ℕ) where
    masked : {r : Answer} {o : List ℕ} → r ≡ mask_answer z t a d out → o ≡ mask_memory z t a d out → Masked z t a d out r o
    masked e f = subst₂ (Masked z t a d out) (sym e) (sym f) (masked-met z t a d out)

    -- where a refusal is what is given
    gives : (e : Refusal) → mask_judgement z t a d out ≡ record { number = number e; place = place e } → Masked z t a d out (measured (Err e)) out
    gives e f =
        let m = mask-refused out (record { number = number e; place = place e }) f (λ i. let l = number-some e in omega arith) in masked (sym m.0) (sym m.1)

    pub masks-refused : (e : Refusal) → Judged z t (judged {A = Unit {0}} (Err e)) → Masked z t a d out (measured (Err e)) out
    masks-refused e h = gives e (mask-judge out (refuses z t e h) ∙ sym (judge-is z t h))

    module _ (h : Judged z t (record { number = 0; place = 0 })) where
      pub masks-none : (e : Refusal) → paired (Err e) ≡ pair_of z t a d → Masked z t a d out (measured (Err e)) out
      masks-none e is = let p = pair-said e is in gives e (mask-pair out (accepts h) (λ n. let l = number-some e in let k = ap (λ (x : Judgement). x.number) p in omega arith) ∙ sym p)

      module _ {p : Pair} (is : paired (Ok p) ≡ pair_of z t a d) where
        zero-pair : (pair_judgement z t a d).number ≡ 0
        unfolding pair_of
        zero-pair = sym (ap (λ (x : PairAnswer). x.answer.number) is ∙ answered-number (pair_judgement z t a d) (distance z t a d) 0 0)

        zero-place : (pair_judgement z t a d).place ≡ 0
        unfolding pair_judgement
        zero-place = ap (λ (j : Judgement). j.place) (first-zero (look_long z t a d ∷ look_apart z t a d (look7 z t a d ∷ [])) five zero-pair)

        pub masks-short : length out < switches t → Masked z t a d out (measured (Err ShortOutput)) out
        masks-short l = gives ShortOutput (mask-last out (accepts h) zero-pair ∙ first_some 8 (ltb (length out) (switches t)) [] (lt-ltb (length out) (switches t) l))

  module _ {j : Judgement} (h : Judged z t j) (out : List ℕ) (n : j.number ≡ 0) {p : PairAnswer} (is : p ≡ pair_of z t a d) (k : p.answer.number ≡ 0) where
    zero-known : (pair_judgement z t a d).number ≡ 0
    unfolding pair_of
    zero-known = sym (ap (λ (x : PairAnswer). x.answer.number) is ∙ answered-number (pair_judgement z t a d) (distance z t a d) 0 0) ∙ k

    pub masks-made : {o : List ℕ} → switches t ≤ length out → switches t ≤ z.most → o ≡ take (switches t) p.masks ++ drop (switches t) out → Masked z t a d out p.answer o
    unfolding pair_of first pair_judgement
    masks-made l few e =
        let place : (pair_judgement z t a d).place ≡ 0 = ap (λ (j : Judgement). j.place) (first-zero (look_long z t a d ∷ look_apart z t a d (look7 z t a d ∷ [])) five zero-known) in
        let f = mask-last out (sym (judge-number z t h) ∙ n) zero-known ∙ first-none 8 (ltb (length out) (switches t)) [] (le-ltb (length out) (switches t) l) in
        let m = mask-made out f in
        let v : p.masks ≡ tabulate z.most (mask z t a d) = ap (λ (x : PairAnswer). x.masks) is ∙ kept-accepted (pair_judgement z t a d) _ _ zero-known in
        subst₂ (Masked z t a d out)
        (sym (ap (λ (x : PairAnswer). x.answer) is ∙ answered-zero (pair_judgement z t a d) (distance z t a d) place zero-known ∙ sym m.0))
        (sym (e ∙ ap (λ (x : List ℕ). take (switches t) x ++ drop (switches t) out) v ∙ ap (λ (x : List ℕ). x ++ drop (switches t) out) (take-tabulate (switches t) z.most (mask z t a d) few) ∙ sym m.1))
        (masked-met z t a d out)
