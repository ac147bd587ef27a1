-- What meet found, as the answer to a pair. Assumes nothing.
use Prim.Native.Nat.{ℕ, ◌≤◌, ◌<◌}
use native.Mathlib.Omega.{arith}
use mathlib.Core.Path.{◌≡◌, sym, ap, ◌∙◌}
use mathlib.Core.Bool.{Bool, cond}
use mathlib.Core.List.{List, [], ◌∷◌, ◌++◌}
use lib.Dec.{eqb, ltb}
use lib.ListN.{length, replicate}
use borrow.Author.Tests.{lt-ltb, le-ltb}
use Rattle.std.specs.Prelude.{Ok, Err}
use Rattle.rules.specs.declared.Refusal.{Refusal}
use Rattle.rules.specs.declared.Refusal.TheVariants.{WrongLength, TooFar}
use Rattle.rules.specs.Answers.{number, place, Judgement, measured}
use Rattle.rules.proofs.Answers.{number-some}
use Rattle.rules.specs.Sets.{tabulate}
use Rattle.rules.specs.Table.{house, far_of, switches}
use Rattle.rules.specs.Run.{mask_of}
use Rattle.rules.specs.Refusals.{most_hops}
use Rattle.rules.specs.Look.{Looked, first, accepted, answered}
use Rattle.rules.specs.RunTable.{home}
use Rattle.rules.specs.RunPair.{distance, mask, look_apart, look7}
use Rattle.rules.proofs.Says.{Numbered, first-none, first_some, first-stop, first_past, refused-false, answered-refused, answered-zero, kept-accepted, kept-refused}
use Rattle.ways.specs.declared.Pair.{Pair}
use Rattle.ways.specs.declared.Met.{Met}
use Rattle.ways.specs.Pairs.{look_long, measure_pair, pair_judgement, pair_of, paired}
use Rattle.ways.specs.Inner.{Meets}
use Rattle.ways.proofs.PairLaws.{bare}
use Rattle.ways.proofs.MeetLaws.{nothing_said}

-- whether the switch of a pair is told with its number
kept-number : (j : Judgement) (s : ℕ) → j.number ≡ 0 → cond (accepted j) s 0 ≡ s
unfolding accepted
kept-number j s h = ap (λ (n : ℕ). cond (eqb n 0) s 0) h

lost-number : (j : Judgement) (s : ℕ) → ¬ (j.number ≡ 0) → cond (accepted j) s 0 ≡ 0
lost-number j s h = ap (λ (b : Bool). cond b s 0) (refused-false j h)

module _ (t : List ℕ) (a d : ℕ) where
  -- ---- a table that is too long

  long-first : 512 < length t → (ls : List Looked) → first (look_long house t a d ∷ ls) ≡ record { number = 1; place = 0 }
  long-first l ls = first_some 1 (ltb 512 (length t)) ls (lt-ltb 512 (length t) l)

  short-first : length t ≤ 512 → (ls : List Looked) → first (look_long house t a d ∷ ls) ≡ first ls
  short-first l ls = first-none 1 (ltb 512 (length t)) ls (le-ltb 512 (length t) l)

  -- ---- the distance of a pair

  measured-as : (e : Refusal) → first (look_long house t a d ∷ look_apart house t a d []) ≡ record { number = number e; place = place e } → measured (Err e) ≡ measure_pair house t a d
  unfolding measure_pair
  measured-as e f =
      let n : ¬ (number e ≡ 0) = λ i. let l = number-some e in omega arith in
      sym (ap (λ (x : Judgement). answered x (distance house t a d) 0 0) f ∙ answered-refused (record { number = number e; place = place e }) (distance house t a d) 0 0 n)

  pub measure-long : 512 < length t → measured (Err WrongLength) ≡ measure_pair house t a d
  measure-long l = measured-as WrongLength (long-first l (look_apart house t a d []))

  module _ (l : length t ≤ 512) where
    pub measure-none : (e : Refusal) → Meets t a d (Err e) → measured (Err e) ≡ measure_pair house t a d
    measure-none e h = measured-as e (short-first l (look_apart house t a d []) ∙ sym h.answer)

    pub measure-met : (m : Met) → Meets t a d (Ok m) → measured (Ok m.distance) ≡ measure_pair house t a d
    unfolding measure_pair
    measure-met m h =
        let j = first (look_long house t a d ∷ look_apart house t a d []) in
        let e : j ≡ record { number = 0; place = 0 } = short-first l (look_apart house t a d []) ∙ sym h.answer in
        (λ i. record { number = 0; place = 0; distance = h.met.1 i; count = 0; tries = 0 })
        ∙ sym (answered-zero j (distance house t a d) (ap (λ (x : Judgement). x.place) e) (ap (λ (x : Judgement). x.number) e))

    -- ---- the masks of a pair

    pair-first : pair_judgement house t a d ≡ first (look_apart house t a d [] ++ (look7 house t a d ∷ []))
    unfolding pair_judgement
    pair-first = short-first l (look_apart house t a d (look7 house t a d ∷ []))

    three : Numbered (look_apart house t a d [])
    unfolding Numbered
    three = (omega arith, (omega arith, (omega arith, tt)))

  pub pair-none : (e : Refusal) → pair_judgement house t a d ≡ record { number = number e; place = place e } → paired (Err e) ≡ pair_of house t a d
  unfolding pair_of
  pair-none e f =
      let j = pair_judgement house t a d in
      let n : ¬ (number e ≡ 0) = λ i. let l = number-some e in omega arith in
      let o : ¬ (j.number ≡ 0) = λ i. n (sym (ap (λ (x : Judgement). x.number) f) ∙ i) in
      sym (λ i. record {
        answer = (answered-refused j (distance house t a d) 0 0 o ∙ ap bare f) i;
        home = lost-number j (home house t a) o i;
        masks = kept-refused j (tabulate 64 (mask house t a d)) (replicate 64 0) o i;
      })

  pub pair-long : 512 < length t → paired (Err WrongLength) ≡ pair_of house t a d
  unfolding pair_judgement
  pair-long l = pair-none WrongLength (long-first l (look_apart house t a d (look7 house t a d ∷ [])))

  module _ (l : length t ≤ 512) where
    pub pair-unmet : (e : Refusal) → Meets t a d (Err e) → paired (Err e) ≡ pair_of house t a d
    pair-unmet e h =
        let n : ¬ ((first (look_apart house t a d [])).number ≡ 0) = λ i. let s = number-some e in let k = ap (λ (x : Judgement). x.number) h.answer in omega arith in
        pair-none e (pair-first l ∙ first-stop (look_apart house t a d []) (look7 house t a d ∷ []) n ∙ sym h.answer)

    module _ {m : Met} (h : Meets t a d (Ok m)) where
      last-first : pair_judgement house t a d ≡ first (look7 house t a d ∷ [])
      last-first = pair-first l ∙ first_past (look_apart house t a d []) (look7 house t a d ∷ []) (three l) (sym (ap (λ (x : Judgement). x.number) h.answer))

      pub pair_far : 8 < m.distance → paired (Err TooFar) ≡ pair_of house t a d
      pair_far g =
          let e = h.met.1 in
          pair-none TooFar (last-first ∙ first_some 7 (ltb most_hops (distance house t a d)) [] (lt-ltb most_hops (distance house t a d) (omega arith)))

      pub pair-met : {p : Pair} → m.distance ≤ 8 → p.distance ≡ m.distance → p.home ≡ m.home
          → p.masks ≡ tabulate 64 (mask_of (far_of house t) (switches t) d m.home) → paired (Ok p) ≡ pair_of house t a d
      unfolding pair_of mask
      pair-met {p} g x y w =
          let e = h.met.1 in
          let j = pair_judgement house t a d in
          let z : j ≡ record { number = 0; place = 0 } = last-first ∙ first-none 7 (ltb most_hops (distance house t a d)) [] (le-ltb most_hops (distance house t a d) (omega arith)) ∙ nothing_said in
          let o = ap (λ (x : Judgement). x.number) z in
          let v : p.distance ≡ distance house t a d = x ∙ e in
          λ i. record {
            answer = ((λ i. record { number = 0; place = 0; distance = v i; count = 0; tries = 0 }) ∙ sym (answered-zero j (distance house t a d) (ap (λ (x : Judgement). x.place) z) o)) i;
            home = (y ∙ h.met.0 ∙ sym (kept-number j (home house t a) o)) i;
            masks = (w ∙ ap (λ (s : ℕ). tabulate 64 (mask_of (far_of house t) (switches t) d s)) h.met.0 ∙ sym (kept-accepted j (tabulate 64 (mask house t a d)) (replicate 64 0) o)) i;
          }
