-- No second answer keeps a promise: number and place are said by one list of refusals; where they are 0 the source stands at a switch, and
-- from there distance, masks, words and tries are each one. Assumes nothing.
use Prim.Native.Nat.{ℕ, ◌-◌}
use native.Mathlib.Decide.{ℕ_discrete}
use native.Mathlib.Omega.{arith}
use mathlib.Core.Path.{◌≡◌, sym, ap, ◌∙◌}
use mathlib.Core.Logic.{◌⊎◌, ◌↔◌, ⊎_elim}
use mathlib.Core.List.{List, [], ◌∷◌, ◌++◌}
use lib.Dec.{T}
use lib.ListN.{length, get_or, replicate, drop}
use Rattle.rules.specs.Answers.{Judgement, Answer, TestAnswer, Verdict, No, Yes}
use Rattle.rules.specs.Sets.{has}
use Rattle.rules.specs.Header.{permits}
use Rattle.rules.specs.Table.{Sizes, switches, far_of, Stands}
use Rattle.rules.specs.Refusals.{Refusal, Says, most_hops, of_table, of_pair, too_far, too_many, too_short, tries_from}
use Rattle.rules.specs.Promise.{Blank, Judged, Measured, Masked, Header, Issued, Tested}
use Rattle.rules.specs.RunTable.{home}
use Rattle.rules.proofs.SetLaws.{same, same-T}
use Rattle.rules.proofs.Ways.{distance-one}
use Rattle.rules.proofs.Widest.{best-one}
use Rattle.rules.proofs.Says.{Placed, says-only, says-clear, plain-one}
use Rattle.rules.proofs.Joined.{table-placed, pair-placed, clear-joined}
use Rattle.rules.proofs.Lists.{front-one}

abbrev pub Same : ℕ → ℕ → ℕ → ℕ → Type 0
Same m n p q = (m ≡ n) × (p ≡ q)

pub answer-same : {q r : Answer} → Same q.number r.number q.place r.place → q.distance ≡ r.distance → q.count ≡ r.count → q.tries ≡ r.tries → q ≡ r
answer-same e f g h = λ i. record { number = e.0 i; place = e.1 i; distance = f i; count = g i; tries = h i }

pub blank-same : {q r : Answer} → Same q.number r.number q.place r.place → Blank q → Blank r → q ≡ r
blank-same e h k = answer-same e (h.distance ∙ sym k.distance) (h.count ∙ sym k.count) (h.tries ∙ sym k.tries)

-- two sets with the same members, each said by one meaning
pub meant-one : (m n : ℕ) (P : ℕ → Type 0) → ((p : ℕ) → T (has p m) ↔ P p) → ((p : ℕ) → T (has p n) ↔ P p) → m ≡ n
meant-one m n P h k = same m n (λ p. same-T (has p m) (has p n) (λ i. (k p).1 ((h p).0 i)) (λ i. (h p).1 ((k p).0 i)))

module _ (z : Sizes) (t : List ℕ) where
  pub judged-only : (q r : Judgement) → Judged z t q → Judged z t r → q ≡ r
  unfolding Placed
  judged-only q r h k =
      let e = says-only (of_table z t) (table-placed z t [] tt) q.number r.number q.place r.place h.answer k.answer in
      λ i. record { number = e.0 i; place = e.1 i }

  module _ (a d : ℕ) where
    -- what two answers to a pair say is one, and where it is 0 the source stands at a switch
    module _ (rs : List Refusal) (l : Placed rs) (m n p q : ℕ) (h : Says (of_pair z t a d ++ rs) m p) (k : Says (of_pair z t a d ++ rs) n q) where
      said-one : Same m n p q
      said-one = says-only (of_pair z t a d ++ rs) (pair-placed z t a d rs l) m n p q h k

      by_number : {A : Type 0} → (m ≡ 0 → n ≡ 0 → (s : ℕ) → Stands z t a s → A) → (¬ (m ≡ 0) → ¬ (n ≡ 0) → A) → A
      by_number {A} f g = at (ℕ_discrete m 0)
        where
          at : Dec (m ≡ 0) → A
          at (yes e) = f e (sym said-one.0 ∙ e) (home z t a) (clear-joined z t a d rs (says-clear (of_pair z t a d ++ rs) (pair-placed z t a d rs l) m p h e)).0.«from»
          at (no e) = g e (λ i. e (said-one.0 ∙ i))

    pub measured-only : (q r : Answer) → Measured z t a d q → Measured z t a d r → q ≡ r
    unfolding Placed
    measured-only q r h k =
        by_number [] tt q.number r.number q.place r.place h.answer k.answer
        (λ m n s w. answer-same e (distance-one (far_of z t) (h.distance m s w) (k.distance n s w)) (h.zeros.0 ∙ sym k.zeros.0) (h.zeros.1 ∙ sym k.zeros.1))
        (λ m n. blank-same e (h.refused m) (k.refused n))
      where
        e : Same q.number r.number q.place r.place
        e = said-one [] tt q.number r.number q.place r.place h.answer k.answer

    pub masked-only : (out : List ℕ) (q r : Answer) (o p : List ℕ) → Masked z t a d out q o → Masked z t a d out r p → (q ≡ r) × (o ≡ p)
    unfolding Placed
    masked-only out q r o p h k =
        by_number more l q.number r.number q.place r.place h.answer k.answer
        (λ m n s w. (
          answer-same e (distance-one (far_of z t) (h.distance m s w) (k.distance n s w)) (h.zeros.0 ∙ sym k.zeros.0) (h.zeros.1 ∙ sym k.zeros.1),
          front-one (switches t) o p ((h.kept m).0 ∙ sym (k.kept n).0) ((h.kept m).1 ∙ sym (k.kept n).1)
              (λ u i. meant-one (get_or o u 0) (get_or p u 0) _ (λ x. h.masks m s u x w i) (λ x. k.masks n s u x w i)),
        ))
        (λ m n. let x = h.refused m in let y = k.refused n in (blank-same e x.0 y.0, x.1 ∙ sym y.1))
      where
        more : List Refusal
        more = too_far z t a d ∷ too_short (switches t) out ∷ []

        l : Placed more
        l = (omega arith, plain-one, (omega arith, plain-one, tt))

        e : Same q.number r.number q.place r.place
        e = said-one more l q.number r.number q.place r.place h.answer k.answer

    pub tested-only : (ws : List ℕ) (q r : TestAnswer) → Tested z t a d ws q → Tested z t a d ws r → q ≡ r
    unfolding Placed
    tested-only ws q r h k =
        let e = blank-same (said-one more l q.answer.number r.answer.number q.answer.place r.answer.place h.answer k.answer) h.blank k.blank in
        let f = by_number more l q.answer.number r.answer.number q.answer.place r.answer.place h.answer k.answer
        (λ m n s w. verdicts (h.either m) (k.either n) (λ i. (k.tested n s w).1 ((h.tested m s w).0 i)) (λ i. (h.tested m s w).1 ((k.tested n s w).0 i)))
        (λ m n. h.refused m ∙ sym (k.refused n)) in
        λ i. record { answer = e i; says = f i }
      where
        more : List Refusal
        more = too_far z t a d ∷ []

        l : Placed more
        l = (omega arith, plain-one, tt)

        verdicts : {u v : Verdict} → (u ≡ Yes) ⊎ (u ≡ No) → (v ≡ Yes) ⊎ (v ≡ No) → (u ≡ Yes → v ≡ Yes) → (v ≡ Yes → u ≡ Yes) → u ≡ v
        verdicts x y f g = ⊎_elim (λ i. i ∙ sym (f i)) (λ i. ⊎_elim (λ j. g j ∙ sym j) (λ j. i ∙ sym j) y) x

    header-one : (s : ℕ) (out : List ℕ) (q r : Answer) (o p : List ℕ) → Same q.number r.number q.place r.place → Header z t a d s out q o → Header z t a d s out r p → (q ≡ r) × (o ≡ p)
    header-one s out q r o p e x y =
        let w : x.words ≡ y.words = best-one x.best y.best in
        let n = distance-one (far_of z t) x.distance y.distance in (
          answer-same e n (x.count ∙ ap permits w ∙ sym y.count) (x.tries ∙ ap (tries_from z t s d) n ∙ sym y.tries),
          x.memory ∙ ap (λ (ws : List ℕ). ws ++ (replicate (most_hops - length ws) 0 ++ drop most_hops out)) w ∙ sym y.memory,
        )

    pub issued-only : (out : List ℕ) (q r : Answer) (o p : List ℕ) → Issued z t a d out q o → Issued z t a d out r p → (q ≡ r) × (o ≡ p)
    unfolding Placed
    issued-only out q r o p h k =
        by_number more l q.number r.number q.place r.place h.answer k.answer
        (λ m n s w. header-one s out q r o p e (h.issued m s w) (k.issued n s w))
        (λ m n. let x = h.refused m in let y = k.refused n in (blank-same e x.0 y.0, x.1 ∙ sym y.1))
      where
        more : List Refusal
        more = too_far z t a d ∷ too_short most_hops out ∷ too_many z t a d ∷ []

        l : Placed more
        l = (omega arith, plain-one, (omega arith, plain-one, (omega arith, plain-one, tt)))

        e : Same q.number r.number q.place r.place
        e = said-one more l q.number r.number q.place r.place h.answer k.answer
