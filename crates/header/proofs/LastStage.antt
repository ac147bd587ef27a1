-- The last stage of the search takes all common ports: a smaller choice among them has fewer ones. Assumes nothing.
use Prim.Native.Nat.{ℕ, zero, ◌*◌, ◌≤◌, ◌<◌, zero-le}
use borrow.Author.Tests.{le-leb}
use native.Mathlib.Nat.{le_of_eq, mul-one, lt_of_not-le, pos_of_ne-zero}
use native.Mathlib.Omega.{arith}
use mathlib.Core.Path.{◌≡◌, refl, sym, ap, subst}
use mathlib.Core.Logic.{inr, ⊎_elim}
use mathlib.Core.Bool.{Bool, true, false, cond}
use mathlib.Core.List.{List, [], ◌∷◌}
use Rattle.std.specs.Prelude.{Option, None, Some}
use lib.Dec.{T, ltb, eqb, ltb→lt, lt→ltb, eqb→eq}
use Rattle.std.specs.Prelude.{Some}
use lib.ListN.{set, replicate}
use lib.Count.{ones, ones_in}
use Rattle.rules.specs.Sets.{has, within, count}
use Rattle.rules.specs.Net.{Far}
use Rattle.rules.specs.Header.{permits, Best, Before}
use Rattle.rules.specs.Tries.{choice, common, tries}
use Rattle.rules.specs.Run.{widest, best}
use Rattle.rules.proofs.SetLaws.{T_and, and_i, T_true, same-T, same, dec-T, eq-T, member, in_within, has-nothing, has-small}
use Rattle.rules.proofs.Counts.{count-part, count-more, ones-count}
use Rattle.rules.proofs.Widest.{Answers, answers-widest, best-one, Under}
use Rattle.rules.proofs.Search.{common-byte}
use Rattle.found.specs.declared.Found.{Found}
use Rattle.found.specs.Found.{last_found}
use Rattle.header.specs.Search.{words_in, count_in, found, found_of}

-- ---- choices

pub choice-some : (w c : ℕ) → T (choice w c) → zero < w
unfolding choice
choice-some w c h = ltb→lt 0 w (T_and (ltb 0 w) (within w c) h).0

pub choice-in : (w c s : ℕ) → T (choice w c) → T (has s w) → T (has s c)
unfolding choice
choice-in w c s h = (in_within w c).0 (T_and (ltb 0 w) (within w c) h).1 s

choice-all : (c : ℕ) → zero < c → T (choice c c)
unfolding choice
choice-all c h = and_i (ltb 0 c) (within c c) (lt→ltb 0 c h) ((in_within c c).1 (λ s k. k))

-- ---- the last stage

answers_one : (P : List ℕ → Type 0) (r q : Option (List ℕ)) → Answers P r → Answers P q → r ≡ q
unfolding Answers
answers_one P None None h k = refl
answers_one P None (Some q) h k = absurd (h q k.one)
answers_one P (Some r) None h k = absurd (k r h.one)
answers_one P (Some r) (Some q) h k = ap (λ (x : List ℕ). Some x) (best-one h k)

module _ (c : ℕ) (byte : c < 256) where
  fewer : (w : ℕ) → w < 256 → T (choice w c) → ones w ≤ ones c
  fewer w l h = rw (ones-count w l, ones-count c byte) (count-part (λ s. has s w) (λ s. has s c) (λ s. choice-in w c s h) 8)

  -- only all of them are as many
  all_of : (w : ℕ) → w < 256 → T (choice w c) → ones w ≡ ones c → w ≡ c
  all_of w l h e = same w c (λ s. same-T (has s w) (has s c) (choice-in w c s h) (at s))
    where
      at : (s : ℕ) → T (has s c) → T (has s w)
      at s k = ⊎_elim (λ t. t) (λ f.
          let m : count 8 (λ s. has s w) < count 8 (λ s. has s c)
          = count-more (λ s. has s w) (λ s. has s c) (λ s. choice-in w c s h) 8 s (lt_of_not-le (λ i. subst T (has-small s 8 c byte i) k)) f k in
          let i = ones-count w l in let j = ones-count c byte in absurd (omega arith)) (dec-T (has s w))

  -- the headers of one word among c
  One : List ℕ → Type 0
  One [] = ⊥
  One (w ∷ ws) = T (choice w c) × (ws ≡ [])

  one-some : (w : ℕ) (ws : List ℕ) → One (w ∷ ws) → zero < w
  unfolding One
  one-some w ws h = choice-some w c h.0

  one-rest : (w : ℕ) (b : Bool) → choice w c ≡ b → Answers (λ ws. One (w ∷ ws)) (cond b (Some []) None)
  unfolding Answers One Before
  one-rest w true e = record { one = (T_true e, refl); most = λ g h. le_of_eq (ap permits h.1); first = λ g h i. tt }
  one-rest w false e = λ ws h. subst T e h.0

  one_none : c ≡ 0 → (g : List ℕ) → Under One 256 g → ⊥
  unfolding Under One
  one_none e [] h = h
  one_none e (w ∷ ws) h =
      let i = member w (choice-some w c h.1.0) in
      subst T (has-nothing i.0) (subst (λ (x : ℕ). T (has i.0 x)) e (choice-in w c i.0 h.1.0 i.1))

  one-best : zero < c → Best (Under One 256) (c ∷ [])
  unfolding Under One Before permits
  one-best z = record { one = (byte, (choice-all c z, refl)); most = most; first = first }
    where
      most : (g : List ℕ) → Under One 256 g → permits g ≤ permits (c ∷ [])
      most [] h = absurd h
      most (w ∷ ws) h = let f = fewer w h.0 h.1.0 in subst (λ (x : List ℕ). ones w * permits x ≤ ones c * 1) (sym h.1.1) (omega arith)

      first : (g : List ℕ) → Under One 256 g → permits g ≡ permits (c ∷ []) → Before (c ∷ []) g
      first [] h e = absurd h
      first (w ∷ ws) h e =
          let f : ones w * 1 ≡ ones c * 1 = subst (λ (x : List ℕ). ones w * permits x ≡ ones c * 1) h.1.1 e in
          inr (sym (all_of w h.0 h.1.0 (omega arith)), tt)

  last-answers : (b : Bool) → eqb c 0 ≡ b → Answers (Under One 256) (cond b None (Some (c ∷ [])))
  unfolding Answers
  last-answers true e = one_none (eqb→eq c 0 (T_true e))
  last-answers false e = one-best (pos_of_ne-zero (λ z. subst T e (eq-T c 0 z)))

  pub widest-last : widest 256 (λ w. cond (choice w c) (Some []) None) ≡ cond (eqb c 0) None (Some (c ∷ []))
  widest-last =
      answers_one (Under One 256) (widest 256 (λ w. cond (choice w c) (Some []) None)) (cond (eqb c 0) None (Some (c ∷ [])))
      (answers-widest One one-some (λ w. cond (choice w c) (Some []) None) (λ w. one-rest w (choice w c) refl) 256)
      (last-answers (eqb c 0) refl)

found-one : (c : ℕ) (b : Bool) → eqb c 0 ≡ b → found (cond b None (Some (c ∷ []))) 0 ≡ last_found c
unfolding found words_in count_in permits ones ones_in
found-one c true e = subst (λ (x : ℕ). found None 0 ≡ last_found x) (sym (eqb→eq c 0 (T_true e))) refl
found-one c false e = ap (λ (k : ℕ). one_word k) (mul-one (ones c))
  where
    one_word : ℕ → Found
    one_word k = record { words = set (replicate 8 0) 7 c; count = k; tries = 0 }

module _ (far : ℕ → ℕ → Far) (size : ℕ) (mask : ℕ → ℕ) (m : ℕ) where
  pub best-last : best far size mask 1 m ≡ cond (eqb (common size mask m) 0) None (Some (common size mask m ∷ []))
  unfolding best
  best-last = widest-last (common size mask m) (common-byte size mask m)

  pub found-last : (k : ℕ) → found_of far size mask m 1 k ≡ Some (last_found (common size mask m))
  unfolding found_of tries
  found-last k = let e = le-leb 0 k zero-le in rw (e, best-last) (ap Some (found-one (common size mask m) (eqb (common size mask m) 0) refl))
