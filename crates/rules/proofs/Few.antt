-- A header that passes permits at most 8 ^ (its words - 1) lists, in any network where no switch has two ports to the destination: each
-- word permits at most eight ports, and the last only the destination's own. Assumes nothing.
use Prim.Native.Nat.{ℕ, ◌+◌, ◌*◌, ◌^◌, ◌≤◌}
use native.Mathlib.Nat.{le_trans, mul-le-mul, pow-succ', pow-le-pow_right}
use native.Mathlib.Omega.{arith}
use mathlib.Core.Path.{◌≡◌, refl, sym, ap, ◌∙◌, subst}
use mathlib.Core.List.{List, [], ◌∷◌}
use lib.Dec.{T, eqb, eqb→eq, lit<}
use lib.Count.{ones, ones_in, ones_cat, ones-le}
use lib.ListN.{length}
use lib.Pow.{pow_pos}
use Rattle.rules.specs.Sets.{has}
use Rattle.rules.specs.Net.{Far, switch, node, nothing, follow}
use Rattle.rules.specs.Header.{Picks, Words, permits, Passes}
use Rattle.rules.proofs.SetLaws.{same-T, eq-T, same, member, has-single}
use Rattle.rules.proofs.Ways.{from-node, from_nothing, unstep, shortest-tail}
use Rattle.rules.proofs.Stages.{picks-length, some-picks}

-- ---- a word with one port permits one

ones-single : (p : ℕ) → ones (2 ^ p) ≡ 1
unfolding ones ones_in
ones-single p =
    let e : 2 ^ p ≡ 1 * 2 ^ p + 0 = omega arith in
    ap ones e ∙ ones_cat p 1 0 (pow_pos p)

alone-single : (w p : ℕ) → T (has p w) → ((q : ℕ) → T (has q w) → q ≡ p) → w ≡ 2 ^ p
alone-single w p h f =
    same w (2 ^ p) (λ q. same-T (has q w) (eqb q p) (λ i. eq-T q p (f q i)) (λ i. subst (λ (x : ℕ). T (has x w)) (sym (eqb→eq q p i)) h) ∙ sym (has-single p q))

-- ---- a header, word by word

module _ (far : ℕ → ℕ → Far) (d : ℕ) where
  -- the words after the first pass from a switch that the first leads to
  passes-tail : (a w v : ℕ) (ws : List ℕ) → Passes far a d (w ∷ v ∷ ws) → (s : ℕ) × Passes far s d (v ∷ ws)
  unfolding Words Picks
  passes-tail a w v ws h = at (far a m.0) refl
    where
      m : (p : ℕ) × T (has p w)
      m = member w h.words.0

      r : (ps : List ℕ) × Picks ps (v ∷ ws)
      r = some-picks (v ∷ ws) h.words.2

      leads : follow far (m.0 ∷ r.0) (switch a) ≡ node d
      leads = (h.right (m.0 ∷ r.0) (m.1, r.1)).leads

      at : (x : Far) → far a m.0 ≡ x → (s : ℕ) × Passes far s d (v ∷ ws)
      at (switch s) e = (s, record { words = h.words.2; right = λ ps k. shortest-tail far e (h.right (m.0 ∷ ps) (m.1, k)) })
      at (node n) e =
          let i = ap length (from-node far r.0 n d (unstep far r.0 e leads)).0 in
          let j = picks-length r.0 (v ∷ ws) r.1 in absurd (omega arith)
      at nothing e = absurd (from_nothing far r.0 d (unstep far r.0 e leads))

  module _ (alone : (s p q : ℕ) → far s p ≡ node d → far s q ≡ node d → p ≡ q) where
    -- at its last word only the destination's own port is left
    last_one : (a w : ℕ) → Passes far a d (w ∷ []) → ones w ≡ 1
    unfolding Words Picks follow
    last_one a w h =
        let m = member w h.words.0 in
        let there : (q : ℕ) → T (has q w) → far a q ≡ node d = λ q i. (h.right (q ∷ []) (i, tt)).leads in
        ap ones (alone-single w m.0 m.1 (λ q i. alone a q m.0 (there q i) (there m.0 m.1))) ∙ ones-single m.0

    pub passes-few : (a w : ℕ) (ws : List ℕ) → Passes far a d (w ∷ ws) → permits (w ∷ ws) ≤ 8 ^ length ws
    unfolding permits Words
    passes-few a w [] h = let e = last_one a w h in omega arith
    passes-few a w (v ∷ ws) h =
        let r = passes-tail a w v ws h in rw pow-succ' (mul-le-mul (ones-le 8 w h.words.1) (passes-few r.0 v ws r.1))

    -- with the most words there can be
    pub permits-few : (a : ℕ) (ws : List ℕ) → Passes far a d ws → length ws ≤ 8 → permits ws ≤ 8 ^ 7
    unfolding permits
    permits-few a [] h l = omega arith
    permits-few a (w ∷ ws) h l = le_trans (passes-few a w ws h) (pow-le-pow_right {n = 8} (lit< tt) {j = 7} (omega arith))
