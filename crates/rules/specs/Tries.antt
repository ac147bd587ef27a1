-- 01's rule for tries, and the parts it is made of, over a network of `size` switches and the masks of a pair. Assumes nothing.
--
--   reach far size m w      the set reached from the switches of the set m by the ports of w
--   common size mask m      the ports common to the masks of all switches of the set m
--   choice w c              w is a nonempty choice among the ports c
--   tries far size mask n m the tries from the set m with n stages before the last
--   chooses .. m ws         each word of ws is a nonempty choice among the common ports of the set reached
--   tried .. n m            the number of lists of 1 to n words that so choose: the rule said a second way
use Rattle.std.specs.Prelude.{ℕ, zero, suc, Bool, true, false, cond, ◌&&◌, ◌||◌, not, List, [], ◌∷◌, eqb, ltb}
use Rattle.rules.specs.Sets.{has, any, all, set_of, within, sum, lists}
use Rattle.rules.specs.Net.{Far, switch, node, nothing}

-- 01: "At most 65,536 tries are allowed"
abbrev pub limit : ℕ
limit = 65536

-- a port links to switch t
unfoldable pub is_switch : ℕ → Far → Bool
is_switch t (switch s) = eqb s t
is_switch t (node n) = false
is_switch t nothing = false

-- 01: "Each nonempty choice among those ports"
unfoldable pub choice : ℕ → ℕ → Bool
choice w c = ltb 0 w && within w c

-- 01: "the ports common to the masks of all switches in the set"
unfoldable pub common : ℕ → (ℕ → ℕ) → ℕ → ℕ
common size mask m = set_of 8 (λ p. all size (λ s. not (has s m) || has p (mask s)))

module _ (far : ℕ → ℕ → Far) (size : ℕ) where
  -- some switch of the set m has a port of its word that links to t
  unfoldable pub reaches : ℕ → (ℕ → ℕ) → ℕ → Bool
  reaches m word t = any size (λ s. has s m && any 8 (λ p. has p (word s) && is_switch t (far s p)))

  -- 01: "the set it reaches"
  unfoldable pub reach : ℕ → ℕ → ℕ
  reach m w = set_of size (reaches m (λ s. w))

  module _ (mask : ℕ → ℕ) where
    -- 01: "take the ports common to the masks of all switches in the set. Each nonempty choice among those ports is one try, and to it
    -- are added the tries of the stages that remain, from the set it reaches. The last stage adds none."
    unfoldable pub tries : ℕ → ℕ → ℕ
    tries zero m = 0
    tries (suc n) m = let c = common size mask m in sum 256 (λ w. let r = suc (tries n (reach m w)) in cond (choice w c) r 0)

    unfoldable pub chooses : ℕ → List ℕ → Bool
    chooses m [] = true
    chooses m (w ∷ ws) = choice w (common size mask m) && chooses (reach m w) ws

    unfoldable pub tried : ℕ → ℕ → ℕ
    tried n m = sum n (λ i. lists 256 (suc i) (chooses m))
