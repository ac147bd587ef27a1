-- The twins that compute: distance, masks and the widest header, over a network of `size` switches. Nothing here has to be believed: the
-- laws of proofs/ tie each to its meaning in Net and Header. Assumes nothing.
--
--   near k, dist_to s       the switches within k ports of node d; the distance of s from it, or size + 1
--   onward s, met i m      the ports of s that start a shortest way; the switches i such ports onward from the set m
--   mask_of a s             the mask of switch s for the pair of switch a and node d
--   best n m               the widest header of n words from the set m, the first of equals; none where there is none
use Rattle.std.specs.Prelude.{ℕ, zero, suc, ◌-◌, ◌^◌, Bool, false, cond, ◌&&◌, List, [], ◌∷◌, eqb, ltb, leb}
use Rattle.std.specs.Prelude.{Option, None, Some}
use Rattle.rules.specs.Sets.{has, any, set_of, least}
use Rattle.rules.specs.Net.{Far, switch, node, nothing}
use Rattle.rules.specs.Header.{permits}
use Rattle.rules.specs.Tries.{reaches, reach, common, choice}

-- the one that permits more, and of equals the first
unfoldable pub wider : Option (List ℕ) → Option (List ℕ) → Option (List ℕ)
wider None y = y
wider (Some h) None = Some h
wider (Some h) (Some g) = cond (ltb (permits h) (permits g)) (Some g) (Some h)

unfoldable pub put : ℕ → Option (List ℕ) → Option (List ℕ)
put w None = None
put w (Some ws) = Some (w ∷ ws)

-- the widest of the headers whose first word w is below n and whose rest is f w
unfoldable pub widest : ℕ → (ℕ → Option (List ℕ)) → Option (List ℕ)
widest zero f = None
widest (suc w) f = wider (widest w f) (put w (f w))

module _ (far : ℕ → ℕ → Far) (size : ℕ) where
  module _ (d : ℕ) where
    unfoldable pub arrives : ℕ → Far → Bool
    arrives m (switch s) = has s m
    arrives m (node n) = eqb n d
    arrives m nothing = false

    unfoldable pub near : ℕ → ℕ
    near zero = 0
    near (suc k) = let m = near k in set_of size (λ s. any 8 (λ p. arrives m (far s p)))

    unfoldable pub dist_to : ℕ → ℕ
    dist_to s = least (suc size) (λ k. has s (near k))

    unfoldable pub onward : ℕ → ℕ
    onward s = set_of 8 (λ p. arrives (near (dist_to s - 1)) (far s p))

    unfoldable pub met : ℕ → ℕ → ℕ
    met zero m = m
    met (suc i) m = met i (set_of size (reaches far size m onward))

    unfoldable pub mask_of : ℕ → ℕ → ℕ
    mask_of a s = cond (leb (dist_to s) (dist_to a) && has s (met (dist_to a - dist_to s) (2 ^ a))) (onward s) 0

  module _ (mask : ℕ → ℕ) where
    unfoldable pub best : ℕ → ℕ → Option (List ℕ)
    best zero m = Some []
    best (suc n) m = let c = common size mask m in widest 256 (λ w. let r = best n (reach far size m w) in cond (choice w c) r None)
