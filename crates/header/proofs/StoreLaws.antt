-- The sets of the ports, stored one after another: the ports passed that are followed have the sets that they reach alone, all others the empty
-- set. Assumes nothing.
use Prim.Native.Nat.{ℕ, ◌+◌, ◌/◌, ◌%◌, ◌^◌, ◌≤◌, ◌<◌}
use native.Mathlib.Omega.{arith}
use borrow.Author.Tests.{eq-eqb, ne_eqb}
use mathlib.Core.Path.{◌≡◌, sym, ap, ◌∙◌}
use mathlib.Core.Bool.{Bool, cond}
use mathlib.Core.List.{List}
use lib.ListN.{set, replicate, get_or-replicate}
use Rattle.rules.specs.Sets.{has}
use Rattle.rules.specs.Net.{Far}
use Rattle.rules.specs.Tries.{reach}
use Rattle.rules.proofs.Lists.{length-tabulate}
use Rattle.found.proofs.StoreLaws.{Stored, stored_one, stored-none, stored-all}
use Rattle.header.specs.Search.{singles}
use Rattle.header.proofs.LeafLaws.{singles-at, one-bit}
use lib.Bits.{bit_and}

module _ (far : ℕ → ℕ → Far) (size m c : ℕ) where
  module _ {now after : List ℕ} {p : ℕ} (h : Stored (singles far size m c) (replicate 8 0) now p) (l : p < 8) where
    pub port_followed : {n : ℕ} → bit_and (c / 2 ^ p) 1 ≡ 1 → n ≡ reach far size m (2 ^ p) → after ≡ set now p n → Stored (singles far size m c) (replicate 8 0) after (p + 1)
    unfolding has
    port_followed e is = stored_one h l (is ∙ sym (singles-at far size m c p l ∙ ap (λ (b : Bool). cond b (reach far size m (2 ^ p)) 0) (eq-eqb (c / 2 ^ p % 2) 1 (sym (one-bit c p) ∙ e))))

    pub port_left : (bit_and (c / 2 ^ p) 1 ≡ 1 → ⊥) → after ≡ now → Stored (singles far size m c) (replicate 8 0) after (p + 1)
    unfolding has
    port_left e = stored-none h
        (get_or-replicate 8 p 0 0 l ∙ sym (singles-at far size m c p l ∙ ap (λ (b : Bool). cond b (reach far size m (2 ^ p)) 0) (ne_eqb (c / 2 ^ p % 2) 1 (λ i. e (one-bit c p ∙ i)))))

  pub ports_all : {now : List ℕ} {p : ℕ} → Stored (singles far size m c) (replicate 8 0) now p → 8 ≤ p → now ≡ singles far size m c
  unfolding singles
  ports_all h l = stored-all h (length-tabulate 8 (λ p. cond (has p c) (reach far size m (2 ^ p)) 0)) (λ j k i. absurd (omega arith))
