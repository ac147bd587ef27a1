-- The header test, word by word: a header passes from a set exactly where its first word is a choice among the common ports and the rest
-- passes from the set that the word reaches. Assumes nothing.
use Prim.Native.Nat.{ℕ, suc, ◌+◌, ◌^◌, ◌≤◌, ◌<◌, zero-le}
use native.Mathlib.Numerals.{add-one}
use native.Mathlib.Omega.{arith}
use borrow.Author.Tests.{lt-ltb, le-ltb, eq-eqb, ne_eqb}
use mathlib.Core.Path.{◌≡◌, refl, sym, ap, ap₂, ◌∙◌, subst}
use mathlib.Core.Bool.{Bool, true, false, ◌&&◌}
use mathlib.Core.List.{List}
use lib.Dec.{ltb}
use lib.ListN.{length, get_or, drop, drop_of_length-le}
use lib.Seq.{drop-cons}
use lib.Bits.{bit_and}
use Rattle.std.proofs.Math.Bool.{and-false}
use Rattle.rules.specs.Sets.{within}
use Rattle.rules.specs.Table.{house, switches, far_of}
use Rattle.rules.specs.Tries.{common, choice, chooses, reach}
use Rattle.rules.proofs.Tables.{far_of-wired}
use Rattle.header.specs.Search.{singles, joined}
use Rattle.header.proofs.LeafLaws.{reach-lt, common-size, joined-reach}

choice-yes : (w c : ℕ) → (w ≡ 0 → ⊥) → bit_and w c ≡ w → choice w c ≡ true
unfolding choice within
choice-yes w c n e = ap₂ ◌&&◌ (lt-ltb 0 w (omega arith)) (eq-eqb (bit_and w c) w e)

choice-empty : (w c : ℕ) → w ≡ 0 → choice w c ≡ false
unfolding choice
choice-empty w c e = ap (λ (b : Bool). b && within w c) (le-ltb 0 w (omega arith))

choice-outside : (w c : ℕ) → (bit_and w c ≡ w → ⊥) → choice w c ≡ false
unfolding choice within
choice-outside w c n = ap (λ (b : Bool). ltb 0 w && b) (ne_eqb (bit_and w c) w n) ∙ and-false (ltb 0 w)

module _ (t : List ℕ) (mask : ℕ → ℕ) (start : ℕ) (header : List ℕ) where
  -- the words below i are choices, and what is left of the header is to pass from the set m
  pub record Passing (m i : ℕ) : Type 0 where
    pub bound : i ≤ length header
    pub few : switches t ≤ 64
    pub inside : m < 2 ^ switches t
    pub same : chooses (far_of house t) (switches t) mask start header ≡ chooses (far_of house t) (switches t) mask m (drop i header)

  pub passing_start : switches t ≤ 64 → start < 2 ^ switches t → Passing start 0
  passing_start few h = record { bound = zero-le; few = few; inside = h; same = refl }

  pub passing_all : {m i : ℕ} → Passing m i → length header ≤ i → true ≡ chooses (far_of house t) (switches t) mask start header
  unfolding chooses
  passing_all {m} h l = sym (h.same ∙ ap (chooses (far_of house t) (switches t) mask m) (drop_of_length-le header l))

  module _ {m i : ℕ} (h : Passing m i) (less : i < length header) where
    w : ℕ
    w = get_or header i 0

    next : chooses (far_of house t) (switches t) mask start header
        ≡ (choice w (common (switches t) mask m) && chooses (far_of house t) (switches t) mask (reach (far_of house t) (switches t) m w) (drop (suc i) header))
    unfolding chooses w
    next = h.same ∙ ap (chooses (far_of house t) (switches t) mask m) (drop-cons header i 0 less)

    stop : choice w (common (switches t) mask m) ≡ false → false ≡ chooses (far_of house t) (switches t) mask start header
    stop e = sym (next ∙ ap (λ (b : Bool). b && chooses (far_of house t) (switches t) mask (reach (far_of house t) (switches t) m w) (drop (suc i) header)) e)

    pub passing_empty : get_or header i 0 ≡ 0 → false ≡ chooses (far_of house t) (switches t) mask start header
    unfolding w
    passing_empty e = stop (choice-empty w (common (switches t) mask m) e)

    -- the common ports, as the code has them
    module _ {ports : ℕ} (found : ports ≡ common 64 mask m) where
      ports-are : ports ≡ common (switches t) mask m
      ports-are = found ∙ common-size (switches t) mask m h.inside h.few

      pub passing_outside : (bit_and (get_or header i 0) ports ≡ get_or header i 0 → ⊥) → false ≡ chooses (far_of house t) (switches t) mask start header
      unfolding w
      passing_outside n = stop (ap (choice w) (sym ports-are) ∙ choice-outside w ports n)

      pub passing_on : {n : ℕ} {sets : List ℕ} → (get_or header i 0 ≡ 0 → ⊥) → bit_and (get_or header i 0) ports ≡ get_or header i 0
          → sets ≡ singles (far_of house t) (switches t) m (get_or header i 0) → n ≡ joined sets (get_or header i 0) 8 → Passing n (i + 1)
      unfolding w
      passing_on {n} {sets} some inside by to =
          let reached : n ≡ reach (far_of house t) (switches t) m w =
          to ∙ ap (λ (x : List ℕ). joined x w 8) by ∙ joined-reach (far_of house t) (switches t) (far_of-wired house t) m w w (λ p h. h) in
          record {
            bound = omega arith;
            few = h.few;
            inside = subst (λ (x : ℕ). x < 2 ^ switches t) (sym reached) (reach-lt (far_of house t) (switches t) m w);
            same = next
                ∙ ap (λ (b : Bool). b && chooses (far_of house t) (switches t) mask (reach (far_of house t) (switches t) m w) (drop (suc i) header))
                (ap (choice w) (sym ports-are) ∙ choice-yes w ports some inside)
                ∙ ap₂ (λ (x : ℕ) (k : ℕ). chooses (far_of house t) (switches t) mask x (drop k header)) (sym reached) (sym (add-one i));
          }
