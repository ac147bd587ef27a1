-- Lists that are stored into, one place after another: the places passed have what the whole is to have, the others what they had before.
-- Assumes nothing.
use Prim.Native.Nat.{ℕ, ◌+◌, ◌≤◌, ◌<◌}
use native.Mathlib.Nat.{le_refl, not-suc-le-zero}
use native.Mathlib.Decide.{dec_lt}
use native.Mathlib.Omega.{arith}
use borrow.Author.Count.{below_more}
use mathlib.Core.Path.{◌≡◌, refl, sym, ◌∙◌, subst}
use mathlib.Core.List.{List}
use lib.ListN.{length, get_or, set, length-set}
use lib.Seq.{ext_get_or, get_or-set_same, get_or-set_other}

-- ---- one place after another

pub record Stored (whole before now : List ℕ) (i : ℕ) : Type 0 where
  pub size : length now ≡ length before
  pub done : (j : ℕ) → j < i → get_or now j 0 ≡ get_or whole j 0
  pub left : (j : ℕ) → i ≤ j → get_or now j 0 ≡ get_or before j 0

module _ {whole before : List ℕ} where
  pub stored-start : Stored whole before before 0
  stored-start = record { size = refl; done = λ j l. absurd (not-suc-le-zero l); left = λ j _. refl }

  module _ {now after : List ℕ} {i : ℕ} (h : Stored whole before now i) where
    pub stored_one : {v : ℕ} → i < length before → v ≡ get_or whole i 0 → after ≡ set now i v → Stored whole before after (i + 1)
    stored_one {v} l e is = subst (λ (x : List ℕ). Stored whole before x (i + 1)) (sym is) (record {
      size = length-set now i v ∙ h.size;
      done = below_more (λ j. get_or (set now i v) j 0 ≡ get_or whole j 0) i (λ j k. get_or-set_other now i j v 0 (λ z. omega arith) ∙ h.done j k)
          (get_or-set_same now i v 0 (let z = h.size in omega arith) ∙ e);
      left = λ j k. get_or-set_other now i j v 0 (λ z. omega arith) ∙ h.left j (omega arith);
    })

    pub stored-none : get_or before i 0 ≡ get_or whole i 0 → after ≡ now → Stored whole before after (i + 1)
    stored-none e is = subst (λ (x : List ℕ). Stored whole before x (i + 1)) (sym is) (record {
      size = h.size;
      done = below_more (λ j. get_or now j 0 ≡ get_or whole j 0) i h.done (h.left i (le_refl i) ∙ e);
      left = λ j k. h.left j (omega arith);
    })

  pub stored-all : {now : List ℕ} {i : ℕ} → Stored whole before now i → length whole ≡ length before
      → ((j : ℕ) → j < length before → i ≤ j → get_or before j 0 ≡ get_or whole j 0) → now ≡ whole
  stored-all {now} {i} h e rest = ext_get_or 0 now whole (h.size ∙ sym e) (λ j l. at j (let z = h.size in omega arith) (dec_lt j i))
    where
      at : (j : ℕ) → j < length before → Dec (j < i) → get_or now j 0 ≡ get_or whole j 0
      at j k (yes l) = h.done j l
      at j k (no l) = h.left j (omega arith) ∙ rest j k (omega arith)
