-- What is kept of a search, and recalled: a search that is not over its budget finds the same for every budget that is no less than its
-- tries, and is over every smaller one. Assumes nothing.
use Prim.Native.Nat.{ℕ, ◌-◌}
use mathlib.Core.Path.{◌≡◌, sym, ap, ◌∙◌}
use lib.Dec.{leb, eqb, eqb→eq}
use Rattle.std.specs.Prelude.{Option, Some, None}
use Rattle.std.proofs.lemmas.Option.{cond_some, none-some}
use Rattle.rules.specs.Net.{Far}
use Rattle.rules.specs.Tries.{tries}
use Rattle.rules.specs.Run.{best}
use Rattle.rules.proofs.SetLaws.{T_true}
use Rattle.found.specs.declared.Found.{Found}
use Rattle.found.specs.declared.Kept.{Kept}
use Rattle.found.specs.Found.{recalled_of, within_room}
use Rattle.header.specs.Search.{found, found_of, Recalls}

module _ (far : ℕ → ℕ → Far) (size : ℕ) (mask : ℕ → ℕ) (m n room : ℕ) where
  F : Found
  F = found (best far size mask n m) (tries far size mask (n - 1) m)

  -- what is found now may be kept
  pub found-kept : (f : Found) → found_of far size mask m n room ≡ Some f → Recalls far size mask n (Some (record { set = m; found = f }))
  unfolding found_of
  found-kept f e = sym (cond_some (leb (tries far size mask (n - 1) m) room) (found (best far size mask n m) (tries far size mask (n - 1) m)) f e).1

  within-found : (f : Found) → f ≡ F → within_room f room ≡ found_of far size mask m n room
  unfolding found_of found F
  within-found f e = ap (λ (x : Found). within_room x room) e

  -- what was found just now
  pub recalled-found : (f : Found) → found_of far size mask m n room ≡ Some f → within_room f room ≡ found_of far size mask m n room
  unfolding F
  recalled-found f e = within-found f (found-kept f e)

  -- what was found before
  pub recalled-kept : (k : Option Kept) → Recalls far size mask n k → (f : Found) → recalled_of k m ≡ Some f
      → within_room f room ≡ found_of far size mask m n room
  unfolding F
  recalled-kept None h f e = absurd (none-some f e)
  recalled-kept (Some k) h f e =
      let g = cond_some (eqb k.set m) k.found f e in
      within-found f (sym g.1 ∙ h ∙ ap (λ (x : ℕ). found (best far size mask n x) (tries far size mask (n - 1) x)) (eqb→eq k.set m (T_true g.0)))
