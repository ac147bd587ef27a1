-- What the search from the source's switch finds, and what it keeps while it runs. Assumes nothing.
--
--   Depths far a depth       depth s is 0 where no list leads from switch a to switch s, and else one more than the shortest list has ports
--   Searched .. o d n        the first n of o are the switches reached, the nearer before the farther, and d has their depths
--   Queue .. o d n i         the same while the search runs: the first i of o have been gone on from
use Rattle.std.specs.Prelude.{ℕ, zero, suc, ◌≤◌, ◌<◌, ◌≡◌, List, length, get_or, ltb}
use Rattle.rules.specs.Sets.{count}
use Rattle.rules.specs.Net.{Far, switch, follow}

pub record Depths (far : ℕ → ℕ → Far) (a : ℕ) (depth : ℕ → ℕ) : Type 0 where
  pub led : (s k : ℕ) → depth s ≡ suc k → (ps : List ℕ) × (follow far ps (switch a) ≡ switch s) × (length ps ≡ k)
  pub near : (ps : List ℕ) (s : ℕ) → follow far ps (switch a) ≡ switch s → (zero < depth s) × (depth s ≤ suc (length ps))

module _ (far : ℕ → ℕ → Far) (size a : ℕ) (order depth : List ℕ) (reached : ℕ) where
  abbrev pub D : ℕ → ℕ
  D s = get_or depth s 0

  abbrev pub O : ℕ → ℕ
  O i = get_or order i 0

  pub record Searched : Type 0 where
    pub depths : Depths far a D
    pub few : reached ≤ size
    pub small : (s : ℕ) → D s ≤ size
    pub inside : (s : ℕ) → zero < D s → s < size
    pub listed : (i : ℕ) → i < reached → zero < D (O i)
    pub found : (s : ℕ) → zero < D s → (i : ℕ) × (i < reached) × (O i ≡ s)
    pub rising : (i j : ℕ) → i ≤ j → j < reached → D (O i) ≤ D (O j)

  -- The depths so far are those of lists, no two in the queue are more than one apart, and what was gone on from has all its links seen.
  pub record Queue (next : ℕ) : Type 0 where
    pub counted : reached ≡ count size (λ s. ltb 0 (D s))
    pub some : next ≤ reached
    pub start : (O 0 ≡ a) × (D a ≡ 1)
    pub inside : (s : ℕ) → zero < D s → s < size
    pub listed : (i : ℕ) → i < reached → zero < D (O i)
    pub found : (s : ℕ) → zero < D s → (i : ℕ) × (i < reached) × (O i ≡ s)
    pub led : (s k : ℕ) → D s ≡ suc k → (ps : List ℕ) × (follow far ps (switch a) ≡ switch s) × (length ps ≡ k)
    pub low : (i : ℕ) → i < reached → D (O i) ≤ suc i
    pub rising : (i j : ℕ) → i ≤ j → j < reached → D (O i) ≤ D (O j)
    pub window : (i j : ℕ) → next ≤ i → i < reached → j < reached → D (O j) ≤ suc (D (O i))
    pub closed : (i p v : ℕ) → i < next → far (O i) p ≡ switch v → (zero < D v) × (D v ≤ suc (D (O i)))
