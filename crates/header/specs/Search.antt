-- What the search for the widest header gives, and its pieces. Assumes nothing.
--
--   Searches t m n                 a set of switches of the table, and from 1 to 8 words to find
--   placed ws                      the words at the end of eight bytes
--   found_of .. m n k               the widest header of n words from the set m, None where it takes more than k tries: the twin `best`, and 01's `tries`
--   Recalls .. n k                 what is kept of a search for n words, if anything is: what a search from its set finds
--   next_choice w c                 the least choice among c that is not below w, or 256
--   Leaves m s n                   s is the lowest switch of the set m, and n has the others
--   singles, joined                the sets that the ports of a word reach alone; those of a word's ports together
--   Alike a b                      two sets that the search does not tell apart
--   Grouped m c sets               for each port a set like the one that it reaches alone from m
use Rattle.std.specs.Prelude.{ℕ, zero, suc, ◌+◌, ◌-◌, ◌^◌, ◌≤◌, ◌<◌, ◌≡◌, cond, List, ◌++◌, length, get_or, replicate, T, leb, Option, Some, None, IfSome, ◌↔◌}
use Rattle.std.specs.Int.Bits.{bit_or}
use Rattle.found.specs.declared.Found.{Found}
use Rattle.found.specs.declared.Kept.{Kept}
use Rattle.rules.specs.Sets.{has, least, tabulate}
use Rattle.rules.specs.Net.{Far}
use Rattle.rules.specs.Header.{permits}
use Rattle.rules.specs.Tries.{choice, common, reach, tries}
use Rattle.rules.specs.Run.{best}
use Rattle.rules.specs.Table.{switches}

pub record Searches (t : List ℕ) (m n : ℕ) : Type 0 where
  pub inside : m < 2 ^ switches t
  pub some : 1 ≤ n
  pub few : n ≤ 8

-- ---- the search

abbrev pub placed : List ℕ → List ℕ
placed ws = replicate (8 - length ws) 0 ++ ws

unfoldable pub words_in : Option (List ℕ) → List ℕ
words_in None = replicate 8 0
words_in (Some ws) = placed ws

unfoldable pub count_in : Option (List ℕ) → ℕ
count_in None = 0
count_in (Some ws) = permits ws

unfoldable pub found : Option (List ℕ) → ℕ → Found
found h k = record { words = words_in h; count = count_in h; tries = k }

unfoldable pub found_of : (ℕ → ℕ → Far) → ℕ → (ℕ → ℕ) → ℕ → ℕ → ℕ → Option Found
found_of far size mask m n budget =
    let k = tries far size mask (n - 1) m in cond (leb k budget) (Some (found (best far size mask n m) k)) None

-- ---- what is kept of it

abbrev pub Recalls : (ℕ → ℕ → Far) → ℕ → (ℕ → ℕ) → ℕ → Option Kept → Type 0
Recalls far size mask n k = IfSome k (λ k. k.found ≡ found (best far size mask n k.set) (tries far size mask (n - 1) k.set))

-- ---- its pieces

pub record Leaves (m s n : ℕ) : Type 0 where
  pub here : T (has s m)
  pub lowest : (j : ℕ) → j < s → T (has j m) → ⊥
  pub others : (j : ℕ) → T (has j n) ↔ (T (has j m) × (j ≡ s → ⊥))

unfoldable pub next_choice : ℕ → ℕ → ℕ
next_choice w c = w + least (256 - w) (λ k. choice (w + k) c)

-- the sets that the ports of c reach alone; a port outside c has the empty set
unfoldable pub singles : (ℕ → ℕ → Far) → ℕ → ℕ → ℕ → List ℕ
singles far size m c = tabulate 8 (λ p. cond (has p c) (reach far size m (2 ^ p)) 0)

-- the sets of the ports below k that are in w
unfoldable pub joined : List ℕ → ℕ → ℕ → ℕ
joined sets w zero = 0
joined sets w (suc k) = cond (has k w) (bit_or (joined sets w k) (get_or sets k 0)) (joined sets w k)

-- ---- sets that the search does not tell apart

module _ (far : ℕ → ℕ → Far) (size : ℕ) (mask : ℕ → ℕ) where
  -- their common ports are the same, and each of these reaches the same set from both
  pub record Alike (a b : ℕ) : Type 0 where
    pub commons : common size mask a ≡ common size mask b
    pub reached : (p : ℕ) → T (has p (common size mask a)) → reach far size a (2 ^ p) ≡ reach far size b (2 ^ p)

  pub record Grouped (m c : ℕ) (sets : List ℕ) : Type 0 where
    pub inside : (p : ℕ) → p < 8 → get_or sets p 0 < 2 ^ size
    pub alike : (p : ℕ) → p < 8 → Alike (get_or sets p 0) (get_or (singles far size m c) p 0)
