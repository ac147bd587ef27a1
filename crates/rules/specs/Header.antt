-- Headers: lists of words, each word a set of ports; what one permits, which pass the test, and which is the widest. Assumes nothing.
--
--   Picks ps ws        ps has one port of each word of ws, and no more ports
--   Words ws           each word is a byte, and none is empty
--   permits ws         the number of lists that the header permits
--   Before g h         g is h, or has the lower byte where the two first differ
--   Best P h           of the headers with the property P, h permits the most lists, and of those that permit as many it is the first
--   Passes far a d ws  the header passes the test from switch a to node d
use Rattle.std.specs.Prelude.{ℕ, zero, ◌*◌, ◌≤◌, ◌<◌, ◌≡◌, ◌⊎◌, List, [], ◌∷◌, T}
use Rattle.std.specs.Int.Count.{ones}
use Rattle.rules.specs.Sets.{has}
use Rattle.rules.specs.Net.{Far, switch, node, Shortest}

-- 00, demand 3: "every list with one port from each word"
unfoldable pub Picks : List ℕ → List ℕ → Type 0
Picks [] [] = Unit {0}
Picks [] (w ∷ ws) = ⊥
Picks (p ∷ ps) [] = ⊥
Picks (p ∷ ps) (w ∷ ws) = T (has p w) × Picks ps ws

-- 00, demand 3: "no word is empty"; 01: a header is bytes
unfoldable pub Words : List ℕ → Type 0
Words [] = Unit {0}
Words (w ∷ ws) = (zero < w) × (w < 256) × Words ws

-- 01: "The number of lists a header permits is the product of the ones in its words."
unfoldable pub permits : List ℕ → ℕ
permits [] = 1
permits (w ∷ ws) = ones w * permits ws

-- 01: "Byte order compares the first differing byte as an unsigned number."
unfoldable pub Before : List ℕ → List ℕ → Type 0
Before [] hs = Unit {0}
Before (g ∷ gs) [] = ⊥
Before (g ∷ gs) (h ∷ hs) = (g < h) ⊎ ((g ≡ h) × Before gs hs)

-- 00, demand 3: "permits at least as many lists as any other that passes, and among equals is first in byte order"
pub record Best (P : List ℕ → Type 0) (h : List ℕ) : Type 0 where
  pub one : P h
  pub most : (g : List ℕ) → P g → permits g ≤ permits h
  pub first : (g : List ℕ) → P g → permits g ≡ permits h → Before h g

-- 00, demand 3: "no word is empty and every list with one port from each word is a delivery"
pub record Passes (far : ℕ → ℕ → Far) (a d : ℕ) (ws : List ℕ) : Type 0 where
  pub words : Words ws
  pub right : (ps : List ℕ) → Picks ps ws → Shortest far (switch a) (node d) ps
