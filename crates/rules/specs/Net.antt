-- A network, following a list of ports through it, and which lists are shortest: what distance, unreachable and mask mean.
-- `far s p` is what port p of switch s leads to. Everything here is over any such `far`. Assumes nothing.
--
--   follow far ps x         where the list of ports ps leads from x
--   Shortest far x y ps     ps leads from x to y, and no shorter list does
--   Distance far a d n      n switches are passed from switch a to node d
--   Unreachable far a d     no list of ports leads from switch a to node d
--   Onward far d s p        port p of switch s starts a shortest way onward to node d
--   OnWay far a d s         switch s lies on a shortest way from switch a to node d
--   InMask far a d s p      port p is in the mask of switch s for that pair
--   Wired far size          only ports 0 to 7 of the switches below size lead anywhere, and only to those switches
use Rattle.std.specs.Prelude.{ℕ, suc, ◌+◌, ◌≤◌, ◌<◌, ◌≡◌, List, [], ◌∷◌, length}

-- 01: "a link to that switch", "processor", "no link"
pub data Far : Type 0 where
  switch : ℕ → Far
  node : ℕ → Far
  nothing : Far

module _ (far : ℕ → ℕ → Far) where
  -- 01: "A processor never forwards."
  unfoldable pub follow : List ℕ → Far → Far
  follow [] x = x
  follow (p ∷ ps) (switch s) = follow ps (far s p)
  follow (p ∷ ps) (node n) = nothing
  follow (p ∷ ps) nothing = nothing

  -- 00, demand 3: "a delivery if following it from the source's switch ends at the destination in the fewest hops, with no port left over"
  pub record Shortest (x y : Far) (ps : List ℕ) : Type 0 where
    pub leads : follow ps x ≡ y
    pub least : (qs : List ℕ) → follow qs x ≡ y → length ps ≤ length qs

  -- 01: "Distance counts switches passed." Each port of the list leaves one.
  pub record Distance (a d n : ℕ) : Type 0 where
    pub way : List ℕ
    pub short : Shortest (switch a) (node d) way
    pub long : length way ≡ n

  -- 01: "no chain of links joins them"
  abbrev pub Unreachable : ℕ → ℕ → Type 0
  Unreachable a d = (ps : List ℕ) → ¬ (follow ps (switch a) ≡ node d)

  -- 00, demand 2: "it starts a shortest way onward"
  pub record Onward (d s p : ℕ) : Type 0 where
    pub rest : List ℕ
    pub short : Shortest (switch s) (node d) (p ∷ rest)

  -- 01: "its distance from the source plus its distance to the destination, each counted in switches with the switch itself in both,
  -- is the pair's distance plus 1"
  pub record OnWay (a d s : ℕ) : Type 0 where
    pub before : List ℕ
    pub m : ℕ
    pub n : ℕ
    pub reached : Shortest (switch a) (switch s) before
    pub onward : Distance s d m
    pub whole : Distance a d n
    pub sum : suc (length before) + m ≡ suc n

  -- 01: "Its mask has bit p exactly when port p starts a shortest way onward. A switch off every shortest way has mask 0."
  pub record InMask (a d s p : ℕ) : Type 0 where
    pub way : OnWay a d s
    pub port : Onward d s p

  pub record Wired (size : ℕ) : Type 0 where
    pub inside : (s p : ℕ) → ¬ (far s p ≡ nothing) → (s < size) × (p < 8)
    pub link : (s p t : ℕ) → far s p ≡ switch t → t < size
