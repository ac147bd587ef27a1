-- A wiring table: what its entries mean, the network that it is, its faults, and where a processor stands. Assumes nothing.
--
--   Sizes            the largest number of switches, the entry of processor 0, the number of processors
--   house, no_link    the sizes of 01, and its entry for no link
--   kind z n e       what the entry e is in a table of n switches; leads: where such an entry leads; kind_at z t i: entry i of a table
--   far_of z t        the table as a network: eight entries for each switch, switch 0 first, port 0 first
--   WrongLength, BadAt, Again      the faults of refusals 1, 2 and 3
--   Sound z t        the table has none of them
--   Stands z t a s   processor a stands at a port of switch s; Attached z t a: at some
use Rattle.std.specs.Prelude.{ℕ, ◌+◌, ◌*◌, ◌-◌, ◌/◌, ◌%◌, ◌<◌, ◌≡◌, ◌⊎◌, cond, ◌&&◌, List, length, get_or, eqb, ltb, leb}
use Rattle.rules.specs.declared.Entry.{Entry}
use Rattle.rules.specs.declared.Entry.TheVariants.{Switch, Node, Nothing, Bad}
use Rattle.rules.specs.Net.{Far, switch, node, nothing}

pub record Sizes : Type 0 where
  pub most : ℕ
  pub first : ℕ
  pub nodes : ℕ

-- 01: "N is 1 to 64", "1000 to 1511: processor 0 to 511". The one definition that knows these numbers; 01's cases write them out.
abbrev pub house : Sizes
house = record { most = 64; first = 1000; nodes = 512 }

-- 01: "65535: no link"
abbrev pub no_link : ℕ
no_link = 65535

-- 01: "each entry is one of these and nothing else"
unfoldable pub kind : Sizes → ℕ → ℕ → Entry
kind z n e =
    cond (ltb e n) (Switch e)
    (cond (leb z.first e && ltb e (z.first + z.nodes)) (Node (e - z.first))
    (cond (eqb e no_link) Nothing Bad))

-- 01: "a link to that switch", "processor 0 to 511", "no link". A bad entry leads nowhere; refusal 2 is given for it.
unfoldable pub leads : Entry → Far
leads (Switch s) = switch s
leads (Node a) = node a
leads Nothing = nothing
leads Bad = nothing

-- 01: "eight for each switch"
unfoldable pub switches : List ℕ → ℕ
switches t = length t / 8

module _ (z : Sizes) (t : List ℕ) where
  -- 01: "With N switches, each entry is one of these"
  unfoldable pub kind_at : ℕ → Entry
  kind_at i = kind z (switches t) (get_or t i no_link)

  -- 01: "eight for each switch, switch 0 first, port 0 first"
  unfoldable pub far_of : ℕ → ℕ → Far
  far_of s p = cond (ltb s (switches t) && ltb p 8) (leads (kind_at (8 * s + p))) nothing

  -- 01, refusal 1: "table length is 0, over 512, or no multiple of 8"
  abbrev pub WrongLength : Type 0
  WrongLength = (length t ≡ 0) ⊎ ((8 * z.most < length t) ⊎ ¬ (length t % 8 ≡ 0))

  -- 01, refusal 2: "some entry is none of the three kinds"
  pub record BadAt (i : ℕ) : Type 0 where
    pub inside : i < length t
    pub bad : kind_at i ≡ Bad

  -- 01, refusal 3: "index whose processor stands at a lower index too"
  pub record Again (i : ℕ) : Type 0 where
    pub inside : i < length t
    pub processor : ℕ
    pub here : kind_at i ≡ Node processor
    pub lower : ℕ
    pub below : lower < i
    pub there : kind_at lower ≡ Node processor

  -- 00, demand 2: "a table to which none of refusals 1 to 3 of paper 01 applies"
  pub record Sound : Type 0 where
    pub length-right : ¬ WrongLength
    pub none-bad : (i : ℕ) → ¬ (BadAt i)
    pub none-again : (i : ℕ) → ¬ (Again i)

  -- 01: "A processor stands at no more than one port and both sends and receives there."
  pub record Stands (a s : ℕ) : Type 0 where
    pub port : ℕ
    pub there : far_of s port ≡ node a

  -- 01, refusal 4: "a named processor isn't attached"
  abbrev pub Attached : ℕ → Type 0
  Attached a = (s : ℕ) × Stands a s
