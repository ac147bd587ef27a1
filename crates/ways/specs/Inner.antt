-- What the private functions of the search and of the masks ask of their callers, and what they give. Assumes nothing.
--
--   Listed, Expands, Expanded, Ready     the conditions of arrive, expand and all_masks
--   Meets t a d r                          how the search met the target
use Rattle.std.specs.Prelude.{Result, IfOk, ℕ, suc, ◌<◌, ◌≡◌, List, [], get_or}
use Rattle.rules.specs.declared.Refusal.{Refusal}
use Rattle.rules.specs.Answers.{judged}
use Rattle.ways.specs.declared.Met.{Met}
use Rattle.ways.specs.declared.search.Search as found
use Rattle.rules.specs.Net.{Distance}
use Rattle.rules.specs.Table.{house, far_of, switches}
use Rattle.rules.specs.Look.{first}
use Rattle.rules.specs.RunTable.{home}
use Rattle.rules.specs.RunPair.{distance, look_apart}
use Rattle.ways.specs.Search.{Searched, Queue}

-- the first of the order are switches
pub record Listed (size : ℕ) (order : List ℕ) (reached : ℕ) : Type 0 where
  pub inside : (i : ℕ) → i < reached → get_or order i 0 < size

-- the search has next switches gone on from, and one that is not
pub record Expands (t : List ℕ) (next : ℕ) (search : found.Search) : Type 0 where
  pub there : next < search.reached
  pub queue : Queue (far_of house t) (switches t) (get_or search.order 0 0) search.order search.depth search.reached next

-- that one has been gone on from too
pub record Expanded (t : List ℕ) (next : ℕ) (search search' : found.Search) : Type 0 where
  pub queue : Queue (far_of house t) (switches t) (get_or search.order 0 0) search'.order search'.depth search'.reached (suc next)

pub record Ready (t : List ℕ) (d a : ℕ) (order depth : List ℕ) (reached n : ℕ) : Type 0 where
  pub searched : Searched (far_of house t) (switches t) a order depth reached
  pub distance : Distance (far_of house t) a d n

-- the first of the refusals 4 to 6 that is given; where none is, the source's switch, the distance, and what the search found
pub record Meets (t : List ℕ) (a d : ℕ) (r : Result Met Refusal) : Type 0 where
  pub answer : judged r ≡ first (look_apart house t a d [])
  pub met : IfOk r (λ m. (m.home ≡ home house t a) × (m.distance ≡ distance house t a d) × Ready t d m.home m.found.order m.found.depth m.found.reached m.distance)
