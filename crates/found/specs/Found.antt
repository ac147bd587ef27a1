-- What a header search has found, as numbers and eight bytes. Assumes nothing.
--
--   last_found c             the last stage, where the common ports are c
--   wider_found k r w n      the wider of the header k and that of the word w before the rest r, n words in all
--   total_found b k budget   the best header, with k tries in all; the same as an Err where these pass the budget
--   recalled_of k m          what is kept of the set m; None where nothing is, or of another set
--   within_room f room       what was found; None where its tries pass the room
--   written ws out           the words, zeros up to the eighth byte, and what stood after them
use Rattle.std.specs.Prelude.{ℕ, ◌-◌, ◌*◌, ◌%◌, ◌^◌, cond, ◌||◌, List, ◌++◌, length, set, drop, replicate, eqb, ltb, leb, Option, Some, None, Result, Ok, Err}
use Rattle.std.specs.Int.Count.{ones}
use Rattle.found.specs.declared.Found.{Found}
use Rattle.found.specs.declared.Kept.{Kept}

-- the last stage takes all common ports, and none are no header
abbrev pub last_found : ℕ → Found
last_found c = record { words = set (replicate 8 0) 7 c; count = ones c; tries = 0 }

unfoldable pub wider_found : Found → Found → ℕ → ℕ → Found
wider_found kept rest w n =
    let k = rest.count % 2 ^ 29 * ones w in cond (leb k kept.count) kept (record { words = set rest.words (8 - n) w; count = k; tries = 0 })

abbrev pub total_found : Found → ℕ → ℕ → Result Found Found
total_found best k budget = let f : Found = record { words = best.words; count = best.count; tries = k } in cond (leb k budget) (Ok f) (Err f)

abbrev pub recalled_of : Option Kept → ℕ → Option Found
recalled_of None m = None
recalled_of (Some k) m = cond (eqb k.set m) (Some k.found) None

abbrev pub within_room : Found → ℕ → Option Found
within_room f room = cond (leb f.tries room) (Some f) None

unfoldable pub written : List ℕ → List ℕ → List ℕ
written words out =
    let o = words ++ (replicate (8 - length words) 0 ++ drop 8 out) in cond (ltb (length out) 8 || ltb 8 (length words)) out o
