-- What the search needs of these values: a count below 2 ^ 29 is multiplied as it is, and words are written where eight bytes are lent.
-- Assumes nothing.
use Rattle.std.proofs.Common.{ℕ, ◌-◌, ◌*◌, ◌^◌, ◌≤◌, ◌<◌, ◌≡◌, ap, ◌∙◌, cond, List, ◌++◌, length, take, drop, replicate, arith}
use native.Mathlib.Nat.{mod-eq_of_lt}
use borrow.Author.Tests.{le-ltb}
use lib.Dec.{leb}
use lib.ListN.{set, length-drop}
use lib.Count.{ones}
use Rattle.std.proofs.lemmas.Grind.{common_steps}
use Rattle.found.specs.declared.Found.{Found}
use Rattle.found.specs.Found.{wider_found, written}

-- the product of whole counts
abbrev pub wider_whole : Found → Found → ℕ → ℕ → Found
wider_whole kept rest w n =
    cond (leb (rest.count * ones w) kept.count) kept (record { words = set rest.words (8 - n) w; count = rest.count * ones w; tries = 0 })

pub wider-whole : (kept rest : Found) (w n : ℕ) → rest.count < 2 ^ 29 → wider_found kept rest w n ≡ wider_whole kept rest w n
unfolding wider_found
wider-whole kept rest w n l =
    ap (λ (k : ℕ). cond (leb (k * ones w) kept.count) kept (record { words = set rest.words (8 - n) w; count = k * ones w; tries = 0 }))
    (mod-eq_of_lt l)

-- the words, zeros up to the eighth byte, and what stood after them
abbrev pub words_over : List ℕ → List ℕ → List ℕ
words_over words out = words ++ (replicate (8 - length words) 0 ++ drop 8 out)

pub written_over : (words out : List ℕ) → 8 ≤ length out → length words ≤ 8 → written words out ≡ words_over words out
unfolding written
written_over words out l k = rw (le-ltb (length out) 8 l, le-ltb 8 (length words) k)

-- the last k of eight words, written
cut : (words : List ℕ) (k : ℕ) → take (length words - k) (drop k words) ≡ drop k words
cut words k = grind (arith, common_steps)

pub written_end : (words out : List ℕ) (k : ℕ) → length words ≡ 8 → 8 ≤ length out → k ≤ 8
    → written (take (length words - (8 - k)) (drop (8 - k) words)) out ≡ drop (8 - k) words ++ (replicate (8 - k) 0 ++ drop 8 out)
written_end words out k eight long few =
    let e = cut words (8 - k) in
    let n : length (drop (8 - k) words) ≡ k = length-drop (8 - k) words ∙ (omega arith) in
    ap (λ (ws : List ℕ). written ws out) e ∙ written_over (drop (8 - k) words) out long (omega arith)
    ∙ ap (λ (n : ℕ). drop (8 - k) words ++ (replicate (8 - n) 0 ++ drop 8 out)) n
