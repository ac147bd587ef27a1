-- The port that a word and a choice byte take: the count of permitted ports below it grows past each one, so one port alone has the count that
-- is asked for; that a byte has it for each count below its ones is one computed test over all bytes. Assumes nothing.
use Prim.Native.Nat.{ℕ, zero, suc, ◌%◌, ◌≤◌, ◌<◌}
use native.Mathlib.Nat.{mod-lt, le_antisymm, le_of_suc-le-suc, not-suc-le-zero}
use native.Mathlib.Omega.{arith}
use mathlib.Core.Path.{◌≡◌, refl, ap}
use mathlib.Core.Bool.{Bool, cond, ◌&&◌}
use mathlib.Core.List.{List, [], ◌∷◌, ◌++◌}
use lib.Dec.{T, eqb, eqb→eq, ltb, ltb→lt}
use lib.ListN.{length, get_or}
use lib.Count.{ones, ones_in}
use Rattle.rules.specs.Sets.{has, all, sum, count, least}
use Rattle.rules.specs.Header.{Picks, Words}
use Rattle.rules.specs.Walk.{port, ports}
use Rattle.rules.proofs.SetLaws.{not-lt, true-T, T_and, all-at, least-is}
use Rattle.rules.proofs.Counts.{sum-part}
use Rattle.rules.proofs.Widest.{ones_pos}

-- p is a port of the word w with exactly n of w's ports below it
abbrev pub nth : ℕ → ℕ → ℕ → Bool
nth w n p = has p w && eqb (count p (λ q. has q w)) n

-- one computed test over all bytes: each count below the ones of a word has a port
port-table : T (all 256 (λ w. all (ones w) (λ n. ltb (least 8 (nth w n)) 8)))
unfolding all least has count sum ones ones_in
port-table = tt

pub port-exact : (w c : ℕ) → zero < w → w < 256 → T (has (port w c) w) × (count (port w c) (λ q. has q w) ≡ c % ones w) × (port w c < 8)
unfolding port
port-exact w c h l =
    let n = c % ones w in
    let row = all-at 256 (λ w. all (ones w) (λ n. ltb (least 8 (nth w n)) 8)) port-table w l in
    let low : port w c < 8 = ltb→lt (port w c) 8 (all-at (ones w) (λ n. ltb (least 8 (nth w n)) 8) row n (mod-lt c (ones_pos w h))) in
    let both = T_and (has (port w c) w) (eqb (count (port w c) (λ q. has q w)) n) ((least-is 8 (nth w n)).hit low) in
    (both.0, eqb→eq (count (port w c) (λ q. has q w)) n both.1, low)

-- past a member the count has grown
pub count_past : (f : ℕ → Bool) (p q : ℕ) → p < q → T (f p) → count p f < count q f
unfolding count sum
count_past f p q l t =
    let one : ◌≡◌ {A = ℕ} (cond (f p) 1 0) 1 = ap (λ (b : Bool). cond b 1 0) (true-T (f p) t) in
    let part = sum-part (λ s. cond (f s) 1 0) (suc p) q l in
    omega arith

-- no other port
pub port-only : (w c p : ℕ) → zero < w → w < 256 → p < 8 → T (has p w) → count p (λ q. has q w) ≡ c % ones w → p ≡ port w c
port-only w c p h l m t e =
    let x = port-exact w c h l in
    let same = x.1 in
    le_antisymm
    (not-lt (λ k. let more = count_past (λ q. has q w) (port w c) p k x.0 in omega arith))
    (not-lt (λ k. let more = count_past (λ q. has q w) p (port w c) k t in omega arith))

-- ---- the ports of a header

pub ports-pick : (ws cs : List ℕ) → Words ws → length ws ≤ length cs → Picks (ports ws cs) ws
unfolding ports Picks Words
ports-pick [] cs h l = tt
ports-pick (w ∷ ws) [] h l = absurd (not-suc-le-zero l)
ports-pick (w ∷ ws) (c ∷ cs) h l = ((port-exact w c h.0 h.1).0, ports-pick ws cs h.2 (le_of_suc-le-suc l))

pub ports-length : (ws cs : List ℕ) → length ws ≤ length cs → length (ports ws cs) ≡ length ws
unfolding ports
ports-length [] cs l = refl
ports-length (w ∷ ws) [] l = absurd (not-suc-le-zero l)
ports-length (w ∷ ws) (c ∷ cs) l = ap suc (ports-length ws cs (le_of_suc-le-suc l))

-- hop i is made by word i and choice byte i
pub ports-at : (ws cs : List ℕ) (i : ℕ) → length ws ≤ length cs → i < length ws → get_or (ports ws cs) i 0 ≡ port (get_or ws i 0) (get_or cs i 0)
unfolding ports
ports-at [] cs i l h = absurd (not-suc-le-zero h)
ports-at (w ∷ ws) [] i l h = absurd (not-suc-le-zero l)
ports-at (w ∷ ws) (c ∷ cs) zero l h = refl
ports-at (w ∷ ws) (c ∷ cs) (suc i) l h = ports-at ws cs i (le_of_suc-le-suc l) (le_of_suc-le-suc h)

-- choice bytes beyond the words are not read
pub ports-beyond : (ws cs ds : List ℕ) → length ws ≤ length cs → ports ws (cs ++ ds) ≡ ports ws cs
unfolding ports
ports-beyond [] cs ds l = refl
ports-beyond (w ∷ ws) [] ds l = absurd (not-suc-le-zero l)
ports-beyond (w ∷ ws) (c ∷ cs) ds l = ap (λ (ps : List ℕ). port w c ∷ ps) (ports-beyond ws cs ds (le_of_suc-le-suc l))
