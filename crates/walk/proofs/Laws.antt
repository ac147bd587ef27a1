-- The walk by its hops: the ports that the choice passed over, what one hop is, and how each answer of a hop goes on.
-- Assumes nothing.
use Prim.Native.Nat.{ℕ, zero, suc, ◌+◌, ◌-◌, ◌/◌, ◌%◌, ◌^◌, ◌≤◌, ◌<◌, zero-le}
use native.Mathlib.Numerals.{add-one}
use native.Mathlib.Omega.{arith}
use native.Mathlib.Nat.{le_antisymm}
use mathlib.Core.Path.{◌≡◌, refl, sym, ap, ap₂, ◌∙◌}
use mathlib.Core.Bool.{Bool, true, false, cond}
use mathlib.Core.List.{List, [], ◌∷◌}
use borrow.Author.Tests.{eq-eqb, ne_eqb}
use lib.Dec.{T, eqb, eqb→eq}
use lib.Count.{ones}
use lib.ListN.{length, get_or, drop, length-drop, drop_of_length-le}
use lib.Seq.{drop-cons}
use Rattle.rules.specs.Answers.{WalkAnswer, Ending}
use Rattle.std.specs.Prelude.{bit_and}
use Rattle.std.proofs.lemmas.Nat.Bits.{shr_and_one}
use Rattle.rules.specs.Sets.{has, sum, count, least}
use Rattle.rules.specs.Net.{Far, switch, node, nothing}
use Rattle.rules.specs.Table.{house, switches, far_of}
use Rattle.rules.specs.Walk.{port}
use Rattle.rules.specs.RunWalk.{Stop, arrived, cross, walk_from}
use Rattle.rules.proofs.Ports.{nth, port-exact}
use Rattle.rules.proofs.Widest.{ones_pos}
use Rattle.rules.proofs.Tables.{far_of-wired}
use Rattle.rules.proofs.SetLaws.{T_and, and_i, eq-T}
use Rattle.wiring.proofs.Laws.{Passed, passed_start, passed-one, passed-hit, passed-all}
use Rattle.walk.specs.declared.Step.{Step}
use Rattle.walk.specs.declared.Step.TheVariants.{Moved, Arrived, Off, Empty}
use Rattle.walk.specs.Step.{crossing, step_of, stopped}

-- ---- the port of a choice

-- no port below p is the one with k below it, and `below` of them are permitted
pub record Counted (w k below p : ℕ) : Type 0 where
  pub passed : Passed 8 (nth w k) p
  pub counted : below ≡ count p (λ q. has q w)
  pub few : below ≤ p

module _ (w k : ℕ) where
  -- the test of a port, as the code makes it
  and_one : (p : ℕ) → w / 2 ^ p % 2 ≡ 1 → bit_and (w / 2 ^ p) 1 ≡ 1
  and_one p y = shr_and_one w p ∙ y

  one_and : (p : ℕ) → bit_and (w / 2 ^ p) 1 ≡ 1 → w / 2 ^ p % 2 ≡ 1
  one_and p y = sym (shr_and_one w p) ∙ y

  pub counted_start : Counted w k 0 0
  unfolding count sum
  counted_start = record { passed = passed_start; counted = refl; few = zero-le }

  module _ {b p : ℕ} (h : Counted w k b p) (l : p < 8) where
    -- one port more in the count
    grown : (x : Bool) → has p w ≡ x → count (p + 1) (λ q. has q w) ≡ b + cond x 1 0
    unfolding count sum
    grown x e = rw (add-one p, e) (ap (λ (n : ℕ). n + cond x 1 0) (sym h.counted))

    pub counted_barred : (bit_and (w / 2 ^ p) 1 ≡ 1 → ⊥) → {x : ℕ} → x ≡ b → Counted w k x (p + 1)
    unfolding has
    counted_barred n s =
        let e : has p w ≡ false = ne_eqb (w / 2 ^ p % 2) 1 (λ m. n (and_one p m)) in
        let g = grown false e in
        record {
          passed = passed-one h.passed l (λ m. n (and_one p (eqb→eq (w / 2 ^ p % 2) 1 (T_and (has p w) (eqb (count p (λ q. has q w)) k) m).0)));
          counted = omega arith;
          few = let f = h.few in omega arith;
        }

    pub counted_permitted : bit_and (w / 2 ^ p) 1 ≡ 1 → (b ≡ k → ⊥) → {x : ℕ} → x ≡ b + 1 → Counted w k x (p + 1)
    unfolding has
    counted_permitted y n s =
        let e : has p w ≡ true = eq-eqb (w / 2 ^ p % 2) 1 (one_and p y) in
        let g = grown true e in
        record {
          passed = passed-one h.passed l (λ m. n (h.counted ∙ eqb→eq (count p (λ q. has q w)) k (T_and (has p w) (eqb (count p (λ q. has q w)) k) m).1));
          counted = s ∙ sym g;
          few = let f = h.few in omega arith;
        }

  module _ {b p : ℕ} (h : Counted w k b p) (c : ℕ) (e : k ≡ c % ones w) where
    pub counted_hit : bit_and (w / 2 ^ p) 1 ≡ 1 → b ≡ k → p ≡ port w c
    unfolding has port
    counted_hit y q =
        let one : T (has p w) = eq-T (w / 2 ^ p % 2) 1 (one_and p y) in
        let hit : T (eqb (count p (λ q. has q w)) k) = eq-T (count p (λ q. has q w)) k (sym h.counted ∙ q) in
        passed-hit h.passed (and_i (has p w) (eqb (count p (λ q. has q w)) k) one hit) ∙ ap (λ (n : ℕ). least 8 (nth w n)) e

    pub counted_all : 8 ≤ p → 8 ≡ port w c
    unfolding port
    counted_all l =
        let same : 8 ≡ p = le_antisymm l h.passed.bound in
        same ∙ passed-all h.passed l ∙ ap (λ (n : ℕ). least 8 (nth w n)) e

pub ruleset choosing = (ones_pos, counted_start, counted_hit, counted_all)

-- ---- one hop

-- the chosen port is one of eight
pub port_chosen : (w c p : ℕ) → p ≡ port w c → (w ≡ 0 → ⊥) → w < 256 → p < 8
port_chosen w c p e n f = rw e (port-exact w c (omega arith) f).2

-- a word that is not 0 goes to where that port leads
pub step_read : (far : ℕ → ℕ → Far) (s w c : ℕ) → (w ≡ 0 → ⊥) → step_of far s w c ≡ crossing (far s (port w c))
unfolding step_of
step_read far s w c n = simp (ne_eqb w 0 n)

pub step_empty : (far : ℕ → ℕ → Far) (s w c : ℕ) → w ≡ 0 → step_of far s w c ≡ Empty
unfolding step_of
step_empty far s w c e = simp (eq-eqb w 0 e)

pub ruleset hopping = (port_chosen, step_read, step_empty)

-- ---- the walk by its hops

-- a walk's stop after a hop from switch s: h hops came before it, and the words ws and choice bytes cs after its own
unfoldable resume : (ℕ → ℕ → Far) → List ℕ → List ℕ → ℕ → ℕ → Step → Stop
resume far ws cs s h (Moved t) = walk_from far ws cs t (suc h)
resume far ws cs s h (Arrived a) = record { ending = arrived ws; at = a; hops = suc h; left = length ws }
resume far ws cs s h Off = record { ending = Ending.Off; at = s; hops = h; left = suc (length ws) }
resume far ws cs s h Empty = record { ending = Ending.Empty; at = s; hops = h; left = suc (length ws) }

walk_step : (far : ℕ → ℕ → Far) (w c : ℕ) (ws cs : List ℕ) (s h : ℕ) → walk_from far (w ∷ ws) (c ∷ cs) s h ≡ resume far ws cs s h (step_of far s w c)
unfolding walk_from resume step_of crossing cross
walk_step far w c ws cs s h = at (eqb w 0) (far s (port w c))
  where
    at : (b : Bool) (x : Far)
        → cond b (record { ending = Ending.Empty; at = s; hops = h; left = suc (length ws) })
        (cross x (λ t. walk_from far ws cs t (suc h)) (λ n. record { ending = arrived ws; at = n; hops = suc h; left = length ws })
        (record { ending = Ending.Off; at = s; hops = h; left = suc (length ws) }))
        ≡ resume far ws cs s h (cond b Empty (crossing x))
    at true x = refl
    at false (switch t) = refl
    at false (node n) = refl
    at false nothing = refl

arrived-last : (ws : List ℕ) → length ws ≡ 0 → arrived ws ≡ Ending.Delivered
unfolding arrived
arrived-last [] e = refl
arrived-last (w ∷ ws) e = absurd (omega arith)

arrived-early : (ws : List ℕ) → zero < length ws → arrived ws ≡ Ending.Leftover
unfolding arrived
arrived-early [] l = absurd (omega arith)
arrived-early (w ∷ ws) l = refl

-- a hop to a switch crosses a link
moved-link : (far : ℕ → ℕ → Far) (s w c u : ℕ) → step_of far s w c ≡ Moved u → far s (port w c) ≡ switch u
unfolding step_of crossing
moved-link far s w c u = at (eqb w 0) (far s (port w c))
  where
    at : (b : Bool) (x : Far) → cond b Empty (crossing x) ≡ Moved u → x ≡ switch u
    at true x e = let z : ◌≡◌ {A = ℕ} 0 1 = cc in absurd (omega arith)
    at false (switch t) e = ap switch (cc)
    at false (node n) e = let z : ◌≡◌ {A = ℕ} 0 1 = cc in absurd (omega arith)
    at false nothing e = let z : ◌≡◌ {A = ℕ} 0 1 = cc in absurd (omega arith)

-- an answer that says where the walk stopped
abbrev Answers : WalkAnswer → Ending → ℕ → ℕ → ℕ → Type 0
Answers r e p h l = r ≡ record { number = 0; place = 0; ending = e; at = p; hops = h; left = l }

answers-stop : {r : WalkAnswer} {x : Stop} {e f : Ending} {p q h k l m : ℕ}
    → x ≡ record { ending = f; at = q; hops = k; left = m } → Answers r e p h l → e ≡ f → p ≡ q → h ≡ k → l ≡ m → r ≡ stopped x
unfolding stopped
answers-stop a b c d i j = cc

-- the walk from `home` has come to switch s by i hops
pub record Walking (t ws cs : List ℕ) (home s i : ℕ) : Type 0 where
  pub rest : walk_from (far_of house t) ws cs home 0 ≡ walk_from (far_of house t) (drop i ws) (drop i cs) s i
  pub there : s < switches t
  pub within : i ≤ length ws

pub walk_start : {t ws cs : List ℕ} {home : ℕ} → home < switches t → Walking t ws cs home home 0
walk_start l = record { rest = refl; there = l; within = zero-le }

pub walk-short : {t ws cs : List ℕ} {home s i : ℕ} → Walking t ws cs home s i → length ws ≤ i
    → {r : WalkAnswer} {p : ℕ} → Answers r Ending.Short p (length ws) 0 → p ≡ s → r ≡ stopped (walk_from (far_of house t) ws cs home 0)
unfolding walk_from
walk-short {t} {ws} {cs} {s = s} {i = i} h l a e =
    let none : drop i ws ≡ [] = drop_of_length-le ws l in
    answers-stop (h.rest ∙ ap (λ (xs : List ℕ). walk_from (far_of house t) xs (drop i cs) s i) none) a refl e (le_antisymm l h.within) refl

-- x is what the next hop gives, by the word and the choice byte at i
pub record Hopped (t ws cs : List ℕ) (home s i : ℕ) (x : Step) : Type 0 where
  pub walking : Walking t ws cs home s i
  pub word : i < length ws
  pub enough : length ws ≤ length cs
  pub gave : x ≡ step_of (far_of house t) s (get_or ws i 0) (get_or cs i 0)

module _ {t ws cs : List ℕ} {home s i : ℕ} {x : Step} (h : Hopped t ws cs home s i x) where
  walk-on : {y : Step} → x ≡ y → walk_from (far_of house t) ws cs home 0 ≡ resume (far_of house t) (drop (suc i) ws) (drop (suc i) cs) s i y
  walk-on e =
      let l = h.word in
      let m = h.enough in
      h.walking.rest
      ∙ ap₂ (λ (us vs : List ℕ). walk_from (far_of house t) us vs s i) (drop-cons ws i 0 l) (drop-cons cs i 0 (omega arith))
      ∙ walk_step (far_of house t) (get_or ws i 0) (get_or cs i 0) (drop (suc i) ws) (drop (suc i) cs) s i
      ∙ ap (resume (far_of house t) (drop (suc i) ws) (drop (suc i) cs) s i) (sym h.gave ∙ e)

  left_after : suc (length (drop (suc i) ws)) ≡ length ws - i
  left_after = let l = h.word in let n = length-drop (suc i) ws in omega arith

  pub walk-moved : {u : ℕ} → x ≡ Moved u → Walking t ws cs home u (i + 1)
  unfolding resume
  walk-moved {u} e = record {
    rest = rw (add-one i) (walk-on e);
    there = (far_of-wired house t).link s (port (get_or ws i 0) (get_or cs i 0)) u (moved-link (far_of house t) s (get_or ws i 0) (get_or cs i 0) u (sym h.gave ∙ e));
    within = let l = h.word in omega arith;
  }

  module _ {r : WalkAnswer} where
    pub walk-delivered : {a : ℕ} → x ≡ Arrived a → i + 1 ≡ length ws → Answers r Ending.Delivered a (i + 1) 0 → r ≡ stopped (walk_from (far_of house t) ws cs home 0)
    unfolding resume
    walk-delivered e last a =
        let n = left_after in
        answers-stop (walk-on e) a (sym (arrived-last (drop (suc i) ws) (omega arith))) refl (add-one i) (omega arith)

    pub walk-leftover : {a : ℕ} → x ≡ Arrived a → (i + 1 ≡ length ws → ⊥) → Answers r Ending.Leftover a (i + 1) (length ws - i - 1) → r ≡ stopped (walk_from (far_of house t) ws cs home 0)
    unfolding resume
    walk-leftover e last a =
        let l = h.word in
        let n = left_after in
        answers-stop (walk-on e) a (sym (arrived-early (drop (suc i) ws) (omega arith))) refl (add-one i) (omega arith)

    pub walk-off : {p : ℕ} → x ≡ Off → Answers r Ending.Off p i (length ws - i) → p ≡ s → r ≡ stopped (walk_from (far_of house t) ws cs home 0)
    unfolding resume
    walk-off e a k = answers-stop (walk-on e) a refl k refl (sym left_after)

    pub walk-empty : {p : ℕ} → x ≡ Empty → Answers r Ending.Empty p i (length ws - i) → p ≡ s → r ≡ stopped (walk_from (far_of house t) ws cs home 0)
    unfolding resume
    walk-empty e a k = answers-stop (walk-on e) a refl k refl (sym left_after)
