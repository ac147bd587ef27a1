-- The walk of one packet, over any network, ends in one way, and that is the twin's: at a processor and past a port with no link nothing more is
-- followed, and at a switch the first word says what comes next. A header that passes the test is delivered in its length, whatever the choice
-- bytes. Assumes nothing.
use Prim.Native.Nat.{ℕ, zero, suc, ◌+◌, ◌≤◌, ◌<◌}
use native.Mathlib.Nat.{le_of_eq, le_of_suc-le-suc, not-suc-le-zero, eq-zero-or-pos}
use native.Mathlib.Omega.{arith}
use mathlib.Core.Path.{◌≡◌, refl, sym, ap, ◌∙◌, subst}
use mathlib.Core.Logic.{◌⊎◌, inl, inr, ⊎_elim, ◌↔◌}
use mathlib.Core.Bool.{Bool, false, cond}
use mathlib.Core.List.{List, [], ◌∷◌}
use lib.Dec.{eqb, eqb-suc-zero}
use lib.ListN.{length, get_or, take}
use lib.Seq.{take_all, length-take-le}
use Rattle.rules.specs.Answers.{Ending, None, Delivered, Leftover, Empty, Off, Short}
use Rattle.rules.specs.Net.{Far, switch, node, nothing, follow}
use Rattle.rules.specs.Header.{Words, Passes}
use Rattle.rules.specs.Walk.{port, ports, after, EndsAs, Ended}
use Rattle.rules.specs.RunWalk.{Stop, arrived, cross, walk_from}
use Rattle.rules.proofs.Ways.{nothing-stays, from-node, node-no-switch}
use Rattle.rules.proofs.Ports.{ports-pick, ports-length}

words-pos : (ws : List ℕ) → Words ws → (i : ℕ) → i < length ws → zero < get_or ws i 0
unfolding Words
words-pos [] h i l = absurd (not-suc-le-zero l)
words-pos (w ∷ ws) h zero l = h.0
words-pos (w ∷ ws) h (suc i) l = words-pos ws h.2 i (le_of_suc-le-suc l)

-- ---- stops

stop : Ending → ℕ → ℕ → ℕ → Stop
stop e p h l = record { ending = e; at = p; hops = h; left = l }

stop-same : {e f : Ending} {p q h i l m : ℕ} → e ≡ f → p ≡ q → h ≡ i → l ≡ m → stop e p h l ≡ stop f q i m
stop-same a b c d = cc

not-zero : (w : ℕ) → zero < w → eqb w 0 ≡ false
not-zero zero h = absurd (not-suc-le-zero h)
not-zero (suc w) h = eqb-suc-zero w

arrived-none : (ws : List ℕ) → length ws ≡ 0 → arrived ws ≡ Delivered
unfolding arrived
arrived-none [] e = refl
arrived-none (w ∷ ws) e = absurd (omega arith)

arrived-some : (ws : List ℕ) → zero < length ws → arrived ws ≡ Leftover
unfolding arrived
arrived-some [] l = absurd (omega arith)
arrived-some (w ∷ ws) l = refl

-- ---- one hop more

module _ (far : ℕ → ℕ → Far) where
  -- where the walk goes on after its first hop
  after-suc : (w c s i : ℕ) (ws cs : List ℕ) (x : Far) → far s (port w c) ≡ x → after far (w ∷ ws) (c ∷ cs) s (suc i) ≡ follow far (take i (ports ws cs)) x
  unfolding follow ports
  after-suc w c s i ws cs x e = ap (follow far (take i (ports ws cs))) e

  module _ (w c s t : ℕ) (ws cs : List ℕ) (link : far s (port w c) ≡ switch t) where
    hop : (i : ℕ) → after far (w ∷ ws) (c ∷ cs) s (suc i) ≡ after far ws cs t i
    hop i = after-suc w c s i ws cs (switch t) link

    is-hop : (e : Ending) (p i l : ℕ) → EndsAs far ws cs t e p i l ↔ EndsAs far (w ∷ ws) (c ∷ cs) s e p (suc i) l
    unfolding EndsAs
    is-hop None p i l = (λ h. h, λ h. h)
    is-hop Delivered p i l = (λ h. (hop i ∙ h.0, h.1), λ h. (sym (hop i) ∙ h.0, h.1))
    is-hop Leftover p i l = (λ h. (hop i ∙ h.0, h.1), λ h. (sym (hop i) ∙ h.0, h.1))
    is-hop Empty p i l = (λ h. (hop i ∙ h.0, h.1, h.2), λ h. (sym (hop i) ∙ h.0, h.1, h.2))
    is-hop Off p i l = (λ h. (hop i ∙ h.0, h.1, h.2, hop (suc i) ∙ h.3), λ h. (sym (hop i) ∙ h.0, h.1, h.2, sym (hop (suc i)) ∙ h.3))
    is-hop Short p i l = (λ h. (hop i ∙ h.0, h.1), λ h. (sym (hop i) ∙ h.0, h.1))

    ended-on : (e : Ending) (p i l : ℕ) → zero < w → Ended far ws cs t e p i l → Ended far (w ∷ ws) (c ∷ cs) s e p (suc i) l
    ended-on e p i l k h = record {
      so = (is-hop e p i l).0 h.so;
      words = let a = h.words in omega arith;
      before = λ j. elim j as (λ x. x < suc i → 0 < get_or (w ∷ ws) x 0) [ zero ↦ λ _. k | suc x ↦ λ m. h.before x (le_of_suc-le-suc m) ];
    }

    ended-back : (e : Ending) (p i l : ℕ) → Ended far (w ∷ ws) (c ∷ cs) s e p (suc i) l → Ended far ws cs t e p i l
    ended-back e p i l h = record {
      so = (is-hop e p i l).1 h.so;
      words = let a = h.words in omega arith;
      before = λ j m. h.before (suc j) (omega arith);
    }

  -- ---- the twin, hop by hop

  module _ (w c s h : ℕ) (ws cs : List ℕ) where
    abbrev crossed : Far → Stop
    crossed x = cross x (λ t. walk_from far ws cs t (suc h)) (λ n. stop (arrived ws) n (suc h) (length ws)) (stop Off s h (suc (length ws)))

    walk-empty : w ≡ 0 → walk_from far (w ∷ ws) (c ∷ cs) s h ≡ stop Empty s h (suc (length ws))
    unfolding walk_from stop
    walk-empty e = ap (λ (x : ℕ). cond (eqb x 0) (stop Empty s h (suc (length ws))) (crossed (far s (port w c)))) e

    walk-hop : (x : Far) → zero < w → far s (port w c) ≡ x → walk_from far (w ∷ ws) (c ∷ cs) s h ≡ crossed x
    unfolding walk_from stop
    walk-hop x k e = ap (λ (b : Bool). cond b (stop Empty s h (suc (length ws))) (crossed (far s (port w c)))) (not-zero w k) ∙ ap crossed e

  -- ---- the twin's stop is how the walk ends

  -- e is the stop of a walk that had made h hops before
  record Stopped (ws cs : List ℕ) (s h : ℕ) (e : Stop) : Type 0 where
    made : ℕ
    counted : e.hops ≡ h + made
    ends : Ended far ws cs s e.ending e.at made e.left

  -- at the first hop
  at-start : (ws cs : List ℕ) (s h : ℕ) (e : Ending) (p l : ℕ) → EndsAs far ws cs s e p 0 l → l ≡ length ws → Stopped ws cs s h (stop e p h l)
  unfolding stop
  at-start ws cs s h e p l i m = record { made = 0; counted = omega arith; ends = record { so = i; words = omega arith; before = λ j n. absurd (not-suc-le-zero n) } }

  module _ (w c s h : ℕ) (ws cs : List ℕ) where
    at-empty : w ≡ 0 → Stopped (w ∷ ws) (c ∷ cs) s h (stop Empty s h (suc (length ws)))
    unfolding EndsAs follow
    at-empty e = at-start (w ∷ ws) (c ∷ cs) s h Empty s (suc (length ws)) (refl, omega arith, e) refl

    -- the first word is not 0
    module _ (k : zero < w) where
      at_off : far s (port w c) ≡ nothing → Stopped (w ∷ ws) (c ∷ cs) s h (stop Off s h (suc (length ws)))
      unfolding EndsAs follow ports
      at_off e = at-start (w ∷ ws) (c ∷ cs) s h Off s (suc (length ws)) (refl, omega arith, k, e) refl

      at-node : (n : ℕ) → far s (port w c) ≡ node n → Stopped (w ∷ ws) (c ∷ cs) s h (stop (arrived ws) n (suc h) (length ws))
      unfolding follow stop ports arrived EndsAs
      at-node n e = record {
        made = 1;
        counted = omega arith;
        ends = record { so = so ws; words = omega arith; before = λ i m. subst (λ (j : ℕ). zero < get_or (w ∷ ws) j 0) (first i m) k };
      }
        where
          first : (i : ℕ) → i < 1 → zero ≡ i
          first i m = omega arith

          so : (vs : List ℕ) → EndsAs far (w ∷ vs) (c ∷ cs) s (arrived vs) n 1 (length vs)
          so [] = (e, refl)
          so (v ∷ vs) = (e, omega arith)

      at-switch : (t : ℕ) (e : Stop) → far s (port w c) ≡ switch t → Stopped ws cs t (suc h) e → Stopped (w ∷ ws) (c ∷ cs) s h e
      at-switch t e link r = record {
        made = suc r.made;
        counted = let a = r.counted in omega arith;
        ends = ended-on w c s t ws cs link e.ending e.at r.made e.left k r.ends;
      }

      stopped-hop : ((t : ℕ) → Stopped ws cs t (suc h) (walk_from far ws cs t (suc h))) → (x : Far) → far s (port w c) ≡ x → Stopped (w ∷ ws) (c ∷ cs) s h (crossed w c s h ws cs x)
      unfolding cross
      stopped-hop r (switch t) e = at-switch t (walk_from far ws cs t (suc h)) e (r t)
      stopped-hop r (node n) e = at-node n e
      stopped-hop r nothing e = at_off e

    stopped-on : ((t : ℕ) → Stopped ws cs t (suc h) (walk_from far ws cs t (suc h))) → Stopped (w ∷ ws) (c ∷ cs) s h (walk_from far (w ∷ ws) (c ∷ cs) s h)
    stopped-on r =
        ⊎_elim
        (λ z. subst (Stopped (w ∷ ws) (c ∷ cs) s h) (sym (walk-empty w c s h ws cs z)) (at-empty z))
        (λ k. subst (Stopped (w ∷ ws) (c ∷ cs) s h) (sym (walk-hop w c s h ws cs (far s (port w c)) k refl)) (stopped-hop k r (far s (port w c)) refl))
        (eq-zero-or-pos w)

  stopped : (ws cs : List ℕ) (s h : ℕ) → length ws ≤ length cs → Stopped ws cs s h (walk_from far ws cs s h)
  unfolding walk_from follow EndsAs stop
  stopped [] cs s h l = at-start [] cs s h Short s 0 (refl, refl) refl
  stopped (w ∷ ws) [] s h l = absurd (not-suc-le-zero l)
  stopped (w ∷ ws) (c ∷ cs) s h l = stopped-on w c s h ws cs (λ t. stopped ws cs t (suc h) (le_of_suc-le-suc l))

  pub walk-ended : (ws cs : List ℕ) (s : ℕ) → length ws ≤ length cs
      → let e = walk_from far ws cs s 0 in Ended far ws cs s e.ending e.at e.hops e.left
  walk-ended ws cs s l =
      let e = walk_from far ws cs s 0 in
      let r = stopped ws cs s 0 l in
      let same : r.made ≡ e.hops = let a = r.counted in omega arith in
      subst (λ (n : ℕ). Ended far ws cs s e.ending e.at n e.left) same r.ends

  -- ---- no second ending: each is the twin's stop

  -- an ending is at a processor, and the words left tell which of the two it is, or at a switch
  ended_at : (ws cs : List ℕ) (s : ℕ) (e : Ending) (p i l : ℕ) → EndsAs far ws cs s e p i l
      → ((after far ws cs s i ≡ node p) × ((vs : List ℕ) → length vs ≡ l → arrived vs ≡ e)) ⊎ (after far ws cs s i ≡ switch p)
  unfolding EndsAs
  ended_at ws cs s None p i l k = absurd k
  ended_at ws cs s Delivered p i l k = inl (k.0, λ vs n. arrived-none vs (n ∙ k.1))
  ended_at ws cs s Leftover p i l k = inl (k.0, λ vs n. arrived-some vs (let a = k.1 in omega arith))
  ended_at ws cs s Empty p i l k = inr k.0
  ended_at ws cs s Off p i l k = inr k.0
  ended_at ws cs s Short p i l k = inr k.0

  ended-there : (ws cs : List ℕ) (s : ℕ) (e : Ending) (p i l : ℕ) → EndsAs far ws cs s e p i l → after far ws cs s i ≡ nothing → ⊥
  ended-there ws cs s e p i l k n =
      ⊎_elim (λ r. let a = r.0 in let z : ◌≡◌ {A = ℕ} 0 1 = cc in omega arith) (λ r. let z : ◌≡◌ {A = ℕ} 0 1 = cc in omega arith) (ended_at ws cs s e p i l k)

  -- no words: SHORT
  only-short : (cs : List ℕ) (s h : ℕ) (e : Ending) (p l : ℕ) → EndsAs far [] cs s e p 0 l → l ≡ 0 → stop Short s h 0 ≡ stop e p (h + 0) l
  unfolding EndsAs follow
  only-short cs s h None p l k m = absurd k
  only-short cs s h Delivered p l k m = let a = k.0 in let z : ◌≡◌ {A = ℕ} 0 1 = cc in absurd (omega arith)
  only-short cs s h Leftover p l k m = let a = k.1 in absurd (omega arith)
  only-short cs s h Empty p l k m = let a = k.1 in absurd (omega arith)
  only-short cs s h Off p l k m = let a = k.1 in absurd (omega arith)
  only-short cs s h Short p l k m = let a = k.0 in stop-same refl (cc) (omega arith) (omega arith)

  module _ (w c s h : ℕ) (ws cs : List ℕ) (m : length ws ≤ length cs) where
    -- no hop: EMPTY or OFF
    only-start : (e : Ending) (p l : ℕ) → EndsAs far (w ∷ ws) (c ∷ cs) s e p 0 l → l ≡ suc (length ws) → walk_from far (w ∷ ws) (c ∷ cs) s h ≡ stop e p (h + 0) l
    unfolding EndsAs follow ports cross
    only-start None p l k n = absurd k
    only-start Delivered p l k n = let a = k.0 in let z : ◌≡◌ {A = ℕ} 0 1 = cc in absurd (omega arith)
    only-start Leftover p l k n = let a = k.0 in let z : ◌≡◌ {A = ℕ} 0 1 = cc in absurd (omega arith)
    only-start Empty p l k n = let a = k.0 in walk-empty w c s h ws cs k.2 ∙ stop-same refl (cc) (omega arith) (sym n)
    only-start Off p l k n = let a = k.0 in walk-hop w c s h ws cs nothing k.2 k.3 ∙ stop-same refl (cc) (omega arith) (sym n)
    only-start Short p l k n = let a = k.1 in absurd (omega arith)

    -- the first hop is to a processor: it is the last
    at_once : (n p i : ℕ) → i ≤ length ws → follow far (take i (ports ws cs)) (node n) ≡ node p → (n ≡ p) × (i ≡ 0)
    at_once n p i b e =
        let r = from-node far (take i (ports ws cs)) n p e in
        let long : length (take i (ports ws cs)) ≡ i = length-take-le i (ports ws cs) (subst (λ (x : ℕ). i ≤ x) (sym (ports-length ws cs m)) b) in
        (r.1, sym long ∙ ap length r.0)

    only-node : (n : ℕ) → far s (port w c) ≡ node n → (e : Ending) (p i l : ℕ) → EndsAs far (w ∷ ws) (c ∷ cs) s e p (suc i) l → suc i + l ≡ suc (length ws)
        → stop (arrived ws) n (suc h) (length ws) ≡ stop e p (h + suc i) l
    only-node n f e p i l k b =
        let on = sym (after-suc w c s i ws cs (node n) f) in
        ⊎_elim
        (λ r. let a = at_once n p i (omega arith) (on ∙ r.0) in let z = a.1 in stop-same (r.1 ws (omega arith)) a.0 (omega arith) (omega arith))
        (λ r. absurd (node-no-switch far (take i (ports ws cs)) n p (on ∙ r)))
        (ended_at (w ∷ ws) (c ∷ cs) s e p (suc i) l k)

    only-hop : (e : Ending) (p i l : ℕ) → Ended far (w ∷ ws) (c ∷ cs) s e p (suc i) l → ((t : ℕ) → Ended far ws cs t e p i l → walk_from far ws cs t (suc h) ≡ stop e p (suc h + i) l)
        → (x : Far) → far s (port w c) ≡ x → walk_from far (w ∷ ws) (c ∷ cs) s h ≡ stop e p (h + suc i) l
    unfolding cross
    only-hop e p i l k r (switch t) f = walk-hop w c s h ws cs (switch t) (k.before 0 (omega arith)) f ∙ r t (ended-back w c s t ws cs f e p i l k) ∙ stop-same refl refl (omega arith) refl
    only-hop e p i l k r (node n) f = walk-hop w c s h ws cs (node n) (k.before 0 (omega arith)) f ∙ only-node n f e p i l k.so k.words
    only-hop e p i l k r nothing f = absurd (ended-there (w ∷ ws) (c ∷ cs) s e p (suc i) l k.so (after-suc w c s i ws cs nothing f ∙ nothing-stays far (take i (ports ws cs))))

  walk-only : (ws cs : List ℕ) (s h : ℕ) → length ws ≤ length cs → (e : Ending) (p i l : ℕ) → Ended far ws cs s e p i l → walk_from far ws cs s h ≡ stop e p (h + i) l
  unfolding walk_from stop
  walk-only [] cs s h m e p zero l k = only-short cs s h e p l k.so (let a = k.words in omega arith)
  walk-only [] cs s h m e p (suc i) l k = let a = k.words in absurd (omega arith)
  walk-only (w ∷ ws) [] s h m e p i l k = absurd (not-suc-le-zero m)
  walk-only (w ∷ ws) (c ∷ cs) s h m e p zero l k = only-start w c s h ws cs (le_of_suc-le-suc m) e p l k.so (let a = k.words in omega arith)
  walk-only (w ∷ ws) (c ∷ cs) s h m e p (suc i) l k =
      only-hop w c s h ws cs (le_of_suc-le-suc m) e p i l k (λ t. walk-only ws cs t (suc h) (le_of_suc-le-suc m) e p i l) (far s (port w c)) refl

  pub ended-only : (ws cs : List ℕ) (s : ℕ) → length ws ≤ length cs → (e f : Ending) (at at' h h' l l' : ℕ)
      → Ended far ws cs s e at h l → Ended far ws cs s f at' h' l' → (e ≡ f) × (at ≡ at') × (h ≡ h') × (l ≡ l')
  unfolding stop
  ended-only ws cs s m e f at at' h h' l l' j k =
      let same : stop e at (0 + h) l ≡ stop f at' (0 + h') l' = sym (walk-only ws cs s 0 m e at h l j) ∙ walk-only ws cs s 0 m f at' h' l' k in
      let hops : 0 + h ≡ 0 + h' = ap (λ (x : Stop). x.hops) same in
      (ap (λ (x : Stop). x.ending) same, ap (λ (x : Stop). x.at) same, omega arith, ap (λ (x : Stop). x.left) same)

  -- ---- a header that passes the test

  pub walk-delivers : (a d : ℕ) (ws cs : List ℕ) → Passes far a d ws → length ws ≤ length cs → Ended far ws cs a Delivered d (length ws) 0
  unfolding EndsAs
  walk-delivers a d ws cs h l = record {
    so = (ap (λ (ps : List ℕ). follow far ps (switch a)) (take_all (length ws) (ports ws cs) (le_of_eq (ports-length ws cs l))) ∙ (h.right (ports ws cs) (ports-pick ws cs h.words l)).leads, refl);
    words = omega arith;
    before = words-pos ws h.words;
  }
