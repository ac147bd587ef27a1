-- The demands, as laws about any answer that keeps its promise. Each is read off the promise: where the demand's conditions hold, no
-- refusal before the one in question is given. Assumes nothing.
use Prim.Native.Nat.{ℕ, ◌-◌, ◌^◌, ◌≤◌, ◌<◌}
use native.Mathlib.Omega.{arith}
use mathlib.Core.Path.{◌≡◌, refl, ap, ◌∙◌, subst, fun_ext}
use mathlib.Core.Logic.{◌↔◌, ⊎_elim}
use mathlib.Core.List.{List, [], ◌∷◌, ◌++◌}
use lib.Dec.{T}
use lib.ListN.{length, get_or}
use Rattle.rules.specs.Answers.{Answer, TestAnswer, WalkAnswer, Neither, Yes, Delivered}
use Rattle.rules.specs.Sets.{has}
use Rattle.rules.specs.Net.{Distance, InMask}
use Rattle.rules.specs.Header.{Passes}
use Rattle.rules.specs.Table.{Sizes, switches, far_of, Sound, Stands, Attached}
use Rattle.rules.specs.Tries.{limit, tries, tried}
use Rattle.rules.specs.Run.{mask_of}
use Rattle.rules.specs.Refusals.{Refusal, Says, plain, most_hops, Missing, NoChain, of_table, apart, of_pair, too_far, too_short, too_many, too_long, too_few, tries_from}
use Rattle.rules.specs.Promise.{Measured, Masked, Header, Issued, Tested}
use Rattle.rules.specs.Walk.{Walked}
use Rattle.rules.proofs.Says.{Clear, Never, clear-says, says_past}
use Rattle.rules.proofs.Ways.{distance-one}
use Rattle.rules.proofs.Masks.{in-mask}
use Rattle.rules.proofs.Only.{meant-one}
use Rattle.rules.proofs.Homes.{home-one}
use Rattle.rules.proofs.Joined.{sound-clear}
use Rattle.rules.proofs.Pair.{singles, single-passes, passes-length}
use Rattle.rules.proofs.Tables.{far_of-wired}
use Rattle.rules.proofs.Counted.{tries-tried}
use Rattle.rules.proofs.Walks.{walk-delivers, ended-only}

-- 00, demand 2: "two different nodes attached in a table to which none of refusals 1 to 3 of paper 01 applies"
pub record Between (z : Sizes) (t : List ℕ) (a d : ℕ) : Type 0 where
  pub sound : Sound z t
  pub «from» : Attached z t a
  pub to : Attached z t d
  pub apart : ¬ (a ≡ d)

-- and one switch where the source stands, n switches from the destination
pub record Reached (z : Sizes) (t : List ℕ) (a d s n : ℕ) : Type 0 where
  pub pair : Between z t a d
  pub stands : Stands z t a s
  pub distance : Distance (far_of z t) s d n

module _ (z : Sizes) (t : List ℕ) (a d : ℕ) where
  -- ---- "unreachable" is said exactly when no chain of links joins the pair

  -- no refusal of the list has this number
  unfoldable pub Without : ℕ → List Refusal → Type 0
  Without k [] = ¬ (k ≡ 0)
  Without k (r ∷ rs) = ¬ (k ≡ r.number) × Without k rs

  without : (k : ℕ) (rs : List Refusal) (p : ℕ) → Without k rs → Says rs k p → ⊥
  unfolding Without Says
  without k [] p w h = w h.0
  without k (r ∷ rs) p w h = ⊎_elim (λ i. w.0 i.0) (λ i. without k rs p w.1 i.1) h

  six : (rs : List Refusal) → Without 6 rs → Between z t a d → (n p : ℕ) → Says (of_pair z t a d ++ rs) n p → (n ≡ 6) ↔ NoChain z t a d
  unfolding Says Clear
  six rs w b n p h =
      ⊎_elim (λ i. (λ e. i.1.0, λ c. i.0)) (λ i. (λ e. absurd (without 6 rs p w (subst (λ (k : ℕ). Says rs k p) e i.1)), λ c. absurd (i.0 0 (c, refl))))
      (says_past before (plain 6 (NoChain z t a d) ∷ rs) clear n p h)
    where
      before : List Refusal
      before = of_table z t ++ (plain 4 (Missing z t a d) ∷ plain 5 (a ≡ d) ∷ [])

      clear : Clear before
      clear = sound-clear z t (plain 4 (Missing z t a d) ∷ plain 5 (a ≡ d) ∷ []) b.sound (λ q k. k.0 (b.«from», b.to), (λ q k. b.apart k.0, tt))

  -- demand 2, of each operation on a pair
  module _ (b : Between z t a d) where
    pub measured-six : (r : Answer) → Measured z t a d r → (r.number ≡ 6) ↔ NoChain z t a d
    unfolding Without
    measured-six r h = six [] (λ e. omega arith) b r.number r.place h.answer

    pub masked-six : (out : List ℕ) (r : Answer) (o : List ℕ) → Masked z t a d out r o → (r.number ≡ 6) ↔ NoChain z t a d
    unfolding Without
    masked-six out r o h = six (too_far z t a d ∷ too_short (switches t) out ∷ []) (λ e. omega arith, (λ e. omega arith, λ e. omega arith)) b r.number r.place h.answer

    pub tested-six : (ws : List ℕ) (r : TestAnswer) → Tested z t a d ws r → (r.answer.number ≡ 6) ↔ NoChain z t a d
    unfolding Without
    tested-six ws r h = six (too_far z t a d ∷ []) (λ e. omega arith, λ e. omega arith) b r.answer.number r.answer.place h.answer

    pub issued-six : (out : List ℕ) (r : Answer) (o : List ℕ) → Issued z t a d out r o → (r.number ≡ 6) ↔ NoChain z t a d
    unfolding Without
    issued-six out r o h =
        six (too_far z t a d ∷ too_short most_hops out ∷ too_many z t a d ∷ []) (λ e. omega arith, (λ e. omega arith, (λ e. omega arith, λ e. omega arith))) b r.number r.place h.answer

  -- 01: the test "uses 1 to 7, where it says neither yes nor no, and otherwise says yes or no"
  pub tested-neither : (ws : List ℕ) (r : TestAnswer) → Tested z t a d ws r → (r.says ≡ Neither) ↔ ¬ (r.answer.number ≡ 0)
  tested-neither ws r h = (λ e n. ⊎_elim (λ i. let x : ◌≡◌ {A = ℕ} 0 1 = cc in omega arith) (λ i. let x : ◌≡◌ {A = ℕ} 0 1 = cc in omega arith) (h.either n), h.refused)

  -- ---- where the pair is reached
  module _ (s n : ℕ) (q : Reached z t a d s n) where
    stands_one : (u : ℕ) → Stands z t a u → u ≡ s
    stands_one u w = home-one z t q.pair.sound.none-again a u s w q.stands

    distance-of : (u m : ℕ) → Stands z t a u → Distance (far_of z t) u d m → m ≡ n
    distance-of u m w h = distance-one (far_of z t) (subst (λ (x : ℕ). Distance (far_of z t) x d m) (stands_one u w) h) q.distance

    -- none of refusals 1 to 6 is given; nor 7 within eight hops; nor 9 within the limit
    pub pair-clear : (rs : List Refusal) → Clear rs → Clear (of_pair z t a d ++ rs)
    unfolding Clear
    pair-clear rs c =
        sound-clear z t (apart z t a d ++ rs) q.pair.sound (
          λ p h. h.0 (q.pair.«from», q.pair.to),
          (λ p h. q.pair.apart h.0, (λ p h. h.0 s q.stands q.distance.way q.distance.short.leads, c)),
        )

    near-clear : n ≤ most_hops → Never (too_far z t a d)
    near-clear l p h = let e = distance-of h.0.0 h.0.1 h.0.2 h.0.3 in let m = h.0.4 in omega arith

    few-clear : tries_from z t s d n ≤ limit → Never (too_many z t a d)
    few-clear l p h =
        let e = distance-of h.0.0 h.0.1 h.0.2 h.0.3 in
        let m : limit < tries_from z t s d n = subst (λ (x : ℕ). limit < tries_from z t s d x) e (subst (λ (x : ℕ). limit < tries_from z t x d h.0.1) (stands_one h.0.0 h.0.2) h.0.4) in
        omega arith

    room-clear : (k : ℕ) (out : List ℕ) → k ≤ length out → Never (too_short k out)
    room-clear k out l p h = let m = h.0 in omega arith

    -- demand 2: "Distances .. equal those of the published method"
    pub distance-exact : (r : Answer) → Measured z t a d r → (r.number ≡ 0) × (r.distance ≡ n) × (r.count ≡ 0) × (r.tries ≡ 0)
    unfolding Clear
    distance-exact r h =
        let e = (clear-says (of_pair z t a d ++ []) (pair-clear [] tt) r.number r.place h.answer).0 in
        (e, distance-of s r.distance q.stands (h.distance e s q.stands), h.zeros.0, h.zeros.1)

    -- demand 2: "A port is in a switch's mask exactly when it starts a shortest way onward for that pair."
    pub mask-exact : (out : List ℕ) (r : Answer) (o : List ℕ) → n ≤ most_hops → switches t ≤ length out → Masked z t a d out r o
        → (r.number ≡ 0) × (r.distance ≡ n) × ((u p : ℕ) → u < switches t → T (has p (get_or o u 0)) ↔ InMask (far_of z t) s d u p)
    unfolding Clear
    mask-exact out r o l m h =
        let e = (clear-says (of_pair z t a d ++ (too_far z t a d ∷ too_short (switches t) out ∷ [])) (pair-clear (too_far z t a d ∷ too_short (switches t) out ∷ []) (near-clear l, (room-clear (switches t) out m, tt))) r.number r.place h.answer).0 in
        (e, distance-of s r.distance q.stands (h.distance e s q.stands), λ u p i. h.masks e s u p q.stands i)

    -- demand 3: "the header test says yes exactly when no word is empty and every list with one port from each word is a delivery"
    pub test-exact : (ws : List ℕ) (r : TestAnswer) → n ≤ most_hops → Tested z t a d ws r → (r.answer.number ≡ 0) × ((r.says ≡ Yes) ↔ Passes (far_of z t) s d ws)
    unfolding Clear
    test-exact ws r l h =
        let e = (clear-says (of_pair z t a d ++ (too_far z t a d ∷ [])) (pair-clear (too_far z t a d ∷ []) (near-clear l, tt)) r.answer.number r.answer.place h.answer).0 in
        (e, h.tested e s q.stands)

    -- demand 3: "within the stated number of tries and with room for the answer, the header issued passes that test, permits at least as
    -- many lists as any other that passes, and among equals is first in byte order"
    pub issue-exact : (out : List ℕ) (r : Answer) (o : List ℕ) → n ≤ most_hops → most_hops ≤ length out → tries_from z t s d n ≤ limit → Issued z t a d out r o → (r.number ≡ 0) × Header z t a d s out r o
    unfolding Clear
    issue-exact out r o l m k h =
        let more = too_far z t a d ∷ too_short most_hops out ∷ too_many z t a d ∷ [] in
        let e = (clear-says (of_pair z t a d ++ more) (pair-clear more (near-clear l, (room-clear most_hops out m, (few-clear k, tt)))) r.number r.place h.answer).0 in
        (e, h.issued e s q.stands)

    -- 01's rule said a second way: the lists of 1 to n - 1 nonempty words that choose, at each stage, among the ports common to the masks
    -- of the set reached
    pub tries-exact : (out : List ℕ) (r : Answer) (o : List ℕ) → r.number ≡ 0 → Issued z t a d out r o
        → r.tries ≡ tried (far_of z t) (switches t) (mask_of (far_of z t) (switches t) d s) (n - 1) (2 ^ s)
    tries-exact out r o e h =
        let k = h.issued e s q.stands in
        k.tries ∙ ap (tries_from z t s d) (distance-of s r.distance q.stands k.distance) ∙ tries-tried (far_of z t) (switches t) (mask_of (far_of z t) (switches t) d s) (n - 1) (2 ^ s)

    -- the masks of that rule are those of demand 2: all masks with a bit exactly where it says give this number of tries
    pub tries-meant : (mask : ℕ → ℕ) → ((u p : ℕ) → T (has p (mask u)) ↔ InMask (far_of z t) s d u p) → tries_from z t s d n ≡ tries (far_of z t) (switches t) mask (n - 1) (2 ^ s)
    tries-meant mask h =
        ap (λ (m : ℕ → ℕ). tries (far_of z t) (switches t) m (n - 1) (2 ^ s))
        (fun_ext (λ u. meant-one (mask_of (far_of z t) (switches t) d s u) (mask u) _ (in-mask (far_of z t) (switches t) (far_of-wired z t) d s n q.distance u) (h u)))

    -- 01: "Every reachable pair of different nodes at distance 8 or less has a header"
    pub has-header : (ws : List ℕ) × Passes (far_of z t) s d ws × (length ws ≡ n)
    has-header =
        let ws = singles q.distance.way in
        let p = single-passes (far_of z t) (switches t) (far_of-wired z t) d s n q.distance q.distance.way q.distance.short in
        (ws, p, passes-length (far_of z t) (switches t) (far_of-wired z t) d s n q.distance ws p)

    -- 01: "A header that passes the test is DELIVERED to its destination in exactly its distance, for any choice bytes, at least one for
    -- each word."
    pub walk-exact : (ws cs : List ℕ) (r : WalkAnswer) → n ≤ most_hops → length ws ≤ length cs → Passes (far_of z t) s d ws → Walked z t a ws cs r
        → (r.number ≡ 0) × (r.ending ≡ Delivered) × (r.at ≡ d) × (r.hops ≡ n) × (r.left ≡ 0)
    unfolding Clear
    walk-exact ws cs r l m p h =
        let k = passes-length (far_of z t) (switches t) (far_of-wired z t) d s n q.distance ws p in
        let more = plain 4 (¬ (Attached z t a)) ∷ too_long ws ∷ too_few ws cs ∷ [] in
        let e = (clear-says (of_table z t ++ more) (sound-clear z t more q.pair.sound (λ x y. y.0 q.pair.«from», (λ x y. let i = y.0 in omega arith, (λ x y. let i = y.0 in omega arith, tt)))) r.number r.place h.answer).0 in
        let f = ended-only (far_of z t) ws cs s m r.ending Delivered r.at d r.hops (length ws) r.left 0 (h.walked e s q.stands) (walk-delivers (far_of z t) s d ws cs p m) in
        let g = f.2 in (e, f.0, f.1, omega arith, f.3)
