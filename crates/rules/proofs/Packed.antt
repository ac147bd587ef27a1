-- What a caller of the C library reads from the one number it gets is the answer itself: where a promise is kept each part fits its
-- width, so by Laid it comes back. Only a field's place may lie anywhere in the input: of it 56 bits come back. Assumes nothing.
use Prim.Native.Nat.{ℕ, zero, ◌+◌, ◌*◌, ◌^◌, ◌≤◌, ◌<◌}
use native.Mathlib.Nat.{eq-zero-or-pos}
use native.Mathlib.Decide.{ℕ_discrete}
use native.Mathlib.Omega.{arith}
use mathlib.Core.Path.{◌≡◌, refl, subst}
use mathlib.Core.Logic.{◌⊎◌, inl, inr, ⊎_elim}
use mathlib.Core.List.{List, [], ◌∷◌, ◌++◌, append-nil}
use lib.ListN.{length, get_or, take}
use Rattle.rules.specs.Answers.{Answer, TestAnswer, Ending, None, Delivered, Leftover, Empty, Off, Short, WalkAnswer, FieldAnswer}
use Rattle.rules.specs.Pack.{packed, packed_test, packed_walk, packed_fields, Packs}
use Rattle.rules.specs.Net.{Far, switch, node, nothing, follow, Distance}
use Rattle.rules.specs.Table.{Sizes, house, no_link, switches, kind_at, far_of, Sound, Stands, Attached}
use Rattle.rules.specs.Refusals.{Refusal, Says, plain, most_hops, of_table, apart, of_pair, too_far, too_short, too_many, too_long, too_few}
use Rattle.rules.specs.Tries.{limit}
use Rattle.rules.specs.Promise.{Measured, Masked, Header, Issued, Tested}
use Rattle.rules.specs.Walk.{ports, after, EndsAs, Walked}
use Rattle.rules.specs.Fields.{Holds, bad_field, bad_row, Filled, Loaded}
use Rattle.rules.specs.RunTable.{attached, home}
use Rattle.rules.specs.RunFields.{rows, entries, call_judgement}
use Rattle.rules.proofs.SetLaws.{not-lt, dec-T}
use Rattle.rules.proofs.Laid.{Unpacked, Fits, UnpackedTest, UnpackedWalk, UnpackedFields, fits-unpacked, test-unpacked, walk-unpacked, fields-unpacked, packs-read}
use Rattle.rules.proofs.Ways.{never-zero}
use Rattle.rules.proofs.Layers.{distance-le}
use Rattle.rules.proofs.Says.{Never, Placed, Clear, says-clear, plain-one, plain-never}
use Rattle.rules.proofs.Tables.{kind-node, far_of-wired, sound-length}
use Rattle.rules.proofs.Homes.{port-of, port-one, in-attached}
use Rattle.rules.proofs.Few.{permits-few}
use Rattle.rules.proofs.Pair.{passes-length}
use Rattle.rules.proofs.Joined.{Joined, table-placed, clear-sound}
use Rattle.rules.proofs.Kept.{joins}
use Rattle.rules.proofs.FieldLaws.{entries-length, entries-hold}
use Rattle.rules.proofs.FieldPromises.{call_rows, call-refuses}

-- ---- number and place: each number of the list fits, and each place is at most m

unfoldable pub Held : ℕ → List Refusal → Type 0
Held m [] = Unit {0}
Held m (r ∷ rs) = (r.number < 2 ^ 8) × ((q : ℕ) → r.given q → q ≤ m) × (Never r → Held m rs)

pub says-held : (m : ℕ) (rs : List Refusal) → Held m rs → (k q : ℕ) → Says rs k q → (k < 2 ^ 8) × (q ≤ m)
unfolding Held Says
says-held m [] h k q s = let e = s.0 in let f = s.1 in (omega arith, omega arith)
says-held m (r ∷ rs) h k q s =
    ⊎_elim (λ i. let e = i.0 in let l = h.0 in (omega arith, h.1 q i.1)) (λ i. says-held m rs (h.2 i.0) k q i.1) s

plain-low : {A : Type 0} {m : ℕ} (q : ℕ) → A × (q ≡ 0) → q ≤ m
plain-low q h = let e = h.1 in omega arith

module _ (z : Sizes) (t : List ℕ) where
  -- the place of 2 or 3 is an index of a table that is no longer than the longest
  table-held : (rs : List Refusal) → Held (8 * z.most) rs → Held (8 * z.most) (of_table z t ++ rs)
  unfolding Held
  table-held rs h = (
    omega arith,
    plain-low,
    λ n. let l : length t ≤ 8 * z.most = not-lt (λ g. plain-never n (inr (inl g))) in
        (omega arith, λ q i. let g = i.here.inside in omega arith, λ _. (omega arith, λ q i. let g = i.here.inside in omega arith, λ _. h)),
  )

  module _ (a d : ℕ) where
    pair-said : (rs : List Refusal) → Held (8 * z.most) rs → (k q : ℕ) → Says (of_pair z t a d ++ rs) k q → (k < 2 ^ 8) × (q ≤ 8 * z.most)
    unfolding Held
    pair-said rs h =
        says-held (8 * z.most) (of_pair z t a d ++ rs)
        (table-held (apart z t a d ++ rs) (omega arith, plain-low, λ _. (omega arith, plain-low, λ _. (omega arith, plain-low, λ _. h))))

    module _ (j : Joined z t a d) (n : ℕ) (h : (s : ℕ) → Stands z t a s → Distance (far_of z t) s d n) where
      -- a distance is at most the number of switches
      distance-few : n ≤ z.most
      distance-few =
          let l = distance-le (far_of z t) (switches t) (far_of-wired z t) d (h (home z t a) j.«from») in
          let m = sound-length z t j.sound in omega arith

      distance-near : Never (too_far z t a d) → n ≤ most_hops
      distance-near c = not-lt (λ l. plain-never c (home z t a, n, j.«from», h (home z t a) j.«from», l))

-- ---- the answers to a pair fit

-- sizes whose switches and processors fit their widths
pub record Narrow (z : Sizes) : Type 0 where
  pub few : z.most < 2 ^ 8
  pub nodes : z.nodes ≤ 2 ^ 16

pub house-narrow : Narrow house
house-narrow = record { few = omega arith; nodes = omega arith }

-- what header issue gives: at most eight hops, 8 ^ 7 lists, and the limit's tries
pub record Bounded (r : Answer) : Type 0 where
  pub some : zero < r.distance
  pub distance : r.distance ≤ most_hops
  pub count : r.count ≤ 8 ^ 7
  pub tries : r.tries ≤ limit

module _ (z : Sizes) (t : List ℕ) (a d : ℕ) where
  -- a header from the switch where the source stands
  module _ (j : Joined z t a d) (out : List ℕ) (r : Answer) (o : List ℕ) (x : Header z t a d (home z t a) out r o) where
    header-count : r.distance ≤ most_hops → r.count ≤ 8 ^ 7
    header-count l =
        let e = passes-length (far_of z t) (switches t) (far_of-wired z t) d (home z t a) r.distance x.distance x.words x.best.one in
        rw x.count (permits-few (far_of z t) d (λ s p q h k. (port-one z t j.sound.none-again d s s p q h k).1) (home z t a) x.words x.best.one (omega arith))

    header-tries : Never (too_many z t a d) → r.tries ≤ limit
    header-tries c = rw x.tries (not-lt (λ l. plain-never c (home z t a, r.distance, j.«from», x.distance, l)))

  pub masked-near : (out : List ℕ) (r : Answer) (o : List ℕ) → Masked z t a d out r o → r.number ≡ 0 → r.distance ≤ most_hops
  unfolding Placed Clear
  masked-near out r o h e =
      let more = too_far z t a d ∷ too_short (switches t) out ∷ [] in
      let j = joins z t a d more (omega arith, plain-one, (omega arith, plain-one, tt)) (record { number = r.number; place = r.place }) h.answer e in
      distance-near z t a d j.0 r.distance (h.distance e) j.1.0

  pub issued-bounded : (out : List ℕ) (r : Answer) (o : List ℕ) → Issued z t a d out r o → r.number ≡ 0 → Bounded r
  unfolding Placed Clear
  issued-bounded out r o h e =
      let more = too_far z t a d ∷ too_short most_hops out ∷ too_many z t a d ∷ [] in
      let j = joins z t a d more (omega arith, plain-one, (omega arith, plain-one, (omega arith, plain-one, tt))) (record { number = r.number; place = r.place }) h.answer e in
      let l = distance-near z t a d j.0 r.distance (λ s w. (h.issued e s w).distance) j.1.0 in
      let x = h.issued e (home z t a) j.0.«from» in
      record { some = ⊎_elim (λ k. absurd (never-zero (far_of z t) (subst (Distance (far_of z t) (home z t a) d) k x.distance))) (λ l. l) (eq-zero-or-pos r.distance); distance = l; count = header-count j.0 out r o x l; tries = header-tries j.0 out r o x j.1.1.1.0 }

  pub tested-said : (ws : List ℕ) (r : TestAnswer) → Tested z t a d ws r → (r.answer.number < 2 ^ 8) × (r.answer.place ≤ 8 * z.most)
  unfolding Held
  tested-said ws r h = pair-said z t a d (too_far z t a d ∷ []) (omega arith, plain-low, λ _. tt) r.answer.number r.answer.place h.answer

  module _ (narrow : Narrow z) where
    pub measured-fits : (r : Answer) → Measured z t a d r → Fits (8 * z.most) r
    unfolding Held Placed
    measured-fits r h =
        let f = pair-said z t a d [] tt r.number r.place h.answer in
        let c = h.zeros in
        let l : r.number ≡ 0 → r.distance ≤ z.most = λ e. distance-few z t a d (joins z t a d [] tt (record { number = r.number; place = r.place }) h.answer e).0 r.distance (h.distance e) in
        record { number = f.0; place = f.1; values = λ e. let m = l e in omega arith }

    pub masked-fits : (out : List ℕ) (r : Answer) (o : List ℕ) → Masked z t a d out r o → Fits (8 * z.most) r
    unfolding Held
    masked-fits out r o h =
        let more = too_far z t a d ∷ too_short (switches t) out ∷ [] in
        let f = pair-said z t a d more (omega arith, plain-low, λ _. (omega arith, plain-low, λ _. tt)) r.number r.place h.answer in
        let c = h.zeros in
        record { number = f.0; place = f.1; values = λ e. let l = masked-near out r o h e in omega arith }

    pub issued-fits : (out : List ℕ) (r : Answer) (o : List ℕ) → Issued z t a d out r o → Fits (8 * z.most) r
    unfolding Held
    issued-fits out r o h =
        let more = too_far z t a d ∷ too_short most_hops out ∷ too_many z t a d ∷ [] in
        let f = pair-said z t a d more (omega arith, plain-low, λ _. (omega arith, plain-low, λ _. (omega arith, plain-low, λ _. tt))) r.number r.place h.answer in
        record { number = f.0; place = f.1; values = λ e. let b = issued-bounded out r o h e in omega arith }

-- ---- a walk's answer fits: it ends where a link or a port leads

unfoldable Low : Far → Type 0
Low (switch s) = s < 2 ^ 16
Low (node n) = n < 2 ^ 16
Low nothing = Unit {0}

module _ (far : ℕ → ℕ → Far) (low : (s p : ℕ) → Low (far s p)) where
  follow-low : (ps : List ℕ) (x : Far) → Low x → Low (follow far ps x)
  unfolding follow Low
  follow-low [] x h = h
  follow-low (p ∷ ps) (switch s) h = follow-low ps (far s p) (low s p)
  follow-low (p ∷ ps) (node n) h = tt
  follow-low (p ∷ ps) nothing h = tt

  ended-low : (ws cs : List ℕ) (s : ℕ) → Low (switch s) → (e : Ending) (p i l : ℕ) → EndsAs far ws cs s e p i l → p < 2 ^ 16
  unfolding EndsAs Low
  ended-low ws cs s h e p i l = at e
    where
      there : (x : Far) → after far ws cs s i ≡ x → Low x
      there x f = subst Low f (follow-low (take i (ports ws cs)) (switch s) h)

      at : (e : Ending) → EndsAs far ws cs s e p i l → p < 2 ^ 16
      at None k = absurd k
      at Delivered k = there (node p) k.0
      at Leftover k = there (node p) k.0
      at Empty k = there (switch p) k.0
      at Off k = there (switch p) k.0
      at Short k = there (switch p) k.0

module _ (z : Sizes) (t : List ℕ) where
  table-low : Narrow z → switches t ≤ z.most → (s p : ℕ) → Low (far_of z t s p)
  unfolding Low kind_at
  table-low narrow l s p = at (far_of z t s p) refl
    where
      at : (x : Far) → far_of z t s p ≡ x → Low x
      at (switch u) e = let m = (far_of-wired z t).link s p u e in omega arith
      at (node n) e = let k = kind-node z (switches t) (get_or t (8 * s + p) no_link) n (port-of z t n s p e).entry in omega arith
      at nothing e = tt

  module _ (a : ℕ) (ws cs : List ℕ) (r : WalkAnswer) (h : Walked z t a ws cs r) where
    abbrev of_walk : List Refusal
    of_walk = plain 4 (¬ (Attached z t a)) ∷ too_long ws ∷ too_few ws cs ∷ []

    pub walked-said : (r.number < 2 ^ 8) × (r.place ≤ 8 * z.most)
    unfolding Held
    walked-said =
        says-held (8 * z.most) (of_table z t ++ of_walk) (table-held z t of_walk (omega arith, plain-low, λ _. (omega arith, plain-low, λ _. (omega arith, plain-low, λ _. tt))))
        r.number r.place h.answer

    walk-sound : r.number ≡ 0 → Sound z t × Clear of_walk
    unfolding Placed
    walk-sound e =
        clear-sound z t of_walk (says-clear (of_table z t ++ of_walk) (table-placed z t of_walk (omega arith, plain-one, (omega arith, plain-one, (omega arith, plain-one, tt))))
        r.number r.place h.answer e)

    pub walked-fits : Narrow z → r.number ≡ 0 → (r.at < 2 ^ 16) × (r.hops ≤ most_hops) × (r.left ≤ most_hops)
    unfolding Clear Low
    walked-fits narrow e =
        let c = walk-sound e in
        let w : Attached z t a = ⊎_elim (in-attached z t a).0 (λ k. absurd (plain-never c.1.0 (λ i. k ((in-attached z t a).1 i)))) (dec-T (attached z t a)) in
        let l = (sound-length z t c.0).1 in
        let s = (port-of z t a w.0 w.1.port w.1.there).switch-in in
        let n : length ws ≤ most_hops = not-lt (plain-never c.1.1.0) in
        let f = h.walked e w.0 w.1 in
        let g = f.words in
        (ended-low (far_of z t) (table-low narrow l) ws cs w.0 (omega arith) r.ending r.at r.hops r.left f.so, omega arith, omega arith)

-- ---- the answers of the field reader and of the C call over fields fit

module _ (z : Sizes) (b out : List ℕ) where
  pub filled-said : (r : FieldAnswer) (o : List ℕ) → Filled z b out r o → (r.number < 2 ^ 8) × (r.place ≤ length b)
  unfolding Held
  filled-said r o h =
      says-held (length b) (bad_field b z ∷ too_short (8 * z.most) out ∷ []) (omega arith, λ q i. let l = i.3 in omega arith, λ _. (omega arith, plain-low, λ _. tt))
      r.number r.place h.answer

  pub filled-few : (r : FieldAnswer) (o : List ℕ) → Filled z b out r o → r.number ≡ 0 → (r.switches ≤ z.most) × (r.pairs ≤ 19 * z.most)
  filled-few r o h e = let f = h.found e in let l = f.1.few in let m = f.2 in (l, omega arith)

  -- a row is bad, or header issue answers for the table of all rows
  loaded-either : (a d : ℕ) (r : Answer) (o : List ℕ) → Loaded z b a d out r o → ((q : ℕ) × (bad_row b z).given q) ⊎ ((t : List ℕ) × Issued z t a d out r o)
  loaded-either a d r o h = at (ℕ_discrete (call_judgement b z).number 0)
    where
      at : Dec ((call_judgement b z).number ≡ 0) → ((q : ℕ) × (bad_row b z).given q) ⊎ ((t : List ℕ) × Issued z t a d out r o)
      at (yes e) =
          let k = rows b z.most in
          let t = entries b k in
          inr (t, h.issued k t (call_rows z b e) (entries-length b k) (subst (Holds b k) (append-nil t) (entries-hold b k [])))
      at (no e) = inl (call-refuses z b e)

  -- 01: "No place there is above 1,216": that is 19 * 64
  pub loaded-fits : Narrow z → (a d : ℕ) (r : Answer) (o : List ℕ) → Loaded z b a d out r o → Fits (19 * z.most) r
  loaded-fits narrow a d r o h = ⊎_elim bad good (loaded-either a d r o h)
    where
      bad : (q : ℕ) × (bad_row b z).given q → Fits (19 * z.most) r
      bad i =
          let x = h.bad i.0 i.1 in
          let n = x.0 in
          let u = i.1.1 in
          record { number = omega arith; place = omega arith; values = λ e. absurd (omega arith) }

      good : (t : List ℕ) × Issued z t a d out r o → Fits (19 * z.most) r
      good i =
          let f = issued-fits z i.0 a d narrow out r o i.1 in
          let l = f.place in
          record { number = f.number; place = omega arith; values = f.values }

-- ---- what a caller reads

module _ (z : Sizes) (narrow : Narrow z) where
  module _ (t : List ℕ) (a d n : ℕ) where
    pub measured-unpacks : (h : Packs packed (Measured z t a d) n) → Unpacked h.answer n
    measured-unpacks = packs-read packed (Measured z t a d) Unpacked (λ r k. fits-unpacked (8 * z.most) (omega arith) r (measured-fits z t a d narrow r k)) n

    pub masked-unpacks : (out o : List ℕ) (h : Packs packed (λ r. Masked z t a d out r o) n) → Unpacked h.answer n
    masked-unpacks out o =
        packs-read packed (λ r. Masked z t a d out r o) Unpacked (λ r k. fits-unpacked (8 * z.most) (omega arith) r (masked-fits z t a d narrow out r o k)) n

    pub issued-unpacks : (out o : List ℕ) (h : Packs packed (λ r. Issued z t a d out r o) n) → Unpacked h.answer n
    issued-unpacks out o =
        packs-read packed (λ r. Issued z t a d out r o) Unpacked (λ r k. fits-unpacked (8 * z.most) (omega arith) r (issued-fits z t a d narrow out r o k)) n

    pub tested-unpacks : (ws : List ℕ) (h : Packs packed_test (Tested z t a d ws) n) → UnpackedTest h.answer n
    tested-unpacks ws =
        packs-read packed_test (Tested z t a d ws) UnpackedTest (λ r k. let f = tested-said z t a d ws r k in test-unpacked r f.0 (omega arith)) n

  pub walked-unpacks : (t : List ℕ) (a : ℕ) (ws cs : List ℕ) (n : ℕ) (h : Packs packed_walk (Walked z t a ws cs) n) → UnpackedWalk h.answer n
  walked-unpacks t a ws cs =
      packs-read packed_walk (Walked z t a ws cs) UnpackedWalk (λ r k.
      let f = walked-said z t a ws cs r k in
      walk-unpacked r f.0 (omega arith) (λ e. let g = walked-fits z t a ws cs r k narrow e in (g.0, omega arith, omega arith)))

  module _ (b out o : List ℕ) (n : ℕ) where
    pub filled-unpacks : (h : Packs packed_fields (λ r. Filled z b out r o) n) → UnpackedFields h.answer n
    filled-unpacks =
        packs-read packed_fields (λ r. Filled z b out r o) UnpackedFields (λ r k.
        fields-unpacked r (filled-said z b out r o k).0 (λ e. let f = filled-few z b out r o k e in (omega arith, omega arith))) n

    pub loaded-unpacks : (a d : ℕ) (h : Packs packed (λ r. Loaded z b a d out r o) n) → Unpacked h.answer n
    loaded-unpacks a d =
        packs-read packed (λ r. Loaded z b a d out r o) Unpacked (λ r k. fits-unpacked (19 * z.most) (omega arith) r (loaded-fits z b out narrow a d r o k)) n
