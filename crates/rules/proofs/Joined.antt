-- Refusals 1 to 6 go down as they are looked for. Where none of them is given, the pair is joined: its table is sound, its source stands
-- at one switch, and from there the destination has a distance. Assumes nothing.
use Prim.Native.Nat.{ℕ, ◌<◌}
use native.Mathlib.Omega.{arith}
use mathlib.Core.Path.{◌≡◌, sym, subst}
use mathlib.Core.Logic.{◌↔◌, ⊎_elim}
use mathlib.Core.Bool.{◌&&◌, not}
use mathlib.Core.List.{List, ◌++◌}
use lib.Dec.{T, eqb, ltb, ltb→lt, lt→ltb, eqb→eq, not_T, T_not}
use lib.ListN.{length}
use Rattle.rules.specs.Net.{Distance, Unreachable}
use Rattle.rules.specs.Table.{Sizes, switches, far_of, WrongLength, BadAt, Again, Sound, Stands, Attached}
use Rattle.rules.specs.Refusals.{Refusal, lowest, plain, most_hops, Missing, NoChain, of_table, apart, of_pair, too_far, too_many, tries_from}
use Rattle.rules.specs.Tries.{limit}
use Rattle.rules.specs.Look.{Looked, first}
use Rattle.rules.specs.RunTable.{bad_length, bad_at, again, look_table, attached, home}
use Rattle.rules.specs.RunPair.{distance, mask, tries_of, look_pair, look7, look9}
use Rattle.rules.proofs.SetLaws.{T_and, and_i, eq-T, dec-T}
use Rattle.rules.proofs.Ways.{distance-one}
use Rattle.rules.proofs.Layers.{dist-cases, unreachable-is}
use Rattle.rules.proofs.Says.{Told, Never, Placed, Clear, Decides, says-step, plain-decides, plain-never, plain-one, lowest-decides, lowest-never, lowest-one}
use Rattle.rules.proofs.Tables.{far_of-wired, in-length, in-bad}
use Rattle.rules.proofs.Homes.{in-again, home-one, in-attached, home-is}

pub record Joined (z : Sizes) (t : List ℕ) (a d : ℕ) : Type 0 where
  pub sound : Sound z t
  pub «from» : Stands z t a (home z t a)
  pub alone : (s : ℕ) → Stands z t a s → s ≡ home z t a
  pub to : Attached z t d
  pub apart : ¬ (a ≡ d)
  pub dist : Distance (far_of z t) (home z t a) d (distance z t a d)

module _ (z : Sizes) (t : List ℕ) where
  -- ---- refusals 1 to 3

  sound-of : Never (plain 1 (WrongLength z t)) → Never (lowest 2 (BadAt z t)) → Never (lowest 3 (Again z t)) → Sound z t
  sound-of h k l = record {
    length-right = plain-never h;
    none-bad = lowest-never 2 (BadAt z t) (length t) (bad_at z t) (in-bad z t) k;
    none-again = lowest-never 3 (Again z t) (length t) (again z t) (in-again z t) l;
  }

  pub table-says : (rs : List Refusal) (ls : List Looked) → (Sound z t → Told rs (first ls)) → Told (of_table z t ++ rs) (first (look_table z t ++ ls))
  table-says rs ls k =
      says-step _ _ _ _ (plain-decides 1 (WrongLength z t) (bad_length z t) (in-length z t)) (λ n1.
      says-step _ _ _ _ (lowest-decides 2 (BadAt z t) (length t) (bad_at z t) (in-bad z t)) (λ n2.
      says-step _ _ _ _ (lowest-decides 3 (Again z t) (length t) (again z t) (in-again z t)) (λ n3. k (sound-of n1 n2 n3))))

  pub table-placed : (rs : List Refusal) → Placed rs → Placed (of_table z t ++ rs)
  unfolding Placed
  table-placed rs l = (omega arith, plain-one, (omega arith, lowest-one, (omega arith, lowest-one, l)))

  pub clear-sound : (rs : List Refusal) → Clear (of_table z t ++ rs) → Sound z t × Clear rs
  unfolding Clear
  clear-sound rs c = (sound-of c.0 c.1.0 c.1.1.0, c.1.1.1)

  pub sound-clear : (rs : List Refusal) → Sound z t → Clear rs → Clear (of_table z t ++ rs)
  unfolding Clear
  sound-clear rs s c = (λ q h. s.length-right h.0, (λ q h. s.none-bad q h.here, (λ q h. s.none-again q h.here, c)))

  -- ---- refusals 4 to 6
  module _ (a d : ℕ) where
    abbrev Both : Type 0
    Both = Attached z t a × Attached z t d

    in_both : T (attached z t a && attached z t d) ↔ Both
    in_both = (
      λ h. let i = T_and (attached z t a) (attached z t d) h in ((in-attached z t a).0 i.0, (in-attached z t d).0 i.1),
      λ h. and_i (attached z t a) (attached z t d) ((in-attached z t a).1 h.0) ((in-attached z t d).1 h.1),
    )

    in-unattached : T (not (attached z t a && attached z t d)) ↔ (Missing z t a d)
    in-unattached = (λ h k. T_not (attached z t a && attached z t d) h (in_both.1 k), λ h. not_T (attached z t a && attached z t d) (λ k. h (in_both.0 k)))

    both : ¬ (Missing z t a d) → Both
    both h = ⊎_elim (λ k. in_both.0 k) (λ k. absurd (h (λ b. k (in_both.1 b)))) (dec-T (attached z t a && attached z t d))

    -- unreachable from the one switch where it stands is unreachable
    in-parted : Sound z t → Attached z t a → T (ltb (switches t) (distance z t a d)) ↔ (NoChain z t a d)
    unfolding distance
    in-parted sound h = (
      λ k s w. subst (λ (x : ℕ). Unreachable (far_of z t) x d) (home-one z t sound.none-again a (home z t a) s (home-is z t a h) w) ((unreachable-is (far_of z t) (switches t) (far_of-wired z t) d (home z t a)).0 k),
      λ u. (unreachable-is (far_of z t) (switches t) (far_of-wired z t) d (home z t a)).1 (u (home z t a) (home-is z t a h)),
    )

    joined_of : Sound z t → Attached z t a → Attached z t d → ¬ (a ≡ d) → ¬ (NoChain z t a d) → Joined z t a d
    unfolding distance
    joined_of sound h k e u = record {
      sound = sound;
      «from» = home-is z t a h;
      alone = λ s w. home-one z t sound.none-again a s (home z t a) w (home-is z t a h);
      to = k;
      apart = e;
      dist = ⊎_elim (λ i. i)
          (λ i. absurd (u (λ s w. subst (λ (x : ℕ). Unreachable (far_of z t) x d) (home-one z t sound.none-again a (home z t a) s (home-is z t a h) w) i)))
          (dist-cases (far_of z t) (switches t) (far_of-wired z t) d (home z t a));
    }

    pub pair-says : (rs : List Refusal) (ls : List Looked) → (Joined z t a d → Told rs (first ls)) → Told (of_pair z t a d ++ rs) (first (look_pair z t a d ls))
    pair-says rs ls k =
        table-says (apart z t a d ++ rs) _ (λ sound.
        says-step _ _ _ _ (plain-decides 4 (Missing z t a d) (not (attached z t a && attached z t d)) in-unattached) (λ n4.
        says-step _ _ _ _ (plain-decides 5 (a ≡ d) (eqb a d) (eqb→eq a d, eq-T a d)) (λ n5.
        let b = both (plain-never n4) in
        says-step _ _ _ _ (plain-decides 6 (NoChain z t a d) (ltb (switches t) (distance z t a d)) (in-parted sound b.0)) (λ n6.
        k (joined_of sound b.0 b.1 (plain-never n5) (plain-never n6))))))

    pub pair-placed : (rs : List Refusal) → Placed rs → Placed (of_pair z t a d ++ rs)
    unfolding Placed
    pair-placed rs l = table-placed (apart z t a d ++ rs) (omega arith, plain-one, (omega arith, plain-one, (omega arith, plain-one, l)))

    pub clear-joined : (rs : List Refusal) → Clear (of_pair z t a d ++ rs) → Joined z t a d × Clear rs
    unfolding Clear
    clear-joined rs c =
        let s = clear-sound (apart z t a d ++ rs) c in
        let b = both (plain-never s.1.0) in
        (joined_of s.0 b.0 b.1 (plain-never s.1.1.0) (plain-never s.1.1.1.0), s.1.1.1.1)

    -- ---- of a pair that is joined
    module _ (j : Joined z t a d) where
      -- its distance from wherever the source stands
      pub same-distance : (s n : ℕ) → Stands z t a s → Distance (far_of z t) s d n → n ≡ distance z t a d
      same-distance s n w h = distance-one (far_of z t) (subst (λ (x : ℕ). Distance (far_of z t) x d n) (j.alone s w) h) j.dist

      pub by_home : (P : ℕ → Type 0) → P (home z t a) → (s : ℕ) → Stands z t a s → P s
      by_home P h s w = subst P (sym (j.alone s w)) h

      -- a bound on the distance, or on a number that goes with it
      in-bound : (k : ℕ) (f : ℕ → ℕ → ℕ) → T (ltb k (f (home z t a) (distance z t a d))) ↔ ((s : ℕ) × (n : ℕ) × Stands z t a s × Distance (far_of z t) s d n × (k < f s n))
      in-bound k f = (
        λ h. (home z t a, distance z t a d, j.«from», j.dist, ltb→lt k (f (home z t a) (distance z t a d)) h),
        λ h. lt→ltb k (f (home z t a) (distance z t a d))
            (subst (λ (x : ℕ). k < f x (distance z t a d)) (j.alone h.0 h.2) (subst (λ (x : ℕ). k < f h.0 x) (same-distance h.0 h.1 h.2 h.3) h.4)),
      )

      pub far-decides : Decides (too_far z t a d) (look7 z t a d).1
      far-decides = plain-decides 7 _ (ltb most_hops (distance z t a d)) (in-bound most_hops (λ s n. n))

      pub many-decides : Decides (too_many z t a d) (look9 z t a d).1
      unfolding tries_of mask
      many-decides = plain-decides 9 _ (ltb limit (tries_of z t a d)) (in-bound limit (λ s n. tries_from z t s d n))
