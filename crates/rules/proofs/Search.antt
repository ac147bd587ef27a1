-- Reached sets as numbers: what `reach`, `common` and `choice` say of them, the test and the search for the widest header. A word goes right from
-- every switch of a set exactly where it is a choice among their common ports, so stage after stage needs the set alone.
-- Assumes nothing.
use Prim.Native.Nat.{ℕ, zero, suc, ◌≤◌, ◌<◌}
use native.Mathlib.Nat.{le_refl, le_trans, le_of_eq, lt_of_not-le, lt_of_le_of_lt, suc_inj}
use native.Mathlib.Omega.{arith}
use mathlib.Core.Path.{◌≡◌, refl, sym, ap, subst}
use mathlib.Core.Logic.{◌↔◌}
use mathlib.Core.Bool.{Bool, true, false, cond, ◌&&◌, ◌||◌, not}
use mathlib.Core.List.{List, [], ◌∷◌}
use Rattle.std.specs.Prelude.{Option, None}
use lib.Dec.{T, ltb, eqb→eq, ltb→lt, lt→ltb}
use lib.ListN.{length}
use lib.Bits.{bit_and, and_le_r}
use Rattle.rules.specs.Sets.{has, any, all, set_of, within}
use Rattle.rules.specs.Net.{Far, switch, node, nothing, Onward, Wired}
use Rattle.rules.specs.Header.{Words, Best, Before, permits}
use Rattle.rules.specs.Tries.{is_switch, reaches, reach, common, choice, chooses}
use Rattle.rules.specs.Run.{best}
use Rattle.rules.proofs.SetLaws.{T_and, and_i, T-if, eq-T, T_true, any-yes, any_some, all-at, all_yes, in-set_of, set_of-lt, has-small, in_within}
use Rattle.rules.proofs.Ways.{never-zero}
use Rattle.rules.proofs.Stages.{PassesFrom, Reach, Away, Common, reach-away, stage-on, stage-off, stage-common}
use Rattle.rules.proofs.Widest.{Answers, answers-iff, answers-widest, Under}

abbrev pub Has : ℕ → ℕ → Type 0
Has m s = T (has s m)

-- all members of m are Good
abbrev pub Each : (ℕ → Type 0) → ℕ → Type 0
Each Good m = (s : ℕ) → Has m s → Good s

-- the headers of n words that pass from the set m
pub record Fits (far : ℕ → ℕ → Far) (d m n : ℕ) (ws : List ℕ) : Type 0 where
  pub passed : PassesFrom far (Has m) d ws
  pub size : length ws ≡ n

is-switch : (t : ℕ) (x : Far) → T (is_switch t x) → x ≡ switch t
unfolding is_switch
is-switch t (switch s) h = ap switch (eqb→eq s t h)
is-switch t (node n) h = absurd h
is-switch t nothing h = absurd h

switch-is : (t : ℕ) (x : Far) → x ≡ switch t → T (is_switch t x)
unfolding is_switch
switch-is t (switch s) e = eq-T s t cc
switch-is t (node n) e = let z : ◌≡◌ {A = ℕ} 0 1 = cc in absurd (omega arith)
switch-is t nothing e = let z : ◌≡◌ {A = ℕ} 0 1 = cc in absurd (omega arith)

-- a smaller set chooses what a larger one chooses
pub passes-part : {far : ℕ → ℕ → Far} {S R : ℕ → Type 0} {d : ℕ} {ws : List ℕ} → ((s : ℕ) → R s → S s) → PassesFrom far S d ws → PassesFrom far R d ws
passes-part f h = record { words = h.words; right = λ s ps i. h.right s ps (f s i) }

-- The masks are right at the switches that are Good, and onward from a good switch stands a good switch.
pub record Guide (far : ℕ → ℕ → Far) (size d : ℕ) (mask : ℕ → ℕ) (Good : ℕ → Type 0) : Type 0 where
  pub small : (s : ℕ) → Good s → s < size
  pub right : (s p : ℕ) → Good s → Has (mask s) p ↔ Onward far d s p
  pub next : (s p t : ℕ) → Good s → Onward far d s p → far s p ≡ switch t → Good t

pub common-byte : (size : ℕ) (mask : ℕ → ℕ) (m : ℕ) → common size mask m < 256
unfolding common
common-byte size mask m = set_of-lt 8 (λ p. all size (λ s. not (has s m) || has p (mask s)))

module _ (far : ℕ → ℕ → Far) (size : ℕ) (wired : Wired far size) where
  linked : {s p t : ℕ} → far s p ≡ switch t → (s < size) × (p < 8)
  linked {s} {p} e = wired.inside s p (λ n. let z : ◌≡◌ {A = ℕ} 0 1 = cc in omega arith)

  module _ (m : ℕ) (word : ℕ → ℕ) (t : ℕ) where
    by : ℕ → ℕ → Bool
    by s p = has p (word s) && is_switch t (far s p)

    pub reaches-from : T (reaches far size m word t) → (s : ℕ) × (p : ℕ) × Has m s × Has (word s) p × (far s p ≡ switch t)
    unfolding reaches by
    reaches-from h =
        let a = any_some size (λ s. has s m && any 8 (by s)) h in
        let i = T_and (has a.0 m) (any 8 (by a.0)) a.2 in
        let b = any_some 8 (by a.0) i.1 in
        let j = T_and (has b.0 (word a.0)) (is_switch t (far a.0 b.0)) b.2 in
        (a.0, b.0, i.0, j.0, is-switch t (far a.0 b.0) j.1)

    pub from-reaches : (s p : ℕ) → Has m s → Has (word s) p → far s p ≡ switch t → T (reaches far size m word t)
    unfolding reaches by
    from-reaches s p i j e =
        let l = linked e in
        any-yes size (λ s. has s m && any 8 (by s)) s l.0
        (and_i (has s m) (any 8 (by s)) i (any-yes 8 (by s) p l.1 (and_i (has p (word s)) (is_switch t (far s p)) j (switch-is t (far s p) e))))

  pub in_reach : (m w t : ℕ) → Has (reach far size m w) t ↔ Reach far (Has m) w t
  unfolding reach
  in_reach m w t = (
    λ h. let r = reaches-from m (λ _. w) t ((in-set_of size (reaches far size m (λ _. w)) t).0 h).1 in
        record { «from» = r.0; by = r.1; there = r.2; permitted = r.3; link = r.4 },
    λ r. (in-set_of size (reaches far size m (λ _. w)) t).1
        (wired.link r.«from» r.by t r.link, from-reaches m (λ _. w) t r.«from» r.by r.there r.permitted r.link),
  )

  module _ (d : ℕ) (mask : ℕ → ℕ) (Good : ℕ → Type 0) (guide : Guide far size d mask Good) where
    pub in-common : (m w : ℕ) → Each Good m → T (choice w (common size mask m)) ↔ Common far d (Has m) w
    unfolding choice common within
    in-common m w g = (
      λ h. let i = T_and (ltb 0 w) (within w c) h in
          let j = (in_within w c).0 i.1 in
          record {
            nonempty = ltb→lt 0 w i.0;
            byte = lt_of_le_of_lt (le_trans (le_of_eq (sym (eqb→eq (bit_and w c) w i.1))) (and_le_r w c)) (set_of-lt 8 test);
            onward = λ s p k q. (guide.right s p (g s k)).0 ((T-if (has s m) (has p (mask s))).0 (all-at size (at p) ((in-set_of 8 test p).0 (j p q)).1 s (guide.small s (g s k))) k);
          },
      λ h. and_i (ltb 0 w) (within w c) (lt→ltb 0 w h.nonempty) ((in_within w c).1 (λ p q.
          (in-set_of 8 test p).1 (
            lt_of_not-le (λ l. subst T (has-small p 8 w h.byte l) q),
            all_yes size (at p) (λ s l. (T-if (has s m) (has p (mask s))).1 (λ k. (guide.right s p (g s k)).1 (h.onward s p k q))),
          ))),
    )
      where
        at : ℕ → ℕ → Bool
        at p s = not (has s m) || has p (mask s)

        test : ℕ → Bool
        test p = all size (at p)

        c : ℕ
        c = set_of 8 test

    pub reach-good : (m w : ℕ) → Each Good m → Common far d (Has m) w → Each Good (reach far size m w)
    reach-good m w g c t i =
        let r = (in_reach m w t).0 i in
        guide.next r.«from» r.by t (g r.«from» r.there) (c.onward r.«from» r.by r.there r.permitted) r.link

    pub reach_far : (m w n : ℕ) → Away far d (Has m) (suc n) → Common far d (Has m) w → Away far d (Has (reach far size m w)) n
    unfolding Away
    reach_far m w n a c t i = reach-away far d (Has m) w n a c t ((in_reach m w t).0 i)

    -- ---- the test
    pub in-passes : (ws : List ℕ) (m : ℕ) → Each Good m → Away far d (Has m) (length ws) → T (chooses far size mask m ws) ↔ PassesFrom far (Has m) d ws
    unfolding chooses Away Words
    in-passes [] m g a = (λ h. record { words = tt; right = λ s ps i _. absurd (never-zero far (a s i)) }, λ h. tt)
    in-passes (w ∷ ws) m g a = (
      λ h. let i = T_and (choice w (common size mask m)) (chooses far size mask (reach far size m w) ws) h in
          let c = (in-common m w g).0 i.0 in
          stage-on far d (Has m) w ws a c (passes-part (λ t. (in_reach m w t).1) ((in-passes ws (reach far size m w) (reach-good m w g c) (reach_far m w (length ws) a c)).0 i.1)),
      λ h. let c = stage-common far d (Has m) w ws h in
          and_i (choice w (common size mask m)) (chooses far size mask (reach far size m w) ws) ((in-common m w g).1 c)
          ((in-passes ws (reach far size m w) (reach-good m w g c) (reach_far m w (length ws) a c)).1 (passes-part (λ t. (in_reach m w t).0) (stage-off far d (Has m) w ws h))),
    )

    -- ---- the search
    module _ (n m : ℕ) (g : Each Good m) (a : Away far d (Has m) (suc n)) where
      c : ℕ
      c = common size mask m

      tail : (w : ℕ) (b : Bool) → choice w c ≡ b → (r : Option (List ℕ))
          → (Common far d (Has m) w → Answers (Fits far d (reach far size m w) n) r) → Answers (λ ws. Fits far d m (suc n) (w ∷ ws)) (cond b r None)
      unfolding c Answers
      tail w true e r ih =
          let k = (in-common m w g).0 (T_true e) in
          answers-iff
          (λ ws h. record {
            passed = stage-on far d (Has m) w ws (subst (λ (l : ℕ). Away far d (Has m) (suc l)) (sym h.size) a) k (passes-part (λ t. (in_reach m w t).1) h.passed);
            size = ap suc h.size;
          })
          (λ ws h. record { passed = passes-part (λ t. (in_reach m w t).0) (stage-off far d (Has m) w ws h.passed); size = suc_inj h.size })
          r (ih k)
      tail w false e r ih = λ ws h. subst T e ((in-common m w g).1 (stage-common far d (Has m) w ws h.passed))

      pos : (w : ℕ) (ws : List ℕ) → Fits far d m (suc n) (w ∷ ws) → zero < w
      unfolding Words
      pos w ws h = h.passed.words.0

      under : (ws : List ℕ) → Fits far d m (suc n) ws → Under (Fits far d m (suc n)) 256 ws
      unfolding Words Under
      under [] h = let e = h.size in omega arith
      under (w ∷ ws) h = (h.passed.words.1, h)

      over : (ws : List ℕ) → Under (Fits far d m (suc n)) 256 ws → Fits far d m (suc n) ws
      unfolding Under
      over [] h = absurd h
      over (w ∷ ws) h = h.1

    start : (m : ℕ) → Away far d (Has m) 0 → Best (Fits far d m 0) []
    unfolding Away Words Before permits
    start m a = record {
      one = record { passed = record { words = tt; right = λ s ps i _. absurd (never-zero far (a s i)) }; size = refl };
      most = λ ws h. most ws h.size;
      first = λ ws h e. tt;
    }
      where
        most : (ws : List ℕ) → length ws ≡ 0 → permits ws ≤ 1
        most [] e = le_refl 1
        most (w ∷ ws) e = absurd (omega arith)

    pub answers-best : (n m : ℕ) → Each Good m → Away far d (Has m) n → Answers (Fits far d m n) (best far size mask n m)
    unfolding best Answers c
    answers-best zero m g a = start m a
    answers-best (suc n) m g a =
        answers-iff (over n m g a) (under n m g a) (best far size mask (suc n) m)
        (answers-widest (Fits far d m (suc n)) (pos n m g a) (λ w. cond (choice w (common size mask m)) (best far size mask n (reach far size m w)) None)
        (λ w. tail n m g a w (choice w (common size mask m)) refl (best far size mask n (reach far size m w))
        (λ k. answers-best n (reach far size m w) (reach-good m w g k) (reach_far m w n a k))) 256)
