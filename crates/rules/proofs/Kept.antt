-- The computed answers of the judge and of the operations on a pair keep their promises: what is said by Joined, and where number 0 is
-- said the pair is joined and the laws of Layers, Masks and Pair tie each value to its meaning. Assumes nothing.
use Prim.Native.Nat.{ℕ, ◌≤◌, ◌<◌, ◌-◌}
use native.Mathlib.Omega.{arith}
use mathlib.Core.Path.{◌≡◌, refl, sym, ◌∙◌, subst}
use mathlib.Core.Logic.{◌↔◌, ◌⊎◌, inl, inr}
use mathlib.Core.Bool.{Bool, true, false, cond}
use mathlib.Core.List.{List, [], ◌∷◌, ◌++◌}
use Rattle.std.specs.Prelude.{Option}
use lib.Dec.{T}
use lib.ListN.{length, get_or, drop, replicate, get_or-append}
use Rattle.rules.specs.Answers.{Judgement, Answer, Verdict, Neither, No, Yes}
use Rattle.rules.specs.Sets.{has, tabulate}
use Rattle.rules.specs.Net.{Distance, InMask}
use Rattle.rules.specs.Header.{permits, Passes, Best}
use Rattle.rules.specs.Table.{Sizes, switches, far_of, Stands}
use Rattle.rules.specs.Refusals.{Refusal, most_hops, of_pair, too_far, too_short, too_many}
use Rattle.rules.specs.Promise.{Blank, Judged, Measured, Masked, Header, Issued, Tested}
use Rattle.rules.specs.Look.{first, accepted, answered}
use Rattle.rules.specs.RunTable.{judge_of, home}
use Rattle.rules.specs.RunPair.{words, distance, mask, tries_of, words_of, passes_of, look7, look8, look9, look_pair, measure_of, mask_judgement, mask_answer, mask_memory, test_of, issue_judgement, issue_answer, issue_memory}
use Rattle.rules.proofs.SetLaws.{not-lt}
use Rattle.rules.proofs.Says.{accepted-zero, refused-not, short-decides, Told, Placed, Clear, says-step, says-end, says-clear, plain-one, plain-never}
use Rattle.rules.proofs.Tables.{far_of-wired}
use Rattle.rules.proofs.Joined.{Joined, table-says, pair-says, pair-placed, clear-joined, by_home, far-decides, many-decides}
use Rattle.rules.proofs.Masks.{in-mask, mask-byte}
use Rattle.rules.proofs.Pair.{test-is, header_is}
use Rattle.rules.proofs.Lists.{length-tabulate, get_d_tabulate, front_kept}

pub zeros : (j : Judgement) → Blank (record { number = j.number; place = j.place; distance = 0; count = 0; tries = 0 })
zeros j = record { distance = refl; count = refl; tries = refl }

module _ (z : Sizes) (t : List ℕ) where
  pub judged-met : Judged z t (judge_of z t)
  unfolding judge_of
  judged-met = record { answer = table-says z t [] [] (λ s. says-end) }

  module _ (a d : ℕ) where
    -- where 0 is said, the pair is joined
    pub joins : (rs : List Refusal) → Placed rs → (j : Judgement) → Told (of_pair z t a d ++ rs) j → j.number ≡ 0 → Joined z t a d × Clear rs
    joins rs l j h e = clear-joined z t a d rs (says-clear (of_pair z t a d ++ rs) (pair-placed z t a d rs l) j.number j.place h e)

    far-away : Joined z t a d → (s : ℕ) → Stands z t a s → Distance (far_of z t) s d (distance z t a d)
    far-away j = by_home z t a d j (λ s. Distance (far_of z t) s d (distance z t a d)) j.dist

    -- ---- distance

    pub measured-met : Measured z t a d (measure_of z t a d)
    unfolding measure_of answered Placed
    measured-met = at (accepted j) refl
      where
        j : Judgement
        j = first (look_pair z t a d [])

        told : Told (of_pair z t a d ++ []) j
        told = pair-says z t a d [] [] (λ w. says-end)

        at : (b : Bool) → accepted j ≡ b → Measured z t a d (cond b
            (record { number = j.number; place = j.place; distance = distance z t a d; count = 0; tries = 0 })
            (record { number = j.number; place = j.place; distance = 0; count = 0; tries = 0 }))
        at true e = record {
          answer = told;
          refused = λ n. absurd (n (accepted-zero j e));
          distance = λ n. far-away (joins [] tt j told n).0;
          zeros = (refl, refl);
        }
        at false e = record { answer = told; refused = λ n. zeros j; distance = λ n. absurd (refused-not j e n); zeros = (refl, refl) }

    -- ---- masks

    pub masked-met : (out : List ℕ) → Masked z t a d out (mask_answer z t a d out) (mask_memory z t a d out)
    unfolding mask_answer mask_memory mask_judgement answered Placed Clear mask
    masked-met out = at (accepted j) refl
      where
        j : Judgement
        j = first (look_pair z t a d (look7 z t a d ∷ look8 z t a d (switches t) out ∷ []))

        more : List Refusal
        more = too_far z t a d ∷ too_short (switches t) out ∷ []

        told : Told (of_pair z t a d ++ more) j
        told = pair-says z t a d more _ (λ w. says-step _ _ _ _ (far-decides z t a d w) (λ n7. says-step _ _ _ _ (short-decides (switches t) out) (λ n8. says-end)))

        o : List ℕ
        o = tabulate (switches t) (mask z t a d) ++ drop (switches t) out

        joined : j.number ≡ 0 → Joined z t a d × Clear more
        joined = joins more (omega arith, plain-one, (omega arith, plain-one, tt)) j told

        here : (u : ℕ) → u < switches t → get_or o u 0 ≡ mask z t a d u
        here u l =
            get_or-append (tabulate (switches t) (mask z t a d)) (drop (switches t) out) 0 u (subst (λ (n : ℕ). u < n) (sym (length-tabulate (switches t) (mask z t a d))) l)
            ∙ get_d_tabulate (switches t) (mask z t a d) u 0 l

        right : Joined z t a d → (u p : ℕ) → u < switches t → (s : ℕ) → Stands z t a s → T (has p (get_or o u 0)) ↔ InMask (far_of z t) s d u p
        right w u p l =
            by_home z t a d w (λ s. T (has p (get_or o u 0)) ↔ InMask (far_of z t) s d u p)
            (subst (λ (m : ℕ). T (has p m) ↔ InMask (far_of z t) (home z t a) d u p) (sym (here u l)) (in-mask (far_of z t) (switches t) (far_of-wired z t) d (home z t a) (distance z t a d) w.dist u p))

        room : Clear more → switches t ≤ length out
        room c = not-lt (plain-never c.1.0)

        at : (b : Bool) → accepted j ≡ b → Masked z t a d out (cond b
            (record { number = j.number; place = j.place; distance = distance z t a d; count = 0; tries = 0 })
            (record { number = j.number; place = j.place; distance = 0; count = 0; tries = 0 })) (cond b o out)
        at true e = record {
          answer = told;
          refused = λ n. absurd (n (accepted-zero j e));
          distance = λ n. far-away (joined n).0;
          zeros = (refl, refl);
          bytes = λ n u l. subst (λ (m : ℕ). m < 256) (sym (here u l)) (mask-byte (far_of z t) (switches t) (far_of-wired z t) d (home z t a) u);
          masks = λ n s u p w l. right (joined n).0 u p l s w;
          kept = λ n. front_kept (switches t) (tabulate (switches t) (mask z t a d)) out (length-tabulate (switches t) (mask z t a d)) (room (joined n).1);
        }
        at false e = record {
          answer = told;
          refused = λ n. (zeros j, refl);
          distance = λ n. absurd (refused-not j e n);
          zeros = (refl, refl);
          bytes = λ n. absurd (refused-not j e n);
          masks = λ n. absurd (refused-not j e n);
          kept = λ n. absurd (refused-not j e n);
        }

    -- ---- the header test

    pub tested-met : (ws : List ℕ) → Tested z t a d ws (test_of z t a d ws)
    unfolding test_of answered Placed Clear passes_of mask
    tested-met ws = at (accepted j) refl
      where
        j : Judgement
        j = first (look_pair z t a d (look7 z t a d ∷ []))

        told : Told (of_pair z t a d ++ (too_far z t a d ∷ [])) j
        told = pair-says z t a d (too_far z t a d ∷ []) _ (λ w. says-step _ _ _ _ (far-decides z t a d w) (λ n7. says-end))

        joined : j.number ≡ 0 → Joined z t a d
        joined n = (joins (too_far z t a d ∷ []) (omega arith, plain-one, tt) j told n).0

        verdict : Bool → Verdict
        verdict b = cond b Yes No

        either : (b : Bool) → (verdict b ≡ Yes) ⊎ (verdict b ≡ No)
        either true = inl refl
        either false = inr refl

        says-yes : (b : Bool) → (verdict b ≡ Yes) ↔ T b
        says-yes true = (λ e. tt, λ h. refl)
        says-yes false = (λ e. let q : ◌≡◌ {A = ℕ} 0 1 = cc in absurd (omega arith), λ h. absurd h)

        right : Joined z t a d → (s : ℕ) → Stands z t a s → (verdict (passes_of z t a d ws) ≡ Yes) ↔ Passes (far_of z t) s d ws
        right w =
            by_home z t a d w (λ s. (verdict (passes_of z t a d ws) ≡ Yes) ↔ Passes (far_of z t) s d ws)
            (let k = test-is (far_of z t) (switches t) (far_of-wired z t) d (home z t a) (distance z t a d) w.dist ws in
            (λ e. k.0 ((says-yes (passes_of z t a d ws)).0 e), λ h. (says-yes (passes_of z t a d ws)).1 (k.1 h)))

        at : (b : Bool) → accepted j ≡ b → Tested z t a d ws (record {
          answer = cond b (record { number = j.number; place = j.place; distance = 0; count = 0; tries = 0 }) (record { number = j.number; place = j.place; distance = 0; count = 0; tries = 0 });
          says = cond b (verdict (passes_of z t a d ws)) Neither;
        })
        at true e = record {
          answer = told;
          blank = zeros j;
          refused = λ n. absurd (n (accepted-zero j e));
          either = λ n. either (passes_of z t a d ws);
          tested = λ n. right (joined n);
        }
        at false e = record {
          answer = told;
          blank = zeros j;
          refused = λ n. refl;
          either = λ n. absurd (refused-not j e n);
          tested = λ n. absurd (refused-not j e n);
        }

    -- ---- the header

    -- the words found are the best, and they are at most eight where the distance is
    pub words-best : Joined z t a d → Best (Passes (far_of z t) (home z t a) d) (words_of z t a d)
    unfolding words_of words mask
    words-best w =
        let h = header_is (far_of z t) (switches t) (far_of-wired z t) d (home z t a) (distance z t a d) w.dist in
        subst (λ (r : Option (List ℕ)). Best (Passes (far_of z t) (home z t a) d) (words r)) (sym h.1) h.2

    pub issued-met : (out : List ℕ) → Issued z t a d out (issue_answer z t a d out) (issue_memory z t a d out)
    unfolding issue_answer issue_memory issue_judgement answered Placed tries_of mask
    issued-met out = at (accepted j) refl
      where
        j : Judgement
        j = first (look_pair z t a d (look7 z t a d ∷ look8 z t a d most_hops out ∷ look9 z t a d ∷ []))

        more : List Refusal
        more = too_far z t a d ∷ too_short most_hops out ∷ too_many z t a d ∷ []

        told : Told (of_pair z t a d ++ more) j
        told =
            pair-says z t a d more _ (λ w. says-step _ _ _ _ (far-decides z t a d w) (λ n7.
            says-step _ _ _ _ (short-decides most_hops out) (λ n8. says-step _ _ _ _ (many-decides z t a d w) (λ n9. says-end))))

        joined : j.number ≡ 0 → Joined z t a d
        joined n = (joins more (omega arith, plain-one, (omega arith, plain-one, (omega arith, plain-one, tt))) j told n).0

        o : List ℕ
        o = words_of z t a d ++ (replicate (most_hops - length (words_of z t a d)) 0 ++ drop most_hops out)

        full : Answer
        full = record { number = j.number; place = j.place; distance = distance z t a d; count = permits (words_of z t a d); tries = tries_of z t a d }

        right : Joined z t a d → (s : ℕ) → Stands z t a s → Header z t a d s out full o
        right w =
            by_home z t a d w (λ s. Header z t a d s out full o)
            (record { words = words_of z t a d; best = words-best w; distance = w.dist; count = refl; tries = refl; memory = refl })

        at : (b : Bool) → accepted j ≡ b → Issued z t a d out (cond b full (record { number = j.number; place = j.place; distance = 0; count = 0; tries = 0 })) (cond b o out)
        at true e = record { answer = told; refused = λ n. absurd (n (accepted-zero j e)); issued = λ n. right (joined n) }
        at false e = record { answer = told; refused = λ n. (zeros j, refl); issued = λ n. absurd (refused-not j e n) }
