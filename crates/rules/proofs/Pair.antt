-- A pair: the header test and the header that is issued, from the switch of the source. The set that holds this switch alone permits what the
-- switch does, so the laws of `Search` say it of the pair.
-- Assumes nothing.
use Prim.Native.Nat.{ℕ, ◌^◌, ◌<◌}
use native.Mathlib.Omega.{arith}
use mathlib.Core.Path.{◌≡◌, refl, sym, ap₂, ◌∙◌, subst}
use mathlib.Core.Logic.{◌↔◌}
use mathlib.Core.Bool.{◌&&◌}
use mathlib.Core.List.{List, [], ◌∷◌, map}
use Rattle.std.specs.Prelude.{Option, None, Some}
use lib.Dec.{T, eqb, eqb→eq}
use lib.ListN.{length}
use lib.Pow.{pow_pos, pow-lt}
use Rattle.rules.specs.Net.{Far, switch, node, nothing, follow, Shortest, Distance, OnWay, Wired}
use Rattle.rules.specs.Header.{Picks, Words, Passes, Best}
use Rattle.rules.specs.Tries.{chooses}
use Rattle.rules.specs.Run.{mask_of, best}
use Rattle.rules.proofs.SetLaws.{T_and, and_i, eq-T, has-single, single-one}
use Rattle.rules.proofs.Ways.{distance-one, of-shortest}
use Rattle.rules.proofs.Layers.{somewhere}
use Rattle.rules.proofs.Masks.{via-onway, onway-via, via-next, in-mask, self}
use Rattle.rules.proofs.Stages.{PassesFrom, Away, some-picks, picks-length}
use Rattle.rules.proofs.Search.{Has, Each, Guide, Fits, in-passes, answers-best}
use Rattle.rules.proofs.Widest.{Answers, answers-iff}

-- the header with one port in each word
abbrev pub singles : List ℕ → List ℕ
singles ps = map (λ p. 2 ^ p) ps

singles-pick : (ps qs : List ℕ) → Picks qs (singles ps) → qs ≡ ps
unfolding Picks
singles-pick [] [] h = refl
singles-pick [] (q ∷ qs) h = absurd h
singles-pick (p ∷ ps) [] h = absurd h
singles-pick (p ∷ ps) (q ∷ qs) h = ap₂ {C = List ℕ} (λ x xs. x ∷ xs) (eqb→eq q p (subst T (has-single p q) h.0)) (singles-pick ps qs h.1)

module _ (far : ℕ → ℕ → Far) (size : ℕ) (wired : Wired far size) (d : ℕ) where
  -- the ports of a list that leads to d are below 8
  singles-words : (ps : List ℕ) (x : Far) → follow far ps x ≡ node d → Words (singles ps)
  unfolding Words follow
  singles-words [] x e = tt
  singles-words (p ∷ ps) (switch s) e = (pow_pos p, pow-lt (somewhere far size wired d s p ps e).1, singles-words ps (far s p) e)
  singles-words (p ∷ ps) (node n) e = let z : ◌≡◌ {A = ℕ} 0 1 = cc in absurd (omega arith)
  singles-words (p ∷ ps) nothing e = let z : ◌≡◌ {A = ℕ} 0 1 = cc in absurd (omega arith)

  module _ (a n : ℕ) (h : Distance far a d n) where
    -- one shortest way with one port in each word chooses the test
    pub single-passes : (ps : List ℕ) → Shortest far (switch a) (node d) ps → Passes far a d (singles ps)
    single-passes ps w = record {
      words = singles-words ps (switch a) w.leads;
      right = λ qs k. subst (Shortest far (switch a) (node d)) (sym (singles-pick ps qs k)) w;
    }

    pub passes-length : (ws : List ℕ) → Passes far a d ws → length ws ≡ n
    passes-length ws k =
        let r = some-picks ws k.words in sym (picks-length r.0 ws r.1) ∙ distance-one far (of-shortest far (k.right r.0 r.1)) h

    -- ---- the set that holds the source's switch

    -- the test from that set is the test from that switch
    to_one : (ws : List ℕ) → PassesFrom far (Has (2 ^ a)) d ws → Passes far a d ws
    to_one ws k = record { words = k.words; right = λ ps. k.right a ps (self far size wired d a n h) }

    from_one : (ws : List ℕ) → Passes far a d ws → PassesFrom far (Has (2 ^ a)) d ws
    from_one ws k = record { words = k.words; right = λ s ps i q. subst (λ (x : ℕ). Shortest far (switch x) (node d) ps) (sym (single-one a s i)) (k.right ps q) }

    mask : ℕ → ℕ
    mask = mask_of far size d a

    first : OnWay far a d a
    unfolding follow
    first = via-onway far (record { before = []; after = h.way; to = refl; whole = h.short })

    pub good : Each (OnWay far a d) (2 ^ a)
    good s i = subst (OnWay far a d) (sym (single-one a s i)) first

    pub away : Away far d (Has (2 ^ a)) n
    unfolding Away
    away s i = subst (λ (x : ℕ). Distance far x d n) (sym (single-one a s i)) h

    small : (s : ℕ) → OnWay far a d s → s < size
    unfolding follow
    small s o = starts o.onward.way o.onward.short.leads
      where
        starts : (ps : List ℕ) → follow far ps (switch s) ≡ node d → s < size
        starts [] e = let z : ◌≡◌ {A = ℕ} 0 1 = cc in absurd (omega arith)
        starts (p ∷ ps) e = (somewhere far size wired d s p ps e).0

    pub guide : Guide far size d (mask_of far size d a) (OnWay far a d)
    guide = record {
      small = small;
      right = λ s p g. (λ i. ((in-mask far size wired d a n h s p).0 i).port, λ o. (in-mask far size wired d a n h s p).1 (record { way = g; port = o }));
      next = λ s p t g o e. via-onway far (via-next far (onway-via far g) o e);
    }

    -- the header test
    pub test-is : (ws : List ℕ) → T (eqb (length ws) n && chooses far size (mask_of far size d a) (2 ^ a) ws) ↔ Passes far a d ws
    unfolding mask
    test-is ws = (
      λ t. let i = T_and (eqb (length ws) n) (chooses far size mask (2 ^ a) ws) t in
          to_one ws ((stages (eqb→eq (length ws) n i.0)).0 i.1),
      λ k. let e = passes-length ws k in and_i (eqb (length ws) n) (chooses far size mask (2 ^ a) ws) (eq-T (length ws) n e) ((stages e).1 (from_one ws k)),
    )
      where
        stages : length ws ≡ n → T (chooses far size mask (2 ^ a) ws) ↔ PassesFrom far (Has (2 ^ a)) d ws
        stages e = in-passes far size wired d mask (OnWay far a d) guide ws (2 ^ a) good (subst (Away far d (Has (2 ^ a))) (sym e) away)

    -- the header that is issued, and that there is one
    pub header_is : (ws : List ℕ) × (best far size (mask_of far size d a) n (2 ^ a) ≡ Some ws) × Best (Passes far a d) ws
    unfolding mask Answers
    header_is = go (best far size mask n (2 ^ a)) refl (answers-iff {P = Fits far d (2 ^ a) n} (λ g k. to_one g k.passed) (λ g k. record { passed = from_one g k; size = passes-length g k })
        (best far size mask n (2 ^ a)) (answers-best far size wired d mask (OnWay far a d) guide n (2 ^ a) good away))
      where
        go : (r : Option (List ℕ)) → best far size mask n (2 ^ a) ≡ r → Answers (Passes far a d) r
            → (ws : List ℕ) × (best far size mask n (2 ^ a) ≡ Some ws) × Best (Passes far a d) ws
        go None e k = absurd (k (singles h.way) (single-passes h.way h.short))
        go (Some ws) e k = (ws, e, k)
