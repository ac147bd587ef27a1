-- Sets that the search does not tell apart. What is found from a set rests on its common ports and on what these reach, and on nothing else: so
-- two sets that are alike in both give one answer, and sets joined of such are alike again. Assumes nothing.
use Prim.Native.Nat.{ℕ, zero, suc, ◌-◌, ◌^◌, ◌<◌}
use native.Mathlib.Nat.{le_refl}
use native.Mathlib.Omega.{arith}
use mathlib.Core.Path.{◌≡◌, refl, sym, ap, ap₂, ◌∙◌, subst, fun_ext}
use mathlib.Core.Logic.{◌↔◌, ⊎_elim, inl, inr}
use mathlib.Core.Bool.{Bool, true, false, cond}
use mathlib.Core.List.{List}
use Rattle.std.specs.Prelude.{Option, None}
use lib.Dec.{T, leb}
use Rattle.std.specs.Prelude.{Some, None}
use lib.ListN.{get_or}
use lib.Bits.{bit_or, or_lt}
use lib.Pow.{pow_pos}
use Rattle.rules.specs.Sets.{has}
use Rattle.rules.specs.Net.{Far, Wired}
use Rattle.rules.specs.Tries.{choice, common, reach, tries}
use Rattle.rules.specs.Run.{widest, best}
use Rattle.rules.proofs.Counted.{sum_same}
use Rattle.rules.proofs.Search.{in_reach}
use Rattle.header.specs.Search.{found, found_of, singles, joined, Alike, Grouped}
use Rattle.header.proofs.LastStage.{choice-in}
use Rattle.header.proofs.LeafLaws.{same-members, in-or, reach-lt, in-common, in-single, singles-at, joined-reach}

pick : {A : Type 0} (x : Bool) (f g z : A) → (T x → f ≡ g) → cond x f z ≡ cond x g z
pick true f g z e = e tt
pick false f g z e = refl

module _ (far : ℕ → ℕ → Far) (size : ℕ) (mask : ℕ → ℕ) where
  pub alike_self : (a : ℕ) → Alike far size mask a a
  alike_self a = record { commons = refl; reached = λ p h. refl }

  pub alike-on : {a b c : ℕ} → Alike far size mask a b → Alike far size mask b c → Alike far size mask a c
  alike-on h k = record {
    commons = h.commons ∙ k.commons;
    reached = λ p t. h.reached p t ∙ k.reached p (subst (λ (x : ℕ). T (has p x)) h.commons t);
  }

  pub single-lt : (m c p : ℕ) → p < 8 → get_or (singles far size m c) p 0 < 2 ^ size
  single-lt m c p l = subst (λ (x : ℕ). x < 2 ^ size) (sym (singles-at far size m c p l)) (at (has p c))
    where
      at : (b : Bool) → cond b (reach far size m (2 ^ p)) 0 < 2 ^ size
      at true = reach-lt far size m (2 ^ p)
      at false = pow_pos size

  module _ (wired : Wired far size) where
    -- ---- what is found

    reach-part : (a b w : ℕ) → ((p : ℕ) → T (has p w) → reach far size a (2 ^ p) ≡ reach far size b (2 ^ p))
        → (t : ℕ) → T (has t (reach far size a w)) → T (has t (reach far size b w))
    reach-part a b w e t h =
        let r = (in_reach far size wired a w t).0 h in
        let i = (in-single far size wired a r.by t).1 (r.«from», r.there, r.link) in
        let j = (in-single far size wired b r.by t).0 (subst (λ (x : ℕ). T (has t x)) (e r.by r.permitted) i) in
        (in_reach far size wired b w t).1 (record { «from» = j.0; by = r.by; there = j.1; permitted = r.permitted; link = j.2 })

    module _ {a b : ℕ} (h : Alike far size mask a b) where
      reach-alike : (w : ℕ) → T (choice w (common size mask a)) → reach far size a w ≡ reach far size b w
      reach-alike w t =
          let e : (p : ℕ) → T (has p w) → reach far size a (2 ^ p) ≡ reach far size b (2 ^ p) = λ p k. h.reached p (choice-in w (common size mask a) p t k) in
          same-members (reach far size a w) (reach far size b w) (reach-part a b w e) (reach-part b a w (λ p k. sym (e p k)))

      tries-alike : (n : ℕ) → tries far size mask n a ≡ tries far size mask n b
      unfolding tries
      tries-alike zero = refl
      tries-alike (suc n) = sum_same 256 (λ w.
          pick (choice w (common size mask a)) (suc (tries far size mask n (reach far size a w))) (suc (tries far size mask n (reach far size b w))) 0
          (λ t. ap (λ (x : ℕ). suc (tries far size mask n x)) (reach-alike w t))
          ∙ ap (λ (c : ℕ). cond (choice w c) (suc (tries far size mask n (reach far size b w))) 0) h.commons)

      best-alike : (n : ℕ) → best far size mask n a ≡ best far size mask n b
      unfolding best
      best-alike zero = refl
      best-alike (suc n) = ap (widest 256) (fun_ext (λ w.
          pick (choice w (common size mask a)) (best far size mask n (reach far size a w)) (best far size mask n (reach far size b w)) None
          (λ t. ap (best far size mask n) (reach-alike w t))
          ∙ ap (λ (c : ℕ). cond (choice w c) (best far size mask n (reach far size b w)) None) h.commons))

      pub found_alike : (n k : ℕ) → found_of far size mask a n k ≡ found_of far size mask b n k
      unfolding found_of
      found_alike n k = ap₂ (λ (x : ℕ) (y : Option (List ℕ)). cond (leb x k) (Some (found y x)) None) (tries-alike (n - 1)) (best-alike n)

    -- ---- joined

    common-or : (a b p : ℕ) → a < 2 ^ size → b < 2 ^ size
        → T (has p (common size mask (bit_or a b))) ↔ (T (has p (common size mask a)) × T (has p (common size mask b)))
    common-or a b p l k = (
      λ h. let i = (in-common size mask (bit_or a b) p (or_lt size a b l k)).0 h in (
        (in-common size mask a p l).1 (i.0, λ s t. i.1 s ((in-or a b s).1 (inl t))),
        (in-common size mask b p k).1 (i.0, λ s t. i.1 s ((in-or a b s).1 (inr t))),
      ),
      λ h. let i = (in-common size mask a p l).0 h.0 in
          let j = (in-common size mask b p k).0 h.1 in
          (in-common size mask (bit_or a b) p (or_lt size a b l k)).1 (i.0, λ s t. ⊎_elim (i.1 s) (j.1 s) ((in-or a b s).0 t)),
    )

    reach-or : (a b p : ℕ) → reach far size (bit_or a b) (2 ^ p) ≡ bit_or (reach far size a (2 ^ p)) (reach far size b (2 ^ p))
    reach-or a b p =
        let both = in-single far size wired (bit_or a b) p in
        let one = in-single far size wired a p in
        let two = in-single far size wired b p in
        same-members (reach far size (bit_or a b) (2 ^ p)) (bit_or (reach far size a (2 ^ p)) (reach far size b (2 ^ p)))
        (λ t h. let r = (both t).0 h in
        (in-or (reach far size a (2 ^ p)) (reach far size b (2 ^ p)) t).1
        (⊎_elim (λ k. inl ((one t).1 (r.0, k, r.2))) (λ k. inr ((two t).1 (r.0, k, r.2))) ((in-or a b r.0).0 r.1)))
        (λ t h. ⊎_elim (λ k. let r = (one t).0 k in (both t).1 (r.0, (in-or a b r.0).1 (inl r.1), r.2))
        (λ k. let r = (two t).0 k in (both t).1 (r.0, (in-or a b r.0).1 (inr r.1), r.2))
        ((in-or (reach far size a (2 ^ p)) (reach far size b (2 ^ p)) t).0 h))

    -- two sets inside that are alike
    pub record AlikeInside (a b : ℕ) : Type 0 where
      pub left : a < 2 ^ size
      pub right : b < 2 ^ size
      pub alike : Alike far size mask a b

    or-alike : {a b c d : ℕ} → AlikeInside a b → AlikeInside c d → AlikeInside (bit_or a c) (bit_or b d)
    or-alike {a} {b} {c} {d} h k =
        let ports : (p : ℕ) → T (has p (common size mask (bit_or a c))) ↔ (T (has p (common size mask a)) × T (has p (common size mask c)))
        = λ p. common-or a c p h.left k.left in
        let others : (p : ℕ) → T (has p (common size mask (bit_or b d))) ↔ (T (has p (common size mask b)) × T (has p (common size mask d)))
        = λ p. common-or b d p h.right k.right in
        record {
          left = or_lt size a c h.left k.left;
          right = or_lt size b d h.right k.right;
          alike = record {
            commons = same-members (common size mask (bit_or a c)) (common size mask (bit_or b d))
                (λ p t. let i = (ports p).0 t in
                (others p).1 (subst (λ (x : ℕ). T (has p x)) h.alike.commons i.0, subst (λ (x : ℕ). T (has p x)) k.alike.commons i.1))
                (λ p t. let i = (others p).0 t in
                (ports p).1 (subst (λ (x : ℕ). T (has p x)) (sym h.alike.commons) i.0, subst (λ (x : ℕ). T (has p x)) (sym k.alike.commons) i.1));
            reached = λ p t. let i = (ports p).0 t in
                reach-or a c p ∙ ap₂ bit_or (h.alike.reached p i.0) (k.alike.reached p i.1) ∙ sym (reach-or b d p);
          };
        }

    joined-alike : (sets others : List ℕ) (w k : ℕ) → ((p : ℕ) → p < k → AlikeInside (get_or sets p 0) (get_or others p 0)) → AlikeInside (joined sets w k) (joined others w k)
    unfolding joined
    joined-alike sets others w zero f = record { left = pow_pos size; right = pow_pos size; alike = alike_self 0 }
    joined-alike sets others w (suc k) f = at (has k w) (joined-alike sets others w k (λ p l. f p (omega arith)))
      where
        at : (b : Bool) → AlikeInside (joined sets w k) (joined others w k)
            → AlikeInside (cond b (bit_or (joined sets w k) (get_or sets k 0)) (joined sets w k)) (cond b (bit_or (joined others w k) (get_or others k 0)) (joined others w k))
        at true h = or-alike h (f k (le_refl (suc k)))
        at false h = h

    -- the sets of a word's ports together, and what the word reaches
    pub group-reach : {m c : ℕ} {sets : List ℕ} → Grouped far size mask m c sets → (w : ℕ) → ((p : ℕ) → T (has p w) → T (has p c)) → AlikeInside (joined sets w 8) (reach far size m w)
    group-reach {m} {c} {sets} g w i =
        subst (λ (x : ℕ). AlikeInside (joined sets w 8) x) (joined-reach far size wired m c w i)
        (joined-alike sets (singles far size m c) w 8 (λ p l. record { left = g.inside p l; right = single-lt m c p l; alike = g.alike p l }))
