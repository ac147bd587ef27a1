-- The field reader's answer and memory keep its promise and no others do, and what the C call's judgement says of its fields: there is one
-- way to go on through the fields, and entries that are held are known one by one. Assumes nothing.
use Prim.Native.Nat.{ℕ, ◌*◌, ◌≤◌}
use native.Mathlib.Nat.{le_antisymm}
use native.Mathlib.Omega.{arith}
use native.Mathlib.Decide.{ℕ_discrete}
use mathlib.Core.Path.{◌≡◌, refl, sym, ◌∙◌, subst}
use mathlib.Core.Logic.{inl, ⊎_elim}
use mathlib.Core.Bool.{Bool, true, false, cond}
use mathlib.Core.List.{List, [], ◌∷◌, ◌++◌}
use lib.ListN.{length, drop}
use Rattle.rules.specs.Answers.{Judgement, FieldAnswer}
use Rattle.rules.specs.Table.{Sizes}
use Rattle.rules.specs.Refusals.{Refusal, Says, too_short}
use Rattle.rules.specs.Look.{accepted}
use Rattle.rules.specs.Fields.{offset, Holds, Upto, bad_field, bad_row, Filled}
use Rattle.rules.specs.RunFields.{rows, pairs, entries, look12, fields_judgement, fields_of, fields_memory, call_judgement}
use Rattle.rules.proofs.SetLaws.{not-lt}
use Rattle.rules.proofs.Says.{Told, Placed, Clear, says-only, says-clear, says-step, says-end, plain-one, short-decides, accepted-zero, refused-not}
use Rattle.rules.proofs.Lists.{front_kept}
use Rattle.rules.proofs.FieldLaws.{upto_is, upto-rows, rows-stop, upto-stops, upto-within, end-stops, end_row, upto-one, rows-one, field-decides, row-decides, field-places, row-places, entries-length, entries-hold, holds-one}

-- ---- the field reader

module _ (z : Sizes) (b out : List ℕ) where
  -- its refusals, in their order
  abbrev of_fields : List Refusal
  of_fields = bad_field b z ∷ too_short (8 * z.most) out ∷ []

  fields-placed : Placed of_fields
  unfolding Placed
  fields-placed = (omega arith, field-places b z, (omega arith, plain-one, tt))

  fields_told : Told of_fields (fields_judgement b z out)
  unfolding fields_judgement look12
  fields_told =
      says-step _ _ _ _ (field-decides b z) (λ n12. says-step _ _ _ _ (short-decides (8 * z.most) out) (λ n8. says-end))

  -- where none is given, the fields end where the input does, and the entries fit
  fields-end : Clear of_fields → length b ≡ offset b (rows b z.most) (pairs b z.most)
  unfolding Clear
  fields-end c =
      let k = rows b z.most in
      let p = pairs b z.most in
      le_antisymm (not-lt (λ l. c.0 (offset b k p) (k, p, upto_is b z, l, upto-stops b z))) (upto-within b z k p (offset b k p) (upto_is b z))

  fields_fit : Clear of_fields → 8 * rows b z.most ≤ length out
  unfolding Clear
  fields_fit c =
      let l : 8 * z.most ≤ length out = not-lt (λ l. c.1.0 0 (l, refl)) in
      let f = (upto_is b z).few in omega arith

  filled : (j : Judgement) → Told of_fields j → (c : Bool) → accepted j ≡ c
      → Filled z b out (cond c (record { number = j.number; place = j.place; switches = rows b z.most; pairs = offset b (rows b z.most) 0 }) (record { number = j.number; place = j.place; switches = 0; pairs = 0 })) (cond c (entries b (rows b z.most) ++ drop (8 * rows b z.most) out) out)
  filled j h true e =
      let k = rows b z.most in
      let n = accepted-zero j e in
      let c = says-clear of_fields fields-placed j.number j.place h n in
      let l = fields_fit c in
      let m = entries-length b k in
      record {
        answer = h;
        refused = λ r. absurd (r n);
        found = λ _. (pairs b z.most, subst (λ (i : ℕ). Upto b z k (pairs b z.most) i) (sym (fields-end c)) (upto_is b z), refl);
        entries = λ _. entries-hold b k (drop (8 * k) out);
        kept = λ _. front_kept (8 * k) (entries b k) out m l;
      }
  filled j h false e =
      let never = refused-not j e in
      record {
        answer = h;
        refused = λ _. (refl, refl, refl);
        found = λ n. absurd (never n);
        entries = λ n. absurd (never n);
        kept = λ n. absurd (never n);
      }

  pub filled-met : Filled z b out (fields_of b z out) (fields_memory b z out)
  unfolding fields_of fields_memory
  filled-met = filled (fields_judgement b z out) fields_told (accepted (fields_judgement b z out)) refl

  -- two that accept
  same-found : (q r : FieldAnswer) (o p : List ℕ) → Filled z b out q o → Filled z b out r p → q.number ≡ 0 → r.number ≡ 0 → (q.switches ≡ r.switches) × (q.pairs ≡ r.pairs) × (o ≡ p)
  same-found q r o p h g m n =
      let f = h.found m in
      let s = g.found n in
      let e = (upto-one b z q.switches f.0 (length b) r.switches s.0 (length b) f.1 s.1 (end-stops b z q.switches f.0 f.1) (end-stops b z r.switches s.0 s.1)).0 in
      let x = f.2 in
      let y = s.2 in
      let u = h.kept m in
      let v : (length p ≡ length out) × (drop (8 * q.switches) p ≡ drop (8 * q.switches) out) = subst (λ (k : ℕ). (length p ≡ length out) × (drop (8 * k) p ≡ drop (8 * k) out)) (sym e) (g.kept n) in
      (e, omega arith, holds-one b q.switches o p (u.0 ∙ sym v.0) (u.1 ∙ sym v.1) (h.entries m) (subst (λ (k : ℕ). Holds b k p) (sym e) (g.entries n)))

  same_rest : (q r : FieldAnswer) (o p : List ℕ) → Filled z b out q o → Filled z b out r p → q.number ≡ r.number → Dec (q.number ≡ 0) → (q.switches ≡ r.switches) × (q.pairs ≡ r.pairs) × (o ≡ p)
  same_rest q r o p h g e (yes n) = same-found q r o p h g n (sym e ∙ n)
  same_rest q r o p h g e (no n) =
      let f = h.refused n in
      let s = g.refused (λ m. n (e ∙ m)) in
      (f.0 ∙ sym s.0, f.1 ∙ sym s.1, f.2 ∙ sym s.2)

  pub filled-only : (q r : FieldAnswer) (o p : List ℕ) → Filled z b out q o → Filled z b out r p → (q ≡ r) × (o ≡ p)
  filled-only q r o p h g =
      let e = says-only of_fields fields-placed q.number r.number q.place r.place h.answer g.answer in
      let s = same_rest q r o p h g e.0 (ℕ_discrete q.number 0) in
      (λ i. record { number = e.0 i; place = e.1 i; switches = s.0 i; pairs = s.1 i }, s.2)

-- ---- the C call: all fields are of tag 1

module _ (z : Sizes) (b : List ℕ) where
  call-told : Told (bad_row b z ∷ []) (call_judgement b z)
  unfolding call_judgement look12
  call-told = says-step (bad_row b z) [] (look12 b (offset b (rows b z.most) 0)).1 [] (row-decides b z) (λ _. says-end)

  call-placed : Placed (bad_row b z ∷ [])
  unfolding Placed
  call-placed = (omega arith, row-places b z, tt)

  -- accepted: the input ends after its rows
  pub call_rows : (call_judgement b z).number ≡ 0 → Upto b z (rows b z.most) 0 (length b)
  unfolding Clear
  call_rows n =
      let k = rows b z.most in
      let c = says-clear (bad_row b z ∷ []) call-placed (call_judgement b z).number (call_judgement b z).place call-told n in
      let e : offset b k 0 ≡ length b = le_antisymm (upto-within b z k 0 (offset b k 0) (upto-rows b z)) (not-lt (λ l. c.0 (offset b k 0) (k, upto-rows b z, l, rows-stop b z))) in
      subst (λ (i : ℕ). Upto b z k 0 i) e (upto-rows b z)

  pub call-bad : (q : ℕ) → (bad_row b z).given q → call_judgement b z ≡ record { number = 12; place = q }
  unfolding Says
  call-bad q h =
      let e = says-only (bad_row b z ∷ []) call-placed (call_judgement b z).number 12 (call_judgement b z).place q call-told (inl (refl, h)) in
      λ i. record { number = e.0 i; place = e.1 i }

  pub call-refuses : ¬ ((call_judgement b z).number ≡ 0) → (q : ℕ) × (bad_row b z).given q
  unfolding Says
  call-refuses n = ⊎_elim (λ h. ((call_judgement b z).place, h.1)) (λ h. absurd (n h.1.0)) call-told

  pub call-clash : (q k : ℕ) → (bad_row b z).given q → Upto b z k 0 (length b) → ⊥
  call-clash q k h u =
      let e = rows-one b z h.0 q k (length b) h.1 u h.3 (end_row b z k) in
      let l = h.2 in
      let x = h.1.ends in
      let y = u.ends in omega arith

  pub rows_all : (k : ℕ) → Upto b z k 0 (length b) → k ≡ rows b z.most
  rows_all k u = rows-one b z k (length b) (rows b z.most) (offset b (rows b z.most) 0) u (upto-rows b z) (end_row b z k) (rows-stop b z)
