-- What the loops of the field reader rest on: a count of fields that all stand whole stays within the input, the first that fails is the
-- least, and entries stored one by one over the start of a table are the list of them. Assumes nothing.
use Prim.Native.Nat.{ℕ, zero, suc, ◌+◌, ◌*◌, ◌/◌, ◌%◌, ◌≤◌, ◌<◌, zero-le}
use native.Mathlib.Nat.{le_antisymm, mul-zero, mul-suc}
use native.Mathlib.Omega.{arith}
use mathlib.Core.Path.{◌≡◌, refl, sym, ap, ap₂, ◌∙◌, subst, subst₂}
use mathlib.Core.Bool.{Bool, true, false, not, cond}
use mathlib.Core.List.{List, ◌++◌}
use lib.ListN.{length, get_or, take, drop, set}
use lib.Seq.{take_all}
use lib.Dec.{T, T_not, not_T}
use borrow.Author.Tests.{lt-ltb, le-ltb}
use borrow.Author.Count.{below_none, below_more}
use Rattle.rules.specs.Sets.{least}
use Rattle.rules.specs.Table.{house}
use Rattle.rules.specs.Fields.{two, Filled}
use Rattle.rules.specs.RunFields.{is_field, rows, pairs, entries, look12, fields_judgement, fields_of, fields_memory}
use Rattle.rules.specs.Look.{first, pick, when, accepted}
use Rattle.std.specs.Prelude.{Ok, Err}
use Rattle.rules.specs.declared.Refusal.TheVariants.{ShortOutput, BadField}
use Rattle.rules.specs.Answers.{FieldAnswer, filled}
use Rattle.fields.specs.Rows.{read_judgement, read_of, read_memory, rows_judgement, rows_of, rows_memory}
use Rattle.rules.proofs.SetLaws.{T_true, least-is, least-one}
use Rattle.rules.proofs.FieldLaws.{in_field, upto_is, upto-rows, upto-within, entries-length}
use Rattle.rules.proofs.FieldPromises.{filled-met}
use Rattle.rules.proofs.Lists.{front-more, get_d_tabulate}

-- ---- a count of fields, at most n of them, the j-th at offset `at j`

pub record Past (b : List ℕ) (tag size : ℕ) (at : ℕ → ℕ) (n i : ℕ) : Type 0 where
  pub few : i ≤ n
  pub all : (j : ℕ) → j < i → T (is_field b tag size (at j))
  pub within : at i ≤ length b

pub past-none : (b : List ℕ) (tag size : ℕ) (at : ℕ → ℕ) (n : ℕ) → at 0 ≤ length b → Past b tag size at n 0
past-none b tag size at n l = record { few = zero-le; all = below_none (λ j. T (is_field b tag size (at j))); within = l }

pub past_more : (b : List ℕ) (tag size : ℕ) (at : ℕ → ℕ) (n i : ℕ) → Past b tag size at n i → i < n → (q : ℕ) → q ≡ at i → is_field b tag size q ≡ true → at (i + 1) ≡ at i + 3 + size → Past b tag size at n (i + 1)
past_more b tag size at n i h l q e t m =
    let u : T (is_field b tag size (at i)) = subst (λ (q : ℕ). T (is_field b tag size q)) e (T_true t) in
    let w = ((in_field b tag size (at i)).0 u).whole in
    record { few = omega arith; all = below_more (λ j. T (is_field b tag size (at j))) i h.all u; within = omega arith }

-- the count that ends at the bound or at the first that fails is the least that fails
pub past_end : (b : List ℕ) (tag size : ℕ) (at : ℕ → ℕ) (n i : ℕ) → Past b tag size at n i → (q : ℕ) → q ≡ at i → (i < n → is_field b tag size q ≡ false) → i ≡ least n (λ k. not (is_field b tag size (at k)))
past_end b tag size at n i h q e stop =
    least-one {n = n} {f = λ k. not (is_field b tag size (at k))} (record { bound = h.few; before = λ j l t. T_not (is_field b tag size (at j)) t (h.all j l); hit = λ l. not_T (is_field b tag size (at i)) (λ t. subst T (stop l) (subst (λ (q : ℕ). T (is_field b tag size q)) (sym e) t)) }) (least-is n (λ k. not (is_field b tag size (at k))))

-- the fields counted stand within the input
pub rows-within : (b : List ℕ) → 19 * rows b 64 ≤ length b
rows-within b = let w = upto-within b house (rows b 64) 0 (19 * rows b 64 + 7 * 0) (upto-rows b house) in omega arith

pub fields_within : (b : List ℕ) → 19 * rows b 64 + 7 * pairs b 64 ≤ length b
fields_within b = upto-within b house (rows b 64) (pairs b 64) (19 * rows b 64 + 7 * pairs b 64) (upto_is b house)

-- k fields of one tag and length, one after another from an offset on
abbrev pub PastFrom : List ℕ → ℕ → ℕ → ℕ → ℕ → ℕ → Type 0
PastFrom b tag size from most k = Past b tag size (λ j. from + (3 + size) * j) most k

module _ (b : List ℕ) (tag size from most : ℕ) where
  pub field_start : from ≤ length b → PastFrom b tag size from most 0
  field_start l = past-none b tag size (λ j. from + (3 + size) * j) most (omega (arith, mul-zero (3 + size)))

  pub field_more : (k : ℕ) → PastFrom b tag size from most k → k < most → is_field b tag size (from + (3 + size) * k) ≡ true → PastFrom b tag size from most (k + 1)
  field_more k h l t =
      past_more b tag size (λ j. from + (3 + size) * j) most k h l (from + (3 + size) * k) refl t (omega (arith, mul-suc (3 + size) k))

  pub field_stop : (k : ℕ) → PastFrom b tag size from most k → is_field b tag size (from + (3 + size) * k) ≡ false
      → k ≡ least most (λ k. not (is_field b tag size (from + (3 + size) * k)))
  field_stop k h f = past_end b tag size (λ j. from + (3 + size) * j) most k h (from + (3 + size) * k) refl (λ _. f)

  pub field_full : (k : ℕ) → PastFrom b tag size from most k → most ≤ k → most ≡ least most (λ k. not (is_field b tag size (from + (3 + size) * k)))
  field_full k h l =
      let m = h.few in
      let e : most ≡ k = omega arith in
      e ∙ past_end b tag size (λ j. from + (3 + size) * j) most k h (from + (3 + size) * k) refl (λ n. absurd (omega arith))

pub ruleset counting = (field_start, field_more)

-- the counts of rows and of pairs are such counts
least-same : (n : ℕ) (f g : ℕ → Bool) → ((k : ℕ) → f k ≡ g k) → least n f ≡ least n g
unfolding least
least-same zero f g e = refl
least-same (suc n) f g e =
    ap₂ (λ (c : Bool) (r : ℕ). cond c 0 (suc r)) (e 0) (least-same n (λ k. f (suc k)) (λ k. g (suc k)) (λ k. e (suc k)))

field-at : (b : List ℕ) (tag size i j : ℕ) → i ≡ j → not (is_field b tag size i) ≡ not (is_field b tag size j)
field-at b tag size i j e = ap (λ (q : ℕ). not (is_field b tag size q)) e

pub rows_counted : (b : List ℕ) (s : ℕ) → s ≡ least 64 (λ k. not (is_field b 1 16 (0 + (3 + 16) * k))) → s ≡ rows b 64
unfolding rows
rows_counted b s e = e ∙ least-same 64 _ _ (λ k. field-at b 1 16 (0 + (3 + 16) * k) (19 * k + 7 * 0) (omega arith))

pub pairs_counted : (b : List ℕ) (s p : ℕ) → s ≡ rows b 64 → p ≡ least (length b) (λ k. not (is_field b 2 4 (19 * s + (3 + 4) * k))) → p ≡ pairs b 64
unfolding pairs
pairs_counted b s p e h =
    h ∙ least-same (length b) _ _ (λ k. field-at b 2 4 (19 * s + (3 + 4) * k) (19 * rows b 64 + 7 * k) (omega (arith, e)))

pub pairs_within : (b : List ℕ) (s p : ℕ) → s ≡ rows b 64 → p ≡ least (length b) (λ k. not (is_field b 2 4 (19 * s + (3 + 4) * k))) → 19 * s + 7 * p ≤ length b
pairs_within b s p e h = omega (arith, fields_within b, e, pairs_counted b s p e h)

-- ---- entries stored one by one

-- the first i of the entries of k fields over the start of what a table held, and one more
pub filled_more : (b out : List ℕ) (k i x : ℕ) → i < 8 * k → 8 * k ≤ length out → x ≡ two b (19 * (i / 8) + 3 + 2 * (i % 8))
    → set (take i (entries b k) ++ drop i out) i x ≡ take (i + 1) (entries b k) ++ drop (i + 1) out
unfolding entries
filled_more b out k i x l m e =
    let n : i < length (entries b k) = subst (λ (n : ℕ). i < n) (sym (entries-length b k)) l in
    let v : x ≡ get_or (entries b k) i 0 = e ∙ sym (get_d_tabulate (8 * k) (λ i. two b (19 * (i / 8) + 3 + 2 * (i % 8))) i 0 l) in
    ap (set (take i (entries b k) ++ drop i out) i) v ∙ front-more (entries b k) out i (omega arith) n

pub filled_all : (b out : List ℕ) (k i : ℕ) → 8 * k ≤ i → i ≤ 8 * k → take i (entries b k) ++ drop i out ≡ entries b k ++ drop (8 * k) out
filled_all b out k i l m =
    let e : i ≡ 8 * k = le_antisymm m l in
    let n = entries-length b k in
    ap (λ (j : ℕ). take j (entries b k) ++ drop j out) e ∙ ap (λ (p : List ℕ). p ++ drop (8 * k) out) (take_all (8 * k) (entries b k) (omega arith))

-- ---- the three ways out of a reader whose fields are to end at the offset q

module _ (b out : List ℕ) (q : ℕ) where
  pub until-bad : q < length b → (filled (Err (BadField q)) ≡ read_of house b out q) × (out ≡ read_memory house b out q)
  unfolding read_of read_memory read_judgement look12 first pick when accepted
  until-bad l = let t = lt-ltb _ _ l in (simp t, simp t)

  pub until_short : length b ≤ q → length out < 512 → (filled (Err ShortOutput) ≡ read_of house b out q) × (out ≡ read_memory house b out q)
  unfolding read_of read_memory read_judgement look12 first pick when accepted
  until_short l m = let t = le-ltb _ _ l in let w = lt-ltb _ _ m in (simp (t, w), simp (t, w))

  pub until_whole : (s : ℕ) (o : List ℕ) → s ≡ rows b 64 → o ≡ entries b s ++ drop (8 * s) out → length b ≤ q → 512 ≤ length out
      → (filled (Ok (record { switches = s; pairs = 19 * s })) ≡ read_of house b out q) × (o ≡ read_memory house b out q)
  unfolding read_of read_memory read_judgement look12 first pick when accepted
  until_whole s o u e l m =
      let t = le-ltb _ _ l in
      let w = le-ltb _ _ m in
      let p : 19 * rows b 64 + 7 * 0 ≡ 19 * s = omega arith in
      (simp (t, w) cc, simp (t, w) cc)

-- ---- the two readers: the fields end after the rows and the pairs, or after the rows

module _ (b out : List ℕ) (q : ℕ) {r : FieldAnswer} {o : List ℕ} (e : r ≡ read_of house b out q) (f : o ≡ read_memory house b out q) where
  pub read-filled : q ≡ 19 * rows b 64 + 7 * pairs b 64 → Filled house b out r o
  unfolding read_of read_memory read_judgement fields_of fields_memory fields_judgement
  read-filled p =
      let x : r ≡ fields_of b house out = e ∙ ap (read_of house b out) p in
      let y : o ≡ fields_memory b house out = f ∙ ap (read_memory house b out) p in
      subst₂ (λ (r : FieldAnswer) (o : List ℕ). Filled house b out r o) (sym x) (sym y) (filled-met house b out)

  pub read-rows : q ≡ 19 * rows b 64 → (r ≡ rows_of house b out) × (o ≡ rows_memory house b out)
  unfolding read_of read_memory read_judgement rows_of rows_memory rows_judgement
  read-rows p =
      let z : q ≡ 19 * rows b 64 + 7 * 0 = omega arith in
      (e ∙ ap (read_of house b out) z, f ∙ ap (read_memory house b out) z)
