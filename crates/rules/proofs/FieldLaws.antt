-- The fields at the start of an input: the computed counts are the one way to go on until no field may follow. A field holds three bytes
-- more than its value, so none stands at the end, and its tag tells a row from a pair. Assumes nothing.
use Prim.Native.Nat.{ℕ, zero, suc, ◌+◌, ◌*◌, ◌/◌, ◌%◌, ◌≤◌, ◌<◌}
use native.Mathlib.Nat.{le_antisymm, not-suc-le-zero}
use native.Mathlib.Omega.{arith}
use mathlib.Core.Path.{◌≡◌, refl, sym, ◌∙◌, subst}
use mathlib.Core.Logic.{inl, inr, ◌↔◌}
use mathlib.Core.Bool.{Bool, true, false, cond, ◌&&◌, not}
use mathlib.Core.List.{List, ◌++◌}
use Rattle.std.specs.Prelude.{None, Some}
use lib.ListN.{length, get_or, drop, get_or-append}
use lib.Dec.{T, eqb, leb, ltb, eqb→eq, leb→le, le→leb, ltb→lt, lt→ltb, T_not}
use Rattle.rules.specs.Sets.{least}
use Rattle.rules.specs.Table.{Sizes}
use Rattle.rules.specs.Fields.{two, Field, Row, Pair, offset, Holds, Upto, Next, bad_field, bad_row}
use Rattle.rules.specs.RunFields.{is_field, rows, pairs, entries, look12}
use Rattle.rules.proofs.SetLaws.{not-lt, T_true, T_and, and_i, eq-T, least-is}
use Rattle.rules.proofs.Says.{Decides}
use Rattle.rules.proofs.Lists.{length-tabulate, get_d_tabulate, front-one}

-- ---- the test of a field

pub in_field : (b : List ℕ) (tag n i : ℕ) → T (is_field b tag n i) ↔ Field b tag n i
unfolding is_field
in_field b tag n i = (
  λ h. let u = T_and (eqb (get_or b i 0) tag) (eqb (two b (i + 1)) n && leb (i + 3 + n) (length b)) h in
      let v = T_and (eqb (two b (i + 1)) n) (leb (i + 3 + n) (length b)) u.1 in
      record { tagged = eqb→eq (get_or b i 0) tag u.0; long = eqb→eq (two b (i + 1)) n v.0; whole = leb→le (i + 3 + n) (length b) v.1 },
  λ f. and_i (eqb (get_or b i 0) tag) (eqb (two b (i + 1)) n && leb (i + 3 + n) (length b)) (eq-T (get_or b i 0) tag f.tagged) (and_i (eqb (two b (i + 1)) n) (leb (i + 3 + n) (length b)) (eq-T (two b (i + 1)) n f.long) (le→leb (i + 3 + n) (length b) f.whole)),
)

-- the tags tell them apart
pub row-or-pair : (b : List ℕ) (i : ℕ) → Row b i → Pair b i → ⊥
row-or-pair b i r p = let u = r.tagged in let v = p.tagged in omega arith

-- ---- the counts

T_back : (b : Bool) → (T (not b) → ⊥) → T b
T_back true h = tt
T_back false h = h tt

-- what passes before the least that fails
before-least : (n : ℕ) (f : ℕ → Bool) (j : ℕ) → j < least n (λ k. not (f k)) → T (f j)
before-least n f j l = T_back (f j) ((least-is n (λ k. not (f k))).before j l)

at_least : (n : ℕ) (f : ℕ → Bool) → least n (λ k. not (f k)) < n → T (f (least n (λ k. not (f k)))) → ⊥
at_least n f l h = T_not (f (least n (λ k. not (f k)))) ((least-is n (λ k. not (f k))).hit l) h

module _ (b : List ℕ) (most : ℕ) where
  pub rows_few : rows b most ≤ most
  unfolding rows
  rows_few = (least-is most (λ k. not (is_field b 1 16 (offset b k 0)))).bound

  row_before : (j : ℕ) → j < rows b most → Row b (offset b j 0)
  unfolding rows
  row_before j l = (in_field b 1 16 (offset b j 0)).0 (before-least most (λ k. is_field b 1 16 (offset b k 0)) j l)

  row-after : ¬ (Row b (offset b (rows b most) 0) × (rows b most < most))
  unfolding rows
  row-after h = at_least most (λ k. is_field b 1 16 (offset b k 0)) h.1 ((in_field b 1 16 (offset b (rows b most) 0)).1 h.0)

  pair-before : (j : ℕ) → j < pairs b most → Pair b (offset b (rows b most) j)
  unfolding pairs
  pair-before j l = (in_field b 2 4 (offset b (rows b most) j)).0 (before-least (length b) (λ p. is_field b 2 4 (offset b (rows b most) p)) j l)

  -- were there a pair for each byte of the input, they would be longer than it
  pair-after : ¬ (Pair b (offset b (rows b most) (pairs b most)))
  unfolding pairs
  pair-after h =
      let w = h.whole in
      at_least (length b) (λ p. is_field b 2 4 (offset b (rows b most) p)) (omega arith) ((in_field b 2 4 (offset b (rows b most) (pairs b most))).1 h)

module _ (b : List ℕ) (z : Sizes) where
  pub upto_is : Upto b z (rows b z.most) (pairs b z.most) (offset b (rows b z.most) (pairs b z.most))
  upto_is = record { few = rows_few b z.most; rows = row_before b z.most; pairs = pair-before b z.most; ends = refl }

  pub upto-rows : Upto b z (rows b z.most) 0 (offset b (rows b z.most) 0)
  upto-rows = record { few = rows_few b z.most; rows = row_before b z.most; pairs = λ j l. absurd (not-suc-le-zero l); ends = refl }

  pub rows-stop : ¬ (Row b (offset b (rows b z.most) 0) × (rows b z.most < z.most))
  rows-stop = row-after b z.most

  pub upto-stops : ¬ (Next b z (rows b z.most) (pairs b z.most) (offset b (rows b z.most) (pairs b z.most)))
  upto-stops (inl h) = rows-stop (subst (λ (p : ℕ). Row b (offset b (rows b z.most) p)) h.1 h.0, h.2)
  upto-stops (inr h) = pair-after b z.most h

  -- ---- nothing stands at the end of the input

  pub upto-within : (k p i : ℕ) → Upto b z k p i → i ≤ length b
  upto-within zero zero i u = let e = u.ends in omega arith
  upto-within (suc k) zero i u = let e = u.ends in let w = (u.rows k (omega arith)).whole in omega arith
  upto-within k (suc p) i u = let e = u.ends in let w = (u.pairs p (omega arith)).whole in omega arith

  pub end-stops : (k p : ℕ) → Upto b z k p (length b) → ¬ (Next b z k p (length b))
  end-stops k p u (inl h) = let w = h.0.whole in omega arith
  end-stops k p u (inr h) = let w = h.whole in omega arith

  pub end_row : (k : ℕ) → ¬ (Row b (length b) × (k < z.most))
  end_row k h = let w = h.0.whole in omega arith

  -- ---- one way to go on

  -- fewer rows than another has, and none may follow: a pair would stand where the other's row does
  fewer-rows : (k p i k' p' i' : ℕ) → Upto b z k p i → Upto b z k' p' i' → ¬ (Next b z k p i) → k < k' → ⊥
  fewer-rows k zero i k' p' i' u v n l = let f = v.few in n (inl (subst (Row b) (sym u.ends) (v.rows k l), refl, omega arith))
  fewer-rows k (suc p) i k' p' i' u v n l = row-or-pair b (offset b k 0) (v.rows k l) (u.pairs 0 (omega arith))

  fewer-pairs : (k p i p' i' : ℕ) → Upto b z k p i → Upto b z k p' i' → ¬ (Next b z k p i) → p < p' → ⊥
  fewer-pairs k p i p' i' u v n l = n (inr (subst (Pair b) (sym u.ends) (v.pairs p l)))

  pub upto-one : (k p i k' p' i' : ℕ) → Upto b z k p i → Upto b z k' p' i' → ¬ (Next b z k p i) → ¬ (Next b z k' p' i') → (k ≡ k') × (p ≡ p')
  upto-one k p i k' p' i' u v m n =
      let e : k' ≡ k = le_antisymm (not-lt (fewer-rows k p i k' p' i' u v m)) (not-lt (fewer-rows k' p' i' k p i v u n)) in
      let w : Upto b z k p' i' = subst (λ (x : ℕ). Upto b z x p' i') e v in
      let o : ¬ (Next b z k p' i') = subst (λ (x : ℕ). ¬ (Next b z x p' i')) e n in
      (sym e, le_antisymm (not-lt (fewer-pairs k p' i' p i w u o)) (not-lt (fewer-pairs k p i p' i' u w m)))

  fewer : (k i k' i' : ℕ) → Upto b z k 0 i → Upto b z k' 0 i' → ¬ (Row b i × (k < z.most)) → k < k' → ⊥
  fewer k i k' i' u v n l = let f = v.few in n (subst (Row b) (sym u.ends) (v.rows k l), omega arith)

  pub rows-one : (k i k' i' : ℕ) → Upto b z k 0 i → Upto b z k' 0 i' → ¬ (Row b i × (k < z.most)) → ¬ (Row b i' × (k' < z.most)) → k ≡ k'
  rows-one k i k' i' u v m n = le_antisymm (not-lt (fewer k' i' k i v u n)) (not-lt (fewer k i k' i' u v m))

  -- ---- the first bad field

  pub field-places : (p q : ℕ) → (bad_field b z).given p → (bad_field b z).given q → p ≡ q
  field-places p q h k =
      let e = upto-one h.0 h.1 p k.0 k.1 q h.2 k.2 h.4 k.4 in
      let u = h.2.ends in let v = k.2.ends in let x = e.0 in let y = e.1 in omega arith

  pub row-places : (p q : ℕ) → (bad_row b z).given p → (bad_row b z).given q → p ≡ q
  row-places p q h k =
      let e = rows-one h.0 p k.0 q h.1 k.1 h.3 k.3 in
      let u = h.1.ends in let v = k.1.ends in omega arith

  pub field-decides : Decides (bad_field b z) (look12 b (offset b (rows b z.most) (pairs b z.most))).1
  unfolding Decides look12
  field-decides = at (ltb (offset b (rows b z.most) (pairs b z.most)) (length b)) refl
    where
      i : ℕ
      i = offset b (rows b z.most) (pairs b z.most)

      at : (c : Bool) → ltb i (length b) ≡ c → Decides (bad_field b z) (cond c (Some i) None)
      at true e = (rows b z.most, pairs b z.most, upto_is, ltb→lt i (length b) (T_true e), upto-stops)
      at false e = λ q h.
          let s = upto-one h.0 h.1 q (rows b z.most) (pairs b z.most) i h.2 upto_is h.4 upto-stops in
          let u = h.2.ends in let x = s.0 in let y = s.1 in let l = h.3 in
          let m : i < length b = omega arith in subst T e (lt→ltb i (length b) m)

  pub row-decides : Decides (bad_row b z) (look12 b (offset b (rows b z.most) 0)).1
  unfolding Decides look12
  row-decides = at (ltb (offset b (rows b z.most) 0) (length b)) refl
    where
      i : ℕ
      i = offset b (rows b z.most) 0

      at : (c : Bool) → ltb i (length b) ≡ c → Decides (bad_row b z) (cond c (Some i) None)
      at true e = (rows b z.most, upto-rows, ltb→lt i (length b) (T_true e), rows-stop)
      at false e = λ q h.
          let s = rows-one h.0 q (rows b z.most) i h.1 upto-rows h.3 rows-stop in
          let u = h.1.ends in let l = h.2 in
          let m : i < length b = omega arith in subst T e (lt→ltb i (length b) m)

-- ---- the entries

pub entries-length : (b : List ℕ) (k : ℕ) → length (entries b k) ≡ 8 * k
unfolding entries
entries-length b k = length-tabulate (8 * k) (λ i. two b (19 * (i / 8) + 3 + 2 * (i % 8)))

pub entries-hold : (b : List ℕ) (k : ℕ) (r : List ℕ) → Holds b k (entries b k ++ r)
unfolding entries
entries-hold b k r i l =
    get_or-append (entries b k) r 0 i (subst (λ (n : ℕ). i < n) (sym (entries-length b k)) l)
    ∙ get_d_tabulate (8 * k) (λ i. two b (19 * (i / 8) + 3 + 2 * (i % 8))) i 0 l

pub holds-one : (b : List ℕ) (k : ℕ) (t u : List ℕ) → length t ≡ length u → drop (8 * k) t ≡ drop (8 * k) u → Holds b k t → Holds b k u → t ≡ u
holds-one b k t u e f h g = front-one (8 * k) t u e f (λ i l. h i l ∙ sym (g i l))
