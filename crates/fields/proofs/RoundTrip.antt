-- Fields written from a table and pairs and read back give the table and the offset of the pairs: each field stands whole where the ones
-- before it end, and there is one way to go on through the fields. Assumes nothing.
use Prim.Native.Nat.{ℕ, zero, suc, ◌+◌, ◌*◌, ◌/◌, ◌%◌, ◌≤◌, ◌<◌}
use native.Mathlib.Nat.{mul-zero, mul-suc, not-suc-le-zero, le_of_suc-le-suc}
use native.Mathlib.Omega.{arith}
use mathlib.Core.Path.{◌≡◌, refl, sym, ap, ap₂, ◌∙◌, subst, subst₂}
use mathlib.Core.List.{List, [], ◌∷◌, ◌++◌, append-nil, append_assoc}
use lib.ListN.{length, get_or, take, length-append, get_or-append}
use lib.Seq.{get_or-append-add, length-take-le, get_or-take, ext_get_or}
use Rattle.rules.specs.Answers.{FieldAnswer}
use Rattle.rules.specs.Table.{house}
use Rattle.rules.specs.Fields.{two, Field, offset, Holds, Upto, Next, bad_field, Filled}
use Rattle.rules.specs.Print.{heading, most_input, Printed}
use Rattle.rules.specs.Text.{lines, Tells}
use Rattle.rules.specs.Refusals.{too_short}
use Rattle.rules.proofs.Says.{Clear, clear-says}
use Rattle.rules.proofs.FieldLaws.{upto-one, end-stops}
use Rattle.fields.specs.Write.{big, row_field, pair_field, written}

-- ---- f stands in b at offset o

record Stands (b : List ℕ) (o : ℕ) (f : List ℕ) : Type 0 where
  before : List ℕ
  after : List ℕ
  is : b ≡ before ++ (f ++ after)
  at : length before ≡ o

stands-in : {b f g : List ℕ} {o i : ℕ} → Stands b o f → Stands f i g → Stands b (o + i) g
stands-in h k =
    record { before = h.before ++ k.before; after = k.after ++ h.after; is = h.is ∙ ap (λ (x : List ℕ). h.before ++ (x ++ h.after)) k.is ∙ simp append_assoc; at = simp length-append (omega arith) }

stands-right : (a : List ℕ) {b f : List ℕ} {o : ℕ} → Stands b o f → Stands (a ++ b) (length a + o) f
stands-right a h =
    record { before = a ++ h.before; after = h.after; is = ap (λ (x : List ℕ). a ++ x) h.is ∙ simp append_assoc; at = simp length-append (omega arith) }

stands-get : (b : List ℕ) (o : ℕ) (f : List ℕ) → Stands b o f → (i q : ℕ) → q ≡ o + i → i < length f → get_or b q 0 ≡ get_or f i 0
stands-get b o f h i q e l =
    let m = h.at in
    let g : q ≡ length h.before + i = omega arith in
    ap (λ (x : List ℕ). get_or x q 0) h.is ∙ ap (λ (n : ℕ). get_or (h.before ++ (f ++ h.after)) n 0) g
    ∙ get_or-append-add h.before (f ++ h.after) i 0 ∙ get_or-append f h.after 0 i l

stands-within : (b : List ℕ) (o : ℕ) (f : List ℕ) → Stands b o f → o + length f ≤ length b
stands-within b o f h = let e = simp length-append at (ap length h.is) in let m = h.at in omega arith

-- ---- pieces of one length

module _ (m : ℕ) where
  lines-length : (n : ℕ) (f : ℕ → List ℕ) → ((j : ℕ) → length (f j) ≡ m) → length (lines n f) ≡ m * n
  unfolding lines
  lines-length zero f h = sym (mul-zero m)
  lines-length (suc n) f h =
      let e = lines-length n (λ k. f (suc k)) (λ j. h (suc j)) in
      simp length-append (omega (arith, h 0, mul-suc m n))

  block-stands : (n : ℕ) (f : ℕ → List ℕ) → ((j : ℕ) → length (f j) ≡ m) → (r : List ℕ) (j : ℕ) → j < n → Stands (lines n f ++ r) (m * j) (f j)
  unfolding lines
  block-stands zero f h r j l = absurd (not-suc-le-zero l)
  block-stands (suc n) f h r zero l =
      record { before = []; after = lines n (λ k. f (suc k)) ++ r; is = append_assoc (f 0) (lines n (λ k. f (suc k))) r; at = sym (mul-zero m) }
  block-stands (suc n) f h r (suc j) l =
      let k = block-stands n (λ k. f (suc k)) (λ j. h (suc j)) r j (le_of_suc-le-suc l) in
      let e : length (f 0) + m * j ≡ m * suc j = omega (arith, h 0, mul-suc m j) in
      subst₂ (λ (b : List ℕ) (o : ℕ). Stands b o (f (suc j))) (sym (append_assoc (f 0) (lines n (λ k. f (suc k))) r)) e (stands-right (f 0) k)

-- ---- fields

stands-field : (b : List ℕ) (o tag n : ℕ) (v : List ℕ) → Stands b o (tag ∷ 0 ∷ n ∷ v) → length v ≡ n → Field b tag n o
stands-field b o tag n v h e =
    let f : List ℕ = tag ∷ 0 ∷ n ∷ v in
    let y : get_or b (o + 1) 0 ≡ 0 = stands-get b o f h 1 (o + 1) refl (omega arith) in
    let z : get_or b (o + 1 + 1) 0 ≡ n = stands-get b o f h 2 (o + 1 + 1) (omega arith) (omega arith) in
    let w = stands-within b o f h in
    record { tagged = stands-get b o f h 0 o (omega arith) (omega arith); long = omega arith; whole = omega arith }

row_field-stands : (b : List ℕ) (o : ℕ) (e : ℕ → ℕ) → Stands b o (row_field e) → Field b 1 16 o
unfolding row_field lines big
row_field-stands b o e h = stands-field b o 1 16 (lines 8 (λ p. big (e p))) h refl

pair-field : (b : List ℕ) (o : ℕ) (p : ℕ × ℕ) → Stands b o (pair_field p) → Field b 2 4 o
unfolding pair_field big
pair-field b o p h = stands-field b o 2 4 (big p.0 ++ big p.1) h refl

row-length : (e : ℕ → ℕ) → length (row_field e) ≡ 19
unfolding row_field lines big
row-length e = refl

pair-length : (p : ℕ × ℕ) → length (pair_field p) ≡ 7
unfolding pair_field big
pair-length p = refl

big-length : (x : ℕ) → length (big x) ≡ 2
unfolding big
big-length x = refl

-- a number's two bytes give it back
stands-two : (b : List ℕ) (o x : ℕ) → Stands b o (big x) → two b o ≡ x
unfolding big
stands-two b o x h =
    let u : get_or b o 0 ≡ x / 256 = stands-get b o (big x) h 0 o (omega arith) (omega arith) in
    let v : get_or b (o + 1) 0 ≡ x % 256 = stands-get b o (big x) h 1 (o + 1) refl (omega arith) in
    omega arith

-- entry p of a row
entry-stands : (e : ℕ → ℕ) (p : ℕ) → p < 8 → Stands (row_field e) (3 + 2 * p) (big (e p))
unfolding row_field
entry-stands e p l =
    stands-right (1 ∷ 0 ∷ 16 ∷ []) (subst (λ (b : List ℕ). Stands b (2 * p) (big (e p))) (append-nil (lines 8 (λ p. big (e p)))) (block-stands 2 8 (λ p. big (e p)) (λ j. big-length (e j)) [] p l))

-- ---- what is written, for k switches

module _ (t : List ℕ) (ps : List (ℕ × ℕ)) (k : ℕ) (e : length t ≡ 8 * k) where
  row_at : ℕ → List ℕ
  row_at s = row_field (λ p. get_or t (8 * s + p) 0)

  pair_of : ℕ → List ℕ
  pair_of i = pair_field (get_or ps i (0, 0))

  written_is : written t ps ≡ lines k row_at ++ lines (length ps) pair_of
  unfolding written row_at pair_of
  written_is = let m : length t / 8 ≡ k = omega arith in ap (λ (n : ℕ). lines n row_at ++ lines (length ps) pair_of) m

  rows-length : length (lines k row_at) ≡ 19 * k
  unfolding row_at
  rows-length = lines-length 19 k row_at (λ s. row-length (λ p. get_or t (8 * s + p) 0))

  row-stands : (s : ℕ) → s < k → Stands (written t ps) (19 * s) (row_at s)
  unfolding row_at
  row-stands s l = rw written_is (block-stands 19 k row_at (λ s. row-length (λ p. get_or t (8 * s + p) 0)) (lines (length ps) pair_of) s l)

  pair-stands : (i : ℕ) → i < length ps → Stands (written t ps) (19 * k + 7 * i) (pair_of i)
  unfolding pair_of
  pair-stands i l =
      rw (written_is, ← rows-length) (stands-right (lines k row_at) (rw append-nil at (block-stands 7 (length ps) pair_of (λ i. pair-length (get_or ps i (0, 0))) [] i l)))

  pub written-upto : k ≤ 64 → Upto (written t ps) house k (length ps) (length (written t ps))
  unfolding row_at pair_of
  written-upto l =
      record {
        few = l;
        rows = λ j m. let q : 19 * j ≡ 19 * j + 7 * 0 = omega arith in subst (Field (written t ps) 1 16) q (row_field-stands (written t ps) (19 * j) (λ p. get_or t (8 * j + p) 0) (row-stands j m));
        pairs = λ j m. pair-field (written t ps) (19 * k + 7 * j) (get_or ps j (0, 0)) (pair-stands j m);
        ends = ap length written_is ∙ length-append (lines k row_at) (lines (length ps) pair_of) ∙ ap₂ ◌+◌ rows-length (lines-length 7 (length ps) pair_of (λ i. pair-length (get_or ps i (0, 0))));
      }

  pub written-holds : Holds (written t ps) k t
  unfolding row_at
  written-holds i l =
      let s = i / 8 in
      let p = i % 8 in
      let h : Stands (written t ps) (19 * s + (3 + 2 * p)) (big (get_or t (8 * s + p) 0)) = stands-in (row-stands s (omega arith)) (entry-stands (λ p. get_or t (8 * s + p) 0) p (omega arith)) in
      let u : 19 * s + (3 + 2 * p) ≡ 19 * s + 3 + 2 * p = omega arith in
      let v : 8 * s + p ≡ i = omega arith in
      sym (subst₂ (λ (o n : ℕ). two (written t ps) o ≡ get_or t n 0) u v (stands-two (written t ps) (19 * s + (3 + 2 * p)) (get_or t (8 * s + p) 0) h))

  -- a pair's numbers: source, then destination
  pub written-pair : (i : ℕ) → i < length ps
      → (two (written t ps) (offset (written t ps) k i + 3) ≡ (get_or ps i (0, 0)).0) × (two (written t ps) (offset (written t ps) k i + 5) ≡ (get_or ps i (0, 0)).1)
  unfolding pair_of pair_field big
  written-pair i l =
      let b = written t ps in
      let p = get_or ps i (0, 0) in
      let x : Stands b (19 * k + 7 * i + 3) (big p.0) = stands-in (pair-stands i l) (record { before = 2 ∷ 0 ∷ 4 ∷ []; after = big p.1; is = refl; at = refl }) in
      let y : Stands b (19 * k + 7 * i + 5) (big p.1) = stands-in (pair-stands i l) (record { before = 2 ∷ 0 ∷ 4 ∷ big p.0; after = []; is = refl; at = refl }) in
      (stands-two b (19 * k + 7 * i + 3) p.0 x, stands-two b (19 * k + 7 * i + 5) p.1 y)

  -- what `routes` prints for it: a line for each pair of the list, in its order
  pub written-told : k ≤ 64 → length (written t ps) ≤ most_input → (l : List ℕ) → Tells house (written t ps) l
      → (f : ℕ → List ℕ) × ((i : ℕ) → i < length ps → Printed house t (get_or ps i (0, 0)).0 (get_or ps i (0, 0)).1 (f i)) × (l ≡ heading ++ lines (length ps) f)
  written-told m n l h =
      let x = h.good n k (length ps) t (written-upto m) e written-holds in
      (x.line, λ i q. let w = written-pair i q in subst₂ (λ (a d : ℕ). Printed house t a d (x.line i)) w.0 w.1 (x.each i q), x.all)

-- ---- what is written is bytes, where the numbers fit two of them

abbrev Bytes : List ℕ → Type 0
Bytes b = (i : ℕ) → get_or b i 0 < 256

bytes-cons : (x : ℕ) (b : List ℕ) → x < 256 → Bytes b → Bytes (x ∷ b)
bytes-cons x b l h zero = l
bytes-cons x b l h (suc i) = h i

bytes-append : (a b : List ℕ) → Bytes a → Bytes b → Bytes (a ++ b)
bytes-append [] b h k = k
bytes-append (x ∷ a) b h k = bytes-cons x (a ++ b) (h 0) (bytes-append a b (λ i. h (suc i)) k)

bytes-lines : (n : ℕ) (f : ℕ → List ℕ) → ((j : ℕ) → Bytes (f j)) → Bytes (lines n f)
unfolding lines
bytes-lines zero f h = λ i. omega arith
bytes-lines (suc n) f h = bytes-append (f 0) (lines n (λ k. f (suc k))) (h 0) (bytes-lines n (λ k. f (suc k)) (λ j. h (suc j)))

bytes-big : (x : ℕ) → x < 65536 → Bytes (big x)
unfolding big
bytes-big x l = bytes-cons (x / 256) (x % 256 ∷ []) (omega arith) (bytes-cons (x % 256) [] (omega arith) (λ i. omega arith))

bytes-field : (tag n : ℕ) (v : List ℕ) → tag < 256 → n < 256 → Bytes v → Bytes (tag ∷ 0 ∷ n ∷ v)
bytes-field tag n v l m h = bytes-cons tag (0 ∷ n ∷ v) l (bytes-cons 0 (n ∷ v) (omega arith) (bytes-cons n v m h))

pub written-bytes : (t : List ℕ) (ps : List (ℕ × ℕ)) → ((i : ℕ) → get_or t i 0 < 65536) → ((i : ℕ) → ((get_or ps i (0, 0)).0 < 65536) × ((get_or ps i (0, 0)).1 < 65536)) → (i : ℕ) → get_or (written t ps) i 0 < 256
unfolding written row_field pair_field
written-bytes t ps h k = bytes-append (lines (length t / 8) row) (lines (length ps) pair) (bytes-lines (length t / 8) row rows) (bytes-lines (length ps) pair pairs)
  where
    row : ℕ → List ℕ
    row s = row_field (λ p. get_or t (8 * s + p) 0)

    pair : ℕ → List ℕ
    pair i = pair_field (get_or ps i (0, 0))

    rows : (s : ℕ) → Bytes (row s)
    rows s = bytes-field 1 16 (lines 8 (λ p. big (get_or t (8 * s + p) 0))) (omega arith) (omega arith) (bytes-lines 8 (λ p. big (get_or t (8 * s + p) 0)) (λ p. bytes-big (get_or t (8 * s + p) 0) (h (8 * s + p))))

    pairs : (i : ℕ) → Bytes (pair i)
    pairs i =
        let p = get_or ps i (0, 0) in
        bytes-field 2 4 (big p.0 ++ big p.1) (omega arith) (omega arith) (bytes-append (big p.0) (big p.1) (bytes-big p.0 (k i).0) (bytes-big p.1 (k i).1))

-- ---- what is read back

-- an input whose fields end with it, and hold the table, is read as the table
reads-back : (b t : List ℕ) (k p : ℕ) → Upto b house k p (length b) → Holds b k t → length t ≡ 8 * k → (out : List ℕ) (r : FieldAnswer) (o : List ℕ) → 512 ≤ length out → Filled house b out r o
    → (r.number ≡ 0) × (r.switches ≡ k) × (r.pairs ≡ 19 * k) × (take (8 * k) o ≡ t)
unfolding Clear
reads-back b t k p u h e out r o l f = (n, s, pairs, table)
  where
    one : (j q i : ℕ) → Upto b house j q i → ¬ (Next b house j q i) → (j ≡ k) × (q ≡ p)
    one j q i v m = upto-one b house j q i k p (length b) v u m (end-stops b house k p u)

    good : (q : ℕ) → ¬ ((bad_field b house).given q)
    good q g = let x = one g.0 g.1 q g.2 g.4 in let y = g.2.ends in let z = u.ends in let w = g.3 in omega arith

    n : r.number ≡ 0
    n = (clear-says (bad_field b house ∷ too_short 512 out ∷ []) (good, ((λ q g. let m = g.0 in omega arith), tt)) r.number r.place f.answer).0

    s : r.switches ≡ k
    s = let v = f.found n in (one r.switches v.0 (length b) v.1 (end-stops b house r.switches v.0 v.1)).0

    pairs : r.pairs ≡ 19 * k
    pairs = let v = (f.found n).2 in let x = s in omega arith

    table : take (8 * k) o ≡ t
    table =
        let x = (f.kept n).0 in
        let y = u.few in
        let m : length (take (8 * k) o) ≡ 8 * k = length-take-le (8 * k) o (omega arith) in
        let g : Holds b k o = subst (λ (j : ℕ). Holds b j o) s (f.entries n) in
        ext_get_or 0 (take (8 * k) o) t (m ∙ sym e) (λ i q. let w : i < 8 * k = omega arith in get_or-take (8 * k) o i 0 w ∙ g i w ∙ sym (h i w))

pub round_trip : (t : List ℕ) (ps : List (ℕ × ℕ)) (k : ℕ) → length t ≡ 8 * k → k ≤ 64 → (out : List ℕ) (r : FieldAnswer) (o : List ℕ) → 512 ≤ length out → Filled house (written t ps) out r o
    → (r.number ≡ 0) × (r.switches ≡ k) × (r.pairs ≡ 19 * k) × (take (8 * k) o ≡ t)
round_trip t ps k e l = reads-back (written t ps) t k (length ps) (written-upto t ps k e l) (written-holds t ps k e) e
