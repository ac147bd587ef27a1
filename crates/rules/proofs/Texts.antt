-- The text that `routes` prints. Its steps, as code writes them: a number by its last digit (the digits do not depend on the bound that
-- stops them), a line field by field and word by word. And its promise: there is one way through the fields and one line for each pair, so
-- the twin's text keeps the promise and no other does. Assumes nothing.
use Prim.Native.Nat.{ℕ, zero, suc, ◌+◌, ◌*◌, ◌/◌, ◌%◌, ◌^◌, ◌≤◌, ◌<◌}
use native.Mathlib.Nat.{pow-suc}
use native.Mathlib.Omega.{arith}
use native.Mathlib.Decide.{dec_lt, ℕ_discrete}
use mathlib.Core.Path.{◌≡◌, refl, sym, ap, ap₂, ◌∙◌, subst, subst₃}
use mathlib.Core.List.{List, [], ◌∷◌, ◌++◌, map, append-nil, append_assoc}
use lib.ListN.{length, get_or, drop, length-append}
use borrow.Author.Tests.{lt-ltb, le-ltb, eq-eqb, ne_eqb}
use Rattle.rules.specs.Answers.{Answer}
use Rattle.rules.specs.Sets.{tabulate}
use Rattle.rules.specs.Table.{Sizes}
use Rattle.rules.specs.Fields.{two, offset, Holds, Upto, Next, bad_field}
use Rattle.rules.specs.Print.{ascii, digit, digits, decimal, hex, spaced, shown, line, heading, too_long_text, bad_field_text, most_input, Printed}
use Rattle.rules.specs.Text.{lines, Lines, Tells, most_text, Reported}
use Rattle.rules.specs.Look.{first, pick, accepted}
use Rattle.rules.specs.RunFields.{rows, pairs, entries, look12}
use Rattle.rules.specs.RunText.{input_judgement, line_at, good_text, text_of}
use Rattle.rules.proofs.FieldLaws.{upto_is, upto-stops, upto-within, end-stops, upto-one, entries-length}
use Rattle.rules.proofs.Doors.{table-held, table-one, printed-met, printed-only}

-- ---- the digits of a number

digits_low : (k n : ℕ) → n < 10 → digits k n ≡ digit n ∷ []
unfolding digits
digits_low zero n l = refl
digits_low (suc k) n l = simp (lt-ltb n 10 l)

digits-high : (k n : ℕ) → 10 ≤ n → digits (suc k) n ≡ digits k (n / 10) ++ (digit (n % 10) ∷ [])
unfolding digits
digits-high k n l = simp (le-ltb n 10 l)

-- any two bounds that are not below n stop at the same digits
digits_same : (k m n : ℕ) → n ≤ k → n ≤ m → digits k n ≡ digits m n
digits_same zero m n h g = digits_low zero n (omega arith) ∙ sym (digits_low m n (omega arith))
digits_same (suc k) zero n h g = digits_low (suc k) n (omega arith) ∙ sym (digits_low zero n (omega arith))
digits_same (suc k) (suc m) n h g = at (dec_lt n 10) (digits_same k m (n / 10))
  where
    at : Dec (n < 10) → (n / 10 ≤ k → n / 10 ≤ m → digits k (n / 10) ≡ digits m (n / 10)) → digits (suc k) n ≡ digits (suc m) n
    at (yes l) ih = digits_low (suc k) n l ∙ sym (digits_low (suc m) n l)
    at (no l) ih =
        digits-high k n (omega arith)
        ∙ ap (λ (r : List ℕ). r ++ (digit (n % 10) ∷ [])) (ih (omega arith) (omega arith)) ∙ sym (digits-high m n (omega arith))

pub decimal-one : (n : ℕ) → n < 10 → decimal n ≡ digit n ∷ []
unfolding decimal
decimal-one n l = digits_low n n l

pub decimal_step : (n : ℕ) → 10 ≤ n → decimal n ≡ decimal (n / 10) ++ (digit (n % 10) ∷ [])
unfolding decimal
decimal_step n l =
    digits_same n (suc n) n (omega arith) (omega arith) ∙ digits-high n n l
    ∙ ap (λ (r : List ℕ). r ++ (digit (n % 10) ∷ [])) (digits_same n (n / 10) (n / 10) (omega arith) (omega arith))

pub decimal-length : (k n : ℕ) → n < 10 ^ k → 0 < k → length (decimal n) ≤ k
decimal-length zero n h p = absurd (omega arith)
decimal-length (suc zero) n h p = simp (decimal-one n h) (omega arith)
decimal-length (suc (suc k)) n h p = at (dec_lt n 10) (λ l. decimal-length (suc k) (n / 10) l (omega arith))
  where
    at : Dec (n < 10) → (n / 10 < 10 ^ suc k → length (decimal (n / 10)) ≤ suc k) → length (decimal n) ≤ suc (suc k)
    at (yes l) ih = simp (decimal-one n l) (omega arith)
    at (no l) ih =
        let e = pow-suc 10 (suc k) in
        let g = ih (omega arith) in
        let s : 10 ≤ n = omega arith in
        simp (decimal_step n s, length-append) (omega arith)

-- ---- a line

-- six fields, a space after each, and then the rest
abbrev pub six : ℕ → ℕ → Answer → List ℕ → List ℕ
six a d r rest = decimal a ++ (32 ∷ (decimal d ++ (32 ∷ (decimal r.number ++ (32 ∷ (decimal r.distance ++ (32 ∷ (decimal r.count ++ (32 ∷ (decimal r.tries ++ (32 ∷ rest)))))))))))

line-six : (a d : ℕ) (r : Answer) (ws f : List ℕ) (fs : List (List ℕ)) → shown r ws ≡ f ∷ fs → line a d r ws ≡ six a d r (spaced (f ∷ fs) ++ (10 ∷ []))
unfolding line spaced
line-six a d r ws f fs e = simp (e, append_assoc)

pub line_refused : (a d : ℕ) (r : Answer) (ws : List ℕ) → ¬ (r.number ≡ 0) → line a d r ws ≡ six a d r (45 ∷ 10 ∷ [])
unfolding shown ascii tabulate spaced
line_refused a d r ws h = line-six a d r ws (45 ∷ []) [] (simp (ne_eqb r.number 0 h))

pub line-words : (a d : ℕ) (r : Answer) (w : ℕ) (ws : List ℕ) → r.number ≡ 0 → line a d r (w ∷ ws) ≡ six a d r (spaced (map hex (w ∷ ws)) ++ (10 ∷ []))
unfolding shown
line-words a d r w ws h = line-six a d r (w ∷ ws) (hex w) (map hex ws) (simp (eq-eqb r.number 0 h))

-- ---- its words

-- the first i words, a space after each
unfoldable pub up_to : List ℕ → ℕ → List ℕ
up_to ws zero = []
up_to ws (suc i) = up_to ws i ++ (hex (get_or ws i 0) ++ (32 ∷ []))

pub words-none : (ws : List ℕ) → up_to ws 0 ≡ []
unfolding up_to
words-none ws = refl

pub words_more : (ws : List ℕ) (i : ℕ) → up_to ws (suc i) ≡ up_to ws i ++ (hex (get_or ws i 0) ++ (32 ∷ []))
unfolding up_to
words_more ws i = refl

-- the first word before the others
words-first : (w : ℕ) (ws : List ℕ) (i : ℕ) → up_to (w ∷ ws) (suc i) ≡ hex w ++ (32 ∷ up_to ws i)
unfolding up_to hex
words-first w ws zero = refl
words-first w ws (suc i) = simp (words-first w ws i)

-- and the last one before what ends the line
pub words_last : (ws : List ℕ) (i : ℕ) → suc i ≡ length ws → spaced (map hex ws) ++ (10 ∷ []) ≡ up_to ws i ++ (hex (get_or ws i 0) ++ (10 ∷ []))
unfolding up_to spaced hex
words_last [] i e = absurd (omega arith)
words_last (w ∷ []) zero e = refl
words_last (w ∷ []) (suc i) e = absurd (omega arith)
words_last (w ∷ v ∷ ws) zero e = absurd (omega arith)
words_last (w ∷ v ∷ ws) (suc i) e =
    ap (λ (r : List ℕ). hex w ++ (32 ∷ r)) (words_last (v ∷ ws) i (omega arith))
    ∙ ap (λ (r : List ℕ). r ++ (hex (get_or (v ∷ ws) i 0) ++ (10 ∷ []))) (sym (words-first w (v ∷ ws) i))

-- ---- how long a line is

-- the fields, a byte before each
unfoldable room : List (List ℕ) → ℕ
room [] = 0
room (f ∷ fs) = suc (length f + room fs)

spaced-length : (f : List ℕ) (fs : List (List ℕ)) → length (spaced (f ∷ fs)) ≡ length f + room fs
unfolding spaced room
spaced-length f [] = omega arith
spaced-length f (g ∷ fs) = simp (length-append, spaced-length g fs) (omega arith)

words-room : (ws : List ℕ) → room (map hex ws) ≡ 3 * length ws
unfolding room hex
words-room [] = refl
words-room (w ∷ ws) = let e = words-room ws in omega arith

shown-room : (r : Answer) (ws : List ℕ) → r.number < 2 ^ 8 → length ws ≤ 8 → length (decimal r.number) + room (shown r ws) ≤ 25
unfolding shown ascii tabulate room
shown-room r ws h k = at (ℕ_discrete r.number 0)
  where
    at : Dec (r.number ≡ 0) → length (decimal r.number) + room (shown r ws) ≤ 25
    at (yes e) = let f = decimal-length 1 r.number (omega arith) (omega arith) in simp (eq-eqb r.number 0 e, words-room) (omega arith)
    at (no e) = let f = decimal-length 3 r.number (omega arith) (omega arith) in simp (ne_eqb r.number 0 e) (omega arith)

pub line-short : (a d : ℕ) (r : Answer) (ws : List ℕ) → a < 65536 → d < 65536 → r.number < 2 ^ 8 → r.distance < 10 → r.count ≤ 2 ^ 24 → r.tries ≤ 65536 → length ws ≤ 8
    → length (line a d r ws) ≤ 55
unfolding line room
line-short a d r ws h k l m n o p =
    let e = decimal-length 5 a (omega arith) (omega arith) in
    let f = decimal-length 5 d (omega arith) (omega arith) in
    let g = decimal-length 1 r.distance m (omega arith) in
    let u = decimal-length 8 r.count (omega arith) (omega arith) in
    let v = decimal-length 5 r.tries (omega arith) (omega arith) in
    let w = shown-room r ws l p in
    simp (length-append, spaced-length) (omega arith)

-- ---- all lines

pub lines_more : (n : ℕ) (f : ℕ → List ℕ) → lines (suc n) f ≡ lines n f ++ f n
unfolding lines
lines_more zero f = append-nil (f 0)
lines_more (suc n) f = ap (λ (r : List ℕ). f 0 ++ r) (lines_more n (λ i. f (suc i))) ∙ sym (append_assoc (f 0) (lines n (λ i. f (suc i))) (f (suc n)))

lines_same : (n : ℕ) (f g : ℕ → List ℕ) → ((i : ℕ) → i < n → f i ≡ g i) → lines n f ≡ lines n g
unfolding lines
lines_same zero f g h = refl
lines_same (suc n) f g h = ap₂ (λ (x y : List ℕ). x ++ y) (h 0 (omega arith)) (lines_same n (λ i. f (suc i)) (λ i. g (suc i)) (λ i l. h (suc i) (omega arith)))

module _ (z : Sizes) (b : List ℕ) where
  -- where the fields that stand whole at the start end
  abbrev pub over : ℕ
  over = offset b (rows b z.most) (pairs b z.most)

  -- ---- how the twin computes

  input-bad : over < length b → input_judgement z b ≡ record { number = 12; place = over }
  unfolding input_judgement first pick look12
  input-bad l = simp (lt-ltb over (length b) l)

  input-good : length b ≤ over → input_judgement z b ≡ record { number = 0; place = 0 }
  unfolding input_judgement first pick look12
  input-good l = simp (le-ltb over (length b) l)

  pub text-long : most_input < length b → text_of z b ≡ too_long_text
  unfolding text_of
  text-long l = simp (lt-ltb most_input (length b) l)

  pub text-bad : length b ≤ most_input → over < length b → text_of z b ≡ bad_field_text over
  unfolding text_of accepted
  text-bad l m = simp (le-ltb most_input (length b) l, input-bad m)

  pub text-good : length b ≤ most_input → length b ≤ over → text_of z b ≡ good_text z b
  unfolding text_of accepted
  text-good l m = simp (le-ltb most_input (length b) l, input-good m)

  -- ---- it keeps the promise

  -- every way through the fields that cannot go on is the twin's
  way-one : (k p q : ℕ) → Upto b z k p q → ¬ (Next b z k p q) → (k ≡ rows b z.most) × (p ≡ pairs b z.most) × (q ≡ over)
  way-one k p q u s =
      let e = upto-one b z k p q (rows b z.most) (pairs b z.most) over u (upto_is b z) s (upto-stops b z) in
      let f = u.ends in (e.0, e.1, omega arith)

  pair_line-printed : (i : ℕ) → Printed z (entries b (rows b z.most)) (two b (offset b (rows b z.most) i + 3)) (two b (offset b (rows b z.most) i + 5)) (line_at z b i)
  unfolding line_at
  pair_line-printed i = printed-met z _ _ _

  good-lines : Lines z b (entries b (rows b z.most)) (rows b z.most) (pairs b z.most) (good_text z b)
  unfolding good_text
  good-lines = record { line = line_at z b; each = λ i l. pair_line-printed i; all = refl }

  tells-bad : length b ≤ most_input → (q : ℕ) → (bad_field b z).given q → text_of z b ≡ bad_field_text q
  tells-bad l q h =
      let e = (way-one h.0 h.1 q h.2 h.4).2 in
      let m = h.3 in text-bad l (omega arith) ∙ ap bad_field_text (sym e)

  tells-good : length b ≤ most_input → (k p : ℕ) (t : List ℕ) → Upto b z k p (length b) → length t ≡ 8 * k → Holds b k t → Lines z b t k p (text_of z b)
  tells-good l k p t u e h =
      let f = way-one k p (length b) u (end-stops b z k p u) in
      let g = f.2 in
      let m : length b ≤ over = omega arith in
      rw (text-good l m) (subst₃ (λ (x : List ℕ) (y w : ℕ). Lines z b x y w (good_text z b)) (table-one z b k t f.0 e h) (sym f.0) (sym f.1) good-lines)

  pub tells-met : Tells z b (text_of z b)
  tells-met = record { long = text-long; bad = tells-bad; good = tells-good }

  -- ---- and no other text does

  -- a text for the input that ends with its fields
  lines-one : (l : List ℕ) → Lines z b (entries b (rows b z.most)) (rows b z.most) (pairs b z.most) l → l ≡ good_text z b
  unfolding good_text
  lines-one l h =
      h.all ∙ ap (λ (r : List ℕ). heading ++ r) (lines_same (pairs b z.most) h.line (line_at z b) (λ i m. printed-only z _ _ _ (h.line i) (line_at z b i) (h.each i m) (pair_line-printed i)))

  pub tells_is : (l : List ℕ) → Tells z b l → l ≡ text_of z b
  tells_is l h = at (dec_lt most_input (length b)) (dec_lt over (length b))
    where
      at : Dec (most_input < length b) → Dec (over < length b) → l ≡ text_of z b
      at (yes m) n = h.long m ∙ sym (text-long m)
      at (no m) (yes n) =
          let s : length b ≤ most_input = omega arith in
          h.bad s over (rows b z.most, pairs b z.most, upto_is b z, n, upto-stops b z) ∙ sym (text-bad s n)
      at (no m) (no n) =
          let s : length b ≤ most_input = omega arith in
          let u = upto-within b z (rows b z.most) (pairs b z.most) over (upto_is b z) in
          let e : over ≡ length b = omega arith in
          let f = h.good s (rows b z.most) (pairs b z.most) (entries b (rows b z.most)) (subst (Upto b z (rows b z.most) (pairs b z.most)) e (upto_is b z)) (entries-length b (rows b z.most)) (table-held z b) in
          lines-one l f ∙ sym (text-good s (omega arith))

  pub tells-only : (l m : List ℕ) → Tells z b l → Tells z b m → l ≡ m
  tells-only l m h k = tells_is l h ∙ sym (tells_is m k)

  -- ---- what is written of it

  module _ (out : List ℕ) where
    pub reported-met : (n : ℕ) (o : List ℕ) → most_text ≤ length out → n ≡ length (text_of z b) → o ≡ text_of z b ++ drop n out → Reported z b out n o
    reported-met n o l e f = record {
      short = λ s. absurd (omega arith);
      text = λ _. (text_of z b, tells-met, e, f ∙ ap (λ (i : ℕ). text_of z b ++ drop i out) e);
    }

    pub reported-short : (n : ℕ) (o : List ℕ) → length out < most_text → n ≡ 0 → o ≡ out → Reported z b out n o
    reported-short n o l e f = record { short = λ _. (e, f); text = λ m. absurd (omega arith) }

    pub reported-only : (m n : ℕ) (o p : List ℕ) → Reported z b out m o → Reported z b out n p → (m ≡ n) × (o ≡ p)
    reported-only m n o p h k = at (dec_lt (length out) most_text)
      where
        at : Dec (length out < most_text) → (m ≡ n) × (o ≡ p)
        at (yes l) =
            let x = h.short l in
            let y = k.short l in (x.0 ∙ sym y.0, x.1 ∙ sym y.1)
        at (no l) =
            let x = h.text (omega arith) in
            let y = k.text (omega arith) in
            let e = tells-only x.0 y.0 x.1 y.1 in
            (x.2 ∙ ap length e ∙ sym y.2, x.3 ∙ ap (λ (t : List ℕ). t ++ drop (length t) out) e ∙ sym y.3)
