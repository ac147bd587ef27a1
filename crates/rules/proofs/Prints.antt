-- What is printed reads back: the last digit of n is n % 10, and n / 10 stands before it, so reading the digits from the first on gives n.
-- Assumes nothing.
use Prim.Native.Nat.{ℕ, zero, suc, ◌+◌, ◌*◌, ◌-◌, ◌/◌, ◌%◌, ◌≤◌, ◌<◌, suc-le-suc}
use native.Mathlib.Nat.{le_refl, le_of_suc-le-suc, not-suc-le-zero, zero-lt-suc}
use native.Mathlib.Omega.{arith}
use mathlib.Core.Path.{◌≡◌, refl, ◌∙◌, subst}
use mathlib.Core.Logic.{◌⊎◌, inl, inr}
use mathlib.Core.Bool.{Bool, true, false, cond}
use mathlib.Core.List.{List, [], ◌∷◌, ◌++◌}
use lib.Dec.{T, ltb, ltb→lt, lt→ltb}
use lib.ListN.{length, get_or}
use Rattle.rules.specs.Print.{digit, digits, decimal, hex}
use Rattle.rules.proofs.SetLaws.{T_true, not-lt}

-- what the character c counts as a digit
unfoldable pub worth : ℕ → ℕ
worth c = cond (ltb c 58) (c - 48) (c - 55)

-- a before the digits cs, to the base b
unfoldable pub read_on : ℕ → ℕ → List ℕ → ℕ
read_on b a [] = a
read_on b a (c ∷ cs) = read_on b (a * b + worth c) cs

-- the number that the digits write to the base b, the first digit the highest
unfoldable pub value : ℕ → List ℕ → ℕ
value b cs = read_on b 0 cs

-- ---- one digit

-- the two ways of a test
lt-or : (P : Bool → Type 0) (m n : ℕ) → (m < n → P true) → (n ≤ m → P false) → P (ltb m n)
lt-or P m n f g = at (ltb m n) refl
  where
    at : (b : Bool) → ltb m n ≡ b → P b
    at true e = f (ltb→lt m n (T_true e))
    at false e = g (not-lt (λ l. subst T e (lt→ltb m n l)))

pub digit_low : (x : ℕ) → x < 10 → digit x ≡ 48 + x
unfolding digit
digit_low x l = lt-or (λ t. cond t (48 + x) (55 + x) ≡ 48 + x) x 10 (λ h. refl) (λ h. omega arith)

pub digit-reads : (x : ℕ) → worth (digit x) ≡ x
unfolding digit worth
digit-reads x = lt-or (λ t. worth (cond t (48 + x) (55 + x)) ≡ x) x 10 low high
  where
    low : x < 10 → worth (48 + x) ≡ x
    low l = lt-or (λ t. cond t (48 + x - 48) (48 + x - 55) ≡ x) (48 + x) 58 (λ h. omega arith) (λ h. omega arith)

    high : 10 ≤ x → worth (55 + x) ≡ x
    high l = lt-or (λ t. cond t (55 + x - 48) (55 + x - 55) ≡ x) (55 + x) 58 (λ h. omega arith) (λ h. omega arith)

-- ---- all digits

read-append : (b a : ℕ) (cs ds : List ℕ) → read_on b a (cs ++ ds) ≡ read_on b (read_on b a cs) ds
unfolding read_on
read-append b a [] ds = refl
read-append b a (c ∷ cs) ds = read-append b (a * b + worth c) cs ds

pub digits-reads : (k n : ℕ) → n ≤ k → value 10 (digits k n) ≡ n
unfolding digits value read_on
digits-reads zero n h = let e = digit-reads n in omega arith
digits-reads (suc k) n h =
    let r = digits k (n / 10) ++ (digit (n % 10) ∷ []) in
    lt-or (λ t. value 10 (cond t (digit n ∷ []) r) ≡ n) n 10
    (λ l. let e = digit-reads n in omega arith)
    (λ l. let e = digits-reads k (n / 10) (omega arith) in let d = digit-reads (n % 10) in
    read-append 10 0 (digits k (n / 10)) (digit (n % 10) ∷ []) ∙ omega arith)

pub decimal-reads : (n : ℕ) → value 10 (decimal n) ≡ n
unfolding decimal
decimal-reads n = digits-reads n n (le_refl n)

pub hex-reads : (w : ℕ) → w < 256 → value 16 (hex w) ≡ w
unfolding hex value read_on
hex-reads w h = let d = digit-reads (w / 16) in let e = digit-reads (w % 16) in omega arith

-- ---- only digits, and none to no use

abbrev pub Decimal : ℕ → Type 0
Decimal c = (48 ≤ c) × (c < 58)

low-decimal : (x : ℕ) → x < 10 → Decimal (digit x)
low-decimal x l = let e = digit_low x l in (omega arith, omega arith)

each_last : (P : ℕ → Type 0) (cs : List ℕ) (d : ℕ) → ((i : ℕ) → i < length cs → P (get_or cs i 0)) → P d
    → (i : ℕ) → i < length (cs ++ (d ∷ [])) → P (get_or (cs ++ (d ∷ [])) i 0)
each_last P [] d h k zero l = k
each_last P [] d h k (suc i) l = absurd (not-suc-le-zero (le_of_suc-le-suc l))
each_last P (c ∷ cs) d h k zero l = h 0 (zero-lt-suc (length cs))
each_last P (c ∷ cs) d h k (suc i) l = each_last P cs d (λ j m. h (suc j) (suc-le-suc m)) k i (le_of_suc-le-suc l)

pub digits-only : (k n : ℕ) → n ≤ k → (i : ℕ) → i < length (digits k n) → Decimal (get_or (digits k n) i 0)
unfolding digits
digits-only zero n h = each_last Decimal [] (digit n) (λ i l. absurd (not-suc-le-zero l)) (low-decimal n (omega arith))
digits-only (suc k) n h =
    let r = digits k (n / 10) ++ (digit (n % 10) ∷ []) in
    lt-or (λ t. (i : ℕ) → i < length (cond t (digit n ∷ []) r) → Decimal (get_or (cond t (digit n ∷ []) r) i 0)) n 10
    (λ l. each_last Decimal [] (digit n) (λ i m. absurd (not-suc-le-zero m)) (low-decimal n l))
    (λ l. each_last Decimal (digits k (n / 10)) (digit (n % 10)) (digits-only k (n / 10) (omega arith)) (low-decimal (n % 10) (omega arith)))

-- so no space and no line feed stands in a number
pub decimal-digits : (n i : ℕ) → i < length (decimal n) → (48 ≤ get_or (decimal n) i 0) × (get_or (decimal n) i 0 < 58)
unfolding decimal
decimal-digits n i l = digits-only n n (le_refl n) i l

first-stays : (cs ds : List ℕ) → 48 < get_or cs 0 0 → 48 < get_or (cs ++ ds) 0 0
first-stays [] ds h = absurd (not-suc-le-zero h)
first-stays (c ∷ cs) ds h = h

pub digits-first : (k n : ℕ) → n ≤ k → zero < n → 48 < get_or (digits k n) 0 0
unfolding digits
digits-first zero n h p = absurd (omega arith)
digits-first (suc k) n h p =
    let r = digits k (n / 10) ++ (digit (n % 10) ∷ []) in
    lt-or (λ t. 48 < get_or (cond t (digit n ∷ []) r) 0 0) n 10
    (λ l. let e = digit_low n l in omega arith)
    (λ l. first-stays (digits k (n / 10)) (digit (n % 10) ∷ []) (digits-first k (n / 10) (omega arith) (omega arith)))

-- no leading 0
pub decimal-first : (n : ℕ) → zero < n → 48 < get_or (decimal n) 0 0
unfolding decimal
decimal-first n p = digits-first n n (le_refl n) p

abbrev pub Hex : ℕ → Type 0
Hex c = ((48 ≤ c) × (c < 58)) ⊎ ((65 ≤ c) × (c < 71))

digit-hex : (x : ℕ) → x < 16 → Hex (digit x)
unfolding digit
digit-hex x l = lt-or (λ t. Hex (cond t (48 + x) (55 + x))) x 10 (λ h. inl (omega arith, omega arith)) (λ h. inr (omega arith, omega arith))

-- a byte in two hexadecimal digits, 0 to 9 and the capitals A to F
pub hex-digits : (w i : ℕ) → w < 256 → i < length (hex w) → Hex (get_or (hex w) i 0)
unfolding hex
hex-digits w zero h l = digit-hex (w / 16) (omega arith)
hex-digits w (suc zero) h l = digit-hex (w % 16) (omega arith)
hex-digits w (suc (suc i)) h l = absurd (omega arith)
