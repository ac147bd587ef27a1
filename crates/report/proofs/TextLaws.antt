-- Numbers and words put digit by digit: the last digit stands behind those of the tenth part, and each word of a header stands behind the
-- words before it and their spaces. Assumes nothing.
use Prim.Native.Nat.{ℕ, suc, ◌+◌, ◌*◌, ◌/◌, ◌%◌, ◌^◌, ◌≤◌, ◌<◌}
use native.Mathlib.Omega.{arith}
use mathlib.Core.Path.{◌≡◌, refl, sym, ap, ◌∙◌, subst, subst₂}
use mathlib.Core.List.{List, [], ◌∷◌, ◌++◌, map}
use lib.ListN.{length, get_or, length-append}
use Rattle.rules.specs.Sets.{tabulate}
use Rattle.rules.specs.Print.{ascii, digit, decimal, hex, spaced, ended, bad_field_text}
use Rattle.rules.proofs.Texts.{decimal-one, decimal_step, decimal-length, up_to, words-none, words_more, words_last}
use Rattle.report.specs.Put.{Put, spaced_number}
use Rattle.report.proofs.PutLaws.{put-none, put-more, put-length}

-- ---- numbers

pub decimal-short : (n : ℕ) → n < 10 → length (decimal n) ≡ 1
decimal-short n l = ap length (decimal-one n l)

pub decimal-long : (n : ℕ) → 10 ≤ n → length (decimal n) ≡ length (decimal (n / 10)) + 1
decimal-long n l = ap length (decimal_step n l) ∙ length-append (decimal (n / 10)) (digit (n % 10) ∷ [])

module _ (n at : ℕ) (e : List ℕ) (room : at + length (decimal n) ≤ length e) where
  pub decimal-first : (o : List ℕ) (m x : ℕ) → n < 10 → x ≡ digit n → Put (x ∷ []) at e o m → Put (decimal n) at e o m
  decimal-first o m x l q h = subst (λ (t : List ℕ). Put t at e o m) (ap (λ (d : ℕ). d ∷ []) q ∙ sym (decimal-one n l)) h

  pub decimal-last : (o : List ℕ) (m x : ℕ) → 10 ≤ n → Put (decimal (n / 10)) at e o m → x ≡ digit (n % 10) → (p : List ℕ) (r : ℕ) → Put (x ∷ []) m o p r → Put (decimal n) at e p r
  decimal-last o m x l h q p r g =
      let s = decimal-long n l in
      let k = h.end in
      subst (λ (t : List ℕ). Put t at e p r) (ap (λ (d : ℕ). decimal (n / 10) ++ (d ∷ [])) q ∙ sym (decimal_step n l)) (put-more h (omega arith) g)

  pub decimal-within : (o : List ℕ) (m : ℕ) → 10 ≤ n → Put (decimal (n / 10)) at e o m → (m < length o) × (length o ≡ length e)
  decimal-within o m l h =
      let s = decimal-long n l in
      let k = h.end in
      let q = put-length h (omega arith) in
      (omega arith, q)

-- a number and the space behind it
module _ (n at : ℕ) (e : List ℕ) (room : at + length (spaced_number n) ≤ length e) where
  pub number-room : at + length (decimal n) + 1 ≤ length e
  number-room = let k = length-append (decimal n) (32 ∷ []) in omega arith

  module _ (o : List ℕ) (m : ℕ) (h : Put (decimal n) at e o m) where
    pub number_put : (p : List ℕ) (r : ℕ) → Put (32 ∷ []) m o p r → Put (spaced_number n) at e p r
    number_put p r g = let q = number-room in let k = h.end in put-more h (omega arith) g

-- ---- the line of a bad field

-- s stands for the words before the number
module _ (v at : ℕ) (start : at ≡ 0) (e s : List ℕ) (l : v < 2 ^ 64) (room : 524288 ≤ length e) (is : s ≡ ascii "bad field at ") (o : List ℕ) (m : ℕ) (h : Put s at e o m) where
  digits-few : length (decimal v) ≤ 20
  digits-few = decimal-length 20 v (omega arith) (omega arith)

  words-few : length s ≡ 13
  unfolding ascii tabulate
  words-few = ap length is

  pub bad-within : (m ≤ length e) × (length o ≡ length e) × (m + length (decimal v) ≤ length o)
  bad-within =
      let k = h.end in let w = words-few in let d = digits-few in
      let g = put-length h (omega arith) in
      (omega arith, g, omega arith)

  module _ (p : List ℕ) (r : ℕ) (i : Put (decimal v) m o p r) where
    pub bad-room : (r ≤ length o) × (length p ≡ length e) × (r + 1 ≤ length p)
    bad-room =
        let k = h.end in let w = words-few in let d = digits-few in let b = bad-within in
        let j = i.end in
        let g = put-length i (omega arith) in
        (omega arith, g ∙ b.1, omega arith)

    pub bad-put : (x : List ℕ) (u : ℕ) → Put (10 ∷ []) r p x u → Put (bad_field_text v) at e x u × (length x ≡ length e)
    unfolding bad_field_text
    bad-put x u f =
        let b = bad-room in
        let c = put-more (h) bad-within.0 i in
        let j = f.end in
        (subst (λ (t : List ℕ). Put t at e x u) (ap (λ (s : List ℕ). (s ++ decimal v) ++ (10 ∷ [])) is) (put-more c (omega arith) f), put-length f (omega arith) ∙ b.1)

-- ---- one word

module _ (w x y behind at : ℕ) (e : List ℕ) (room : at + 3 ≤ length e) (is-first : x ≡ digit (w / 16)) (is-second : y ≡ digit (w % 16)) where
  pub word_put : {o p q : List ℕ} {m r u : ℕ} → Put (x ∷ []) at e o m → Put (y ∷ []) m o p r → Put (behind ∷ []) r p q u → Put (hex w ++ (behind ∷ [])) at e q u
  unfolding hex
  word_put {o} {p} {q} {m} {r} {u} f g h =
      let k = f.end in
      let l = g.end in
      subst₂ (λ (a b : ℕ). Put (a ∷ b ∷ behind ∷ []) at e q u) is-first is-second (put-more (put-more f (omega arith) g) (omega arith) h)

-- ---- the words of a header

-- the first i words are put, a space behind each
pub record Worded (ws : List ℕ) (at : ℕ) (e o : List ℕ) (end i : ℕ) : Type 0 where
  pub long : length o ≡ length e
  pub there : end ≡ at + 3 * i
  pub so : Put (up_to ws i) at e o end

module _ (ws : List ℕ) (at : ℕ) (e : List ℕ) (room : at + 3 * length ws ≤ length e) where
  pub worded-none : Worded ws at e e at 0
  worded-none = record { long = refl; there = omega arith; so = subst (λ (t : List ℕ). Put t at e e at) (sym (words-none ws)) (put-none at e) }

  module _ (o : List ℕ) (end i : ℕ) (h : Worded ws at e o end i) (l : i < length ws) where
    pub worded-room : end + 3 ≤ length o
    worded-room = let q = h.long in let t = h.there in omega arith

    -- what is behind the words so far
    behind : (t p : List ℕ) (r : ℕ) → Put t end o p r → length t ≡ 3 → Put (up_to ws i ++ t) at e p r × (length p ≡ length e) × (r ≡ at + 3 * (i + 1))
    behind t p r k m =
        let q = h.long in
        let t = h.there in
        let u = k.end in
        let v = put-length k (omega arith) in
        (put-more h.so (omega arith) k, v ∙ q, omega arith)

    pub worded-more : (p : List ℕ) (r : ℕ) → Put (hex (get_or ws i 0) ++ (32 ∷ [])) end o p r → Worded ws at e p r (i + 1)
    unfolding hex
    worded-more p r k =
        let b = behind _ p r k refl in
        let more : suc i ≡ i + 1 = omega arith in
        record { long = b.1; there = b.2; so = subst (λ (t : List ℕ). Put t at e p r) (sym (words_more ws i) ∙ ap (up_to ws) more) b.0 }

    pub worded-last : (p : List ℕ) (r : ℕ) → length ws ≤ i + 1 → Put (hex (get_or ws i 0) ++ (10 ∷ [])) end o p r → Put (ended (spaced (map hex ws))) at e p r × (length p ≡ length e)
    unfolding hex
    worded-last p r m k =
        let b = behind _ p r k refl in
        let s : suc i ≡ length ws = omega arith in
        (subst (λ (t : List ℕ). Put t at e p r) (sym (words_last ws i s)) b.0, b.1)
