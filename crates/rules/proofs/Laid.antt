-- Numbers side by side in one number: the first is its low digits and the others the high ones, so each part comes back modulo its
-- width, and a part that fits its width comes back itself. Assumes nothing.
use Prim.Native.Nat.{ℕ, ◌+◌, ◌*◌, ◌/◌, ◌%◌, ◌^◌, ◌≤◌, ◌<◌}
use native.Mathlib.Nat.{lt_of_lt_of_le, add_comm, mul_comm, div-one, mod-lt, mod-eq_of_lt, zero-lt-suc}
use native.Mathlib.Omega.{arith}
use mathlib.Core.Path.{◌≡◌, refl, sym, ap, ◌∙◌, subst}
use mathlib.Core.Bool.{Bool, true, false, cond}
use mathlib.Core.List.{List, [], ◌∷◌, ◌++◌}
use lib.Dec.{eqb, eqb→eq}
use lib.Arith.{digits_lt}
use lib.Pow.{pow_pos, pow_mono, pow-add, shr-shr, high, low}
use Rattle.rules.specs.Answers.{Answer, TestAnswer, Verdict, Neither, No, Yes, Ending, None, Delivered, Leftover, Empty, Off, Short, WalkAnswer, FieldAnswer}
use Rattle.rules.specs.Pack.{laid, part, packs, packed, verdict_number, packed_test, ending_number, packed_walk, packed_fields, Packs}
use Rattle.rules.proofs.SetLaws.{same-T}

-- ---- numbers side by side

unfoldable pub widths : List (ℕ × ℕ) → ℕ
widths [] = 0
widths (p ∷ ps) = p.0 + widths ps

-- the first is the low digits, the others the high ones
laid-digits : (w v : ℕ) (ps : List (ℕ × ℕ)) → laid ((w, v) ∷ ps) ≡ laid ps * 2 ^ w + v % 2 ^ w
unfolding laid
laid-digits w v ps = add_comm (v % 2 ^ w) (2 ^ w * laid ps) ∙ ap (λ (x : ℕ). x + v % 2 ^ w) (mul_comm (2 ^ w) (laid ps))

pub laid-first : (w v : ℕ) (ps : List (ℕ × ℕ)) → laid ((w, v) ∷ ps) % 2 ^ w ≡ v % 2 ^ w
laid-first w v ps = ap (λ (x : ℕ). x % 2 ^ w) (laid-digits w v ps) ∙ low (laid ps) w (mod-lt v (pow_pos w))

pub laid-rest : (w v : ℕ) (ps : List (ℕ × ℕ)) → laid ((w, v) ∷ ps) / 2 ^ w ≡ laid ps
laid-rest w v ps = ap (λ (x : ℕ). x / 2 ^ w) (laid-digits w v ps) ∙ high (laid ps) w (mod-lt v (pow_pos w))

pub laid-part : (ps : List (ℕ × ℕ)) (w v : ℕ) (qs : List (ℕ × ℕ)) → part (widths ps) w (laid (ps ++ ((w, v) ∷ qs))) ≡ v % 2 ^ w
unfolding part widths
laid-part [] w v qs = ap (λ (x : ℕ). x % 2 ^ w) (div-one (laid ((w, v) ∷ qs))) ∙ laid-first w v qs
laid-part (p ∷ ps) w v qs =
    ap (λ (x : ℕ). x % 2 ^ w) (sym (shr-shr (laid (p ∷ ps ++ ((w, v) ∷ qs))) p.0 (widths ps)) ∙ ap (λ (x : ℕ). x / 2 ^ widths ps) (laid-rest p.0 p.1 (ps ++ ((w, v) ∷ qs))))
    ∙ laid-part ps w v qs

pub laid-below : (ps : List (ℕ × ℕ)) → laid ps < 2 ^ widths ps
unfolding laid widths
laid-below [] = zero-lt-suc 0
laid-below (p ∷ ps) =
    let e : laid (p ∷ ps) ≡ laid ps * 2 ^ p.0 + p.1 % 2 ^ p.0 = laid-digits p.0 p.1 ps in
    rw (pow-add, mul_comm (2 ^ p.0) (2 ^ widths ps), e) (digits_lt (laid-below ps) (mod-lt p.1 (pow_pos p.0)))

-- ---- an answer: the number, and above it the place or the parts

module _ (k q : ℕ) where
  pub packs-number : (ps : List (ℕ × ℕ)) → k < 2 ^ 8 → part 0 8 (packs k q ps) ≡ k
  unfolding packs widths
  packs-number ps l = laid-part [] 8 k (cond (eqb k 0) ps ((56, q) ∷ [])) ∙ mod-eq_of_lt l

  pub packs-place : (ps : List (ℕ × ℕ)) → ¬ (k ≡ 0) → part 8 56 (packs k q ps) ≡ q % 2 ^ 56
  unfolding packs widths
  packs-place ps h =
      let e : eqb k 0 ≡ false = same-T (eqb k 0) false (λ i. h (eqb→eq k 0 i)) (λ i. absurd i) in
      ap (λ (b : Bool). part 8 56 (laid ((8, k) ∷ cond b ps ((56, q) ∷ [])))) e ∙ laid-part ((8, k) ∷ []) 56 q []

  pub packs-part : (ps : List (ℕ × ℕ)) (w v : ℕ) (qs : List (ℕ × ℕ)) → k ≡ 0 → part (8 + widths ps) w (packs k q (ps ++ ((w, v) ∷ qs))) ≡ v % 2 ^ w
  unfolding packs widths
  packs-part ps w v qs e = ap (λ (x : ℕ). part (8 + widths ps) w (packs x q (ps ++ ((w, v) ∷ qs)))) e ∙ laid-part ((8, 0) ∷ ps) w v qs

  -- the C call's 64 bits hold it
  pub packs-below : (ps : List (ℕ × ℕ)) → widths ps ≤ 56 → packs k q ps < 2 ^ 64
  unfolding packs widths
  packs-below ps l = at (eqb k 0)
    where
      at : (b : Bool) → laid ((8, k) ∷ cond b ps ((56, q) ∷ [])) < 2 ^ 64
      at true = lt_of_lt_of_le (laid-below ((8, k) ∷ ps)) (pow_mono {j = 64} (omega arith))
      at false = laid-below ((8, k) ∷ (56, q) ∷ [])

-- n read: the number k, the place q where it refuses, the values Q where it accepts
pub record Read (k q : ℕ) (Q : ℕ → Type 0) (n : ℕ) : Type 0 where
  pub number : part 0 8 n ≡ k
  pub place : ¬ (k ≡ 0) → part 8 56 n ≡ q
  pub values : k ≡ 0 → Q n

reads : (k q : ℕ) (ps : List (ℕ × ℕ)) (Q : ℕ → Type 0) → k < 2 ^ 8 → (k ≡ 0 → Q (packs k q ps)) → Read k (q % 2 ^ 56) Q (packs k q ps)
reads k q ps Q l v = record { number = packs-number k q ps l; place = packs-place k q ps; values = v }

-- a place that fits comes back itself
exact : {k q : ℕ} {Q : ℕ → Type 0} {n : ℕ} → q < 2 ^ 56 → Read k (q % 2 ^ 56) Q n → Read k q Q n
exact l h = record { number = h.number; place = λ e. h.place e ∙ mod-eq_of_lt l; values = h.values }

-- what is packed is read
pub packs-read : {A : Type 0} (pack : A → ℕ) (P : A → Type 0) (R : A → ℕ → Type 0) → ((x : A) → P x → R x (pack x)) → (n : ℕ) (h : Packs pack P n) → R h.answer n
packs-read pack P R f n h = subst (R h.answer) (sym h.is) (f h.answer h.so)

-- ---- the four kinds of answer, part by part

abbrev pub Unpacked : Answer → ℕ → Type 0
Unpacked r = Read r.number r.place (λ n. (part 8 8 n ≡ r.distance) × (part 16 24 n ≡ r.count) × (part 40 24 n ≡ r.tries))

-- the number and the values fit their bits, and the place is at most m
pub record Fits (m : ℕ) (r : Answer) : Type 0 where
  pub number : r.number < 2 ^ 8
  pub place : r.place ≤ m
  pub values : r.number ≡ 0 → (r.distance < 2 ^ 8) × (r.count < 2 ^ 24) × (r.tries < 2 ^ 24)

pub fits-unpacked : (m : ℕ) → m < 2 ^ 56 → (r : Answer) → Fits m r → Unpacked r (packed r)
unfolding packed widths
fits-unpacked m l r h =
    let p = h.place in
    exact (omega arith) (reads r.number r.place ((8, r.distance) ∷ (24, r.count) ∷ (24, r.tries) ∷ []) _ h.number (λ e. (
      packs-part r.number r.place [] 8 r.distance ((24, r.count) ∷ (24, r.tries) ∷ []) e ∙ mod-eq_of_lt (h.values e).0,
      packs-part r.number r.place ((8, r.distance) ∷ []) 24 r.count ((24, r.tries) ∷ []) e ∙ mod-eq_of_lt (h.values e).1,
      packs-part r.number r.place ((8, r.distance) ∷ (24, r.count) ∷ []) 24 r.tries [] e ∙ mod-eq_of_lt (h.values e).2,
    )))

abbrev pub UnpackedTest : TestAnswer → ℕ → Type 0
UnpackedTest r = Read r.answer.number r.answer.place (λ n. part 8 8 n ≡ verdict_number r.says)

verdict-fits : (v : Verdict) → verdict_number v < 2 ^ 8
unfolding verdict_number
verdict-fits Neither = omega arith
verdict-fits No = omega arith
verdict-fits Yes = omega arith

-- the verdict that a number tells, 1 for yes and 2 for no: none is packed as another
unfoldable pub verdict_of : ℕ → Verdict
verdict_of k = cond (eqb k 1) Yes (cond (eqb k 2) No Neither)

pub verdict-reads : (v : Verdict) → verdict_of (verdict_number v) ≡ v
unfolding verdict_of verdict_number
verdict-reads Neither = refl
verdict-reads No = refl
verdict-reads Yes = refl

pub test-unpacked : (r : TestAnswer) → r.answer.number < 2 ^ 8 → r.answer.place < 2 ^ 56 → UnpackedTest r (packed_test r)
unfolding packed_test widths
test-unpacked r l m =
    exact m (reads r.answer.number r.answer.place ((8, verdict_number r.says) ∷ []) _ l (λ e.
    packs-part r.answer.number r.answer.place [] 8 (verdict_number r.says) [] e ∙ mod-eq_of_lt (verdict-fits r.says)))

abbrev pub UnpackedWalk : WalkAnswer → ℕ → Type 0
UnpackedWalk r = Read r.number r.place (λ n. (part 8 8 n ≡ ending_number r.ending) × (part 16 16 n ≡ r.at) × (part 32 8 n ≡ r.hops) × (part 40 8 n ≡ r.left))

ending-fits : (e : Ending) → ending_number e < 2 ^ 8
unfolding ending_number
ending-fits None = omega arith
ending-fits Delivered = omega arith
ending-fits Leftover = omega arith
ending-fits Empty = omega arith
ending-fits Off = omega arith
ending-fits Short = omega arith

-- the ending that a number tells, in 01's order from 1 on: none is packed as another
unfoldable pub ending_of : ℕ → Ending
ending_of k = cond (eqb k 1) Delivered (cond (eqb k 2) Leftover (cond (eqb k 3) Empty (cond (eqb k 4) Off (cond (eqb k 5) Short None))))

pub ending-reads : (e : Ending) → ending_of (ending_number e) ≡ e
unfolding ending_of ending_number
ending-reads None = refl
ending-reads Delivered = refl
ending-reads Leftover = refl
ending-reads Empty = refl
ending-reads Off = refl
ending-reads Short = refl

pub walk-unpacked : (r : WalkAnswer) → r.number < 2 ^ 8 → r.place < 2 ^ 56 → (r.number ≡ 0 → (r.at < 2 ^ 16) × (r.hops < 2 ^ 8) × (r.left < 2 ^ 8)) → UnpackedWalk r (packed_walk r)
unfolding packed_walk widths
walk-unpacked r l m h =
    let a = ending_number r.ending in
    exact m (reads r.number r.place ((8, a) ∷ (16, r.at) ∷ (8, r.hops) ∷ (8, r.left) ∷ []) _ l (λ e. (
      packs-part r.number r.place [] 8 a ((16, r.at) ∷ (8, r.hops) ∷ (8, r.left) ∷ []) e ∙ mod-eq_of_lt (ending-fits r.ending),
      packs-part r.number r.place ((8, a) ∷ []) 16 r.at ((8, r.hops) ∷ (8, r.left) ∷ []) e ∙ mod-eq_of_lt (h e).0,
      packs-part r.number r.place ((8, a) ∷ (16, r.at) ∷ []) 8 r.hops ((8, r.left) ∷ []) e ∙ mod-eq_of_lt (h e).1,
      packs-part r.number r.place ((8, a) ∷ (16, r.at) ∷ (8, r.hops) ∷ []) 8 r.left [] e ∙ mod-eq_of_lt (h e).2,
    )))

-- the place is that of a field, anywhere in the input: of it 56 bits come back
abbrev pub UnpackedFields : FieldAnswer → ℕ → Type 0
UnpackedFields r = Read r.number (r.place % 2 ^ 56) (λ n. (part 8 8 n ≡ r.switches) × (part 16 48 n ≡ r.pairs))

pub fields-unpacked : (r : FieldAnswer) → r.number < 2 ^ 8 → (r.number ≡ 0 → (r.switches < 2 ^ 8) × (r.pairs < 2 ^ 48)) → UnpackedFields r (packed_fields r)
unfolding packed_fields widths
fields-unpacked r l h =
    reads r.number r.place ((8, r.switches) ∷ (48, r.pairs) ∷ []) _ l (λ e. (
      packs-part r.number r.place [] 8 r.switches ((48, r.pairs) ∷ []) e ∙ mod-eq_of_lt (h e).0,
      packs-part r.number r.place ((8, r.switches) ∷ []) 48 r.pairs [] e ∙ mod-eq_of_lt (h e).1,
    ))
