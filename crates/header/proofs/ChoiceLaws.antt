-- The step from a choice w among the ports c to the next. With the ports outside filled in, d, one more carries over them into the next port
-- of c, and no choice lies between. Assumes nothing.
use Prim.Native.Nat.{ℕ, zero, suc, ◌+◌, ◌*◌, ◌-◌, ◌/◌, ◌%◌, ◌^◌, ◌≤◌, ◌<◌, min, max}
use native.Mathlib.Nat.{le_refl, le_trans, le_of_eq, pow-suc}
use native.Mathlib.Decide.{dec_lt}
use native.Mathlib.Omega.{arith}
use mathlib.Core.Path.{◌≡◌, refl, sym, ap, ◌∙◌, subst}
use mathlib.Core.Bool.{Bool, true, false, ◌||◌}
use lib.Dec.{T, eqb, ltb, eqb→eq, lt→ltb}
use lib.Bits.{bit_and, bit_or, and_step, or_step, or_add_and, or_disjoint, and_le_r, and_zero_l}
use Rattle.rules.specs.Sets.{has, within}
use Rattle.rules.specs.Tries.{choice}
use Rattle.rules.proofs.SetLaws.{T_and, and_i, T_true, true-T, eq-T, same, has-and, has-or, in_within, least-is, least-one}
use Rattle.header.specs.Search.{next_choice}

-- ---- the parts of a number inside c and outside, in d

parts : (n x c d : ℕ) → x < 2 ^ n → suc (c + d) ≡ 2 ^ n → bit_and x c + bit_and x d ≡ x
parts zero x c d l e = let z : x ≡ 0 = omega arith in rw (z, and_zero_l c, and_zero_l d)
parts (suc n) x c d l e =
    let two = pow-suc 2 n in
    let odd : c % 2 + d % 2 ≡ 1 = omega arith in
    let low : min (x % 2) (c % 2) + min (x % 2) (d % 2) ≡ x % 2 = omega arith in
    let ih = parts n (x / 2) (c / 2) (d / 2) (omega arith) (omega arith) in
    let i = and_step x c in
    let j = and_step x d in
    sum i j low ih
  where
    sum : bit_and x c ≡ bit_and (x / 2) (c / 2) * 2 + min (x % 2) (c % 2) → bit_and x d ≡ bit_and (x / 2) (d / 2) * 2 + min (x % 2) (d % 2)
        → min (x % 2) (c % 2) + min (x % 2) (d % 2) ≡ x % 2 → bit_and (x / 2) (c / 2) + bit_and (x / 2) (d / 2) ≡ x / 2 → bit_and x c + bit_and x d ≡ x
    sum i j k h = omega arith

-- ---- the carry

-- above e, which holds d, the least number that holds d
carry : (n d e y : ℕ) → y < 2 ^ n → bit_or e d ≡ e → bit_or y d ≡ y → e < y → bit_or (suc e) d ≤ y
carry zero d e y l p q h = absurd (omega arith)
carry (suc n) d e y l p q h =
    let two = pow-suc 2 n in
    let i = or_step e d in
    let j = or_step y d in
    at (dec_lt 0 (e % 2)) (carry n (d / 2) (e / 2) (y / 2) (omega arith) (omega arith) (omega arith))
  where
    at : Dec (0 < e % 2) → (e / 2 < y / 2 → bit_or (suc (e / 2)) (d / 2) ≤ y / 2) → bit_or (suc e) d ≤ y
    at (yes o) ih =
        let half : suc e / 2 ≡ suc (e / 2) = omega arith in
        let k = or_step (suc e) d ∙ ap (λ (x : ℕ). bit_or x (d / 2) * 2 + max (suc e % 2) (d % 2)) half in
        omega (arith, ih (omega arith), or_step y d)
    at (no o) ih =
        let half : suc e / 2 ≡ e / 2 = omega arith in
        let k = or_step (suc e) d ∙ ap (λ (x : ℕ). bit_or x (d / 2) * 2 + max (suc e % 2) (d % 2)) half in
        omega (arith, or_step e d)

pub choice-part : (w c : ℕ) → T (choice w c) → within w c ≡ true
unfolding choice
choice-part w c h = true-T (within w c) (T_and (ltb 0 w) (within w c) h).1

pub none_part : (c : ℕ) → within 0 c ≡ true
unfolding within
none_part c = true-T (eqb (bit_and 0 c) 0) (eq-T (bit_and 0 c) 0 (and_zero_l c))

pub part_le : (w c : ℕ) → within w c ≡ true → w ≤ c
unfolding within
part_le w c e = le_trans (le_of_eq (sym (eqb→eq (bit_and w c) w (T_true e)))) (and_le_r w c)

pub part_and : (a c : ℕ) → within (bit_and a c) c ≡ true
part_and a c = true-T (within (bit_and a c) c) ((in_within (bit_and a c) c).1 (λ s h. (T_and (has s a) (has s c) (subst T (has-and s a c) h)).1))

-- ---- the step

-- x, where no choice from v on lies below it
least-choice : (v c x : ℕ) → v ≤ x → x ≤ 256 → ((u : ℕ) → v ≤ u → u < x → T (choice u c) → ⊥) → (x < 256 → T (choice x c)) → x ≡ next_choice v c
unfolding next_choice
least-choice v c x low high none hit =
    let e : v + (x - v) ≡ x = omega arith in
    sym e ∙ ap (λ (k : ℕ). v + k) (least-one (record {
      bound = omega arith;
      before = λ j l. none (v + j) (omega arith) (omega arith);
      hit = λ l. subst (λ (u : ℕ). T (choice u c)) (sym e) (hit (omega arith));
    }) (least-is (256 - v) (λ k. choice (v + k) c)))

module _ (w c : ℕ) (byte : c < 256) where
  -- all ports are the last choice
  pub step_last : w ≡ c → next_choice (w + 1) c ≡ 256
  step_last e = sym (least-choice (w + 1) c 256 (omega arith) (le_refl 256)
      (λ u l _ h. let k = part_le u c (choice-part u c h) in omega arith) (λ h. absurd (omega arith)))

  module _ (part : within w c ≡ true) (more : w ≡ c → ⊥) where
    d : ℕ
    d = 255 - c

    filled : (v : ℕ) → within v c ≡ true → bit_or v d ≡ v + d
    unfolding within d
    filled v e =
        let i = eqb→eq (bit_and v c) v (T_true e) in
        let p = parts 8 v c (255 - c) (let l = part_le v c e in omega arith) (omega arith) in
        or_disjoint v (255 - c) (omega arith)

    twice : (v : ℕ) → bit_or (bit_or v d) d ≡ bit_or v d
    twice v = same (bit_or (bit_or v d) d) (bit_or v d) (λ s. has-or s (bit_or v d) d ∙ ap (λ (b : Bool). b || has s d) (has-or s v d) ∙ at (has s v) (has s d) ∙ sym (has-or s v d))
      where
        at : (a b : Bool) → ((a || b) || b) ≡ (a || b)
        at true b = refl
        at false true = refl
        at false false = refl

    a : ℕ
    a = suc (bit_or w d)

    -- the part of it inside, and the ports outside
    inside : (a ≡ w + 256 - c) × (bit_and a c + d ≡ bit_or a d)
    unfolding a d
    inside =
        let l = part_le w c part in
        let f = filled w part in
        let e : suc (bit_or w (255 - c)) ≡ w + 256 - c = omega arith in
        let p = parts 8 (suc (bit_or w (255 - c))) c (255 - c) (omega arith) (omega arith) in
        let q = or_add_and (suc (bit_or w (255 - c))) (255 - c) in
        (e, omega arith)

    above : w < bit_and a c
    unfolding a d
    above =
        let f = filled w part in
        let q = or_add_and (suc (bit_or w (255 - c))) (255 - c) in
        let r = and_le_r (suc (bit_or w (255 - c))) (255 - c) in
        omega (arith, inside.1)

    first : (v : ℕ) → T (choice v c) → w < v → bit_and a c ≤ v
    unfolding a d
    first v h l =
        let k = part_le v c (choice-part v c h) in
        let f = filled w part in
        let g = filled v (choice-part v c h) in
        let i = carry 8 (255 - c) (bit_or w (255 - c)) (bit_or v (255 - c)) (omega arith) (twice w) (twice v) (omega arith) in
        omega (arith, inside.1)

    -- as the code makes it, modulo 256
    wraps : a ≡ (w + (256 - c)) % 256
    wraps = let l = part_le w c part in inside.0 ∙ (let e : w + 256 - c ≡ (w + (256 - c)) % 256 = omega arith in e)

    pub goes_on : c - bit_and ((w + (256 - c)) % 256) c < c - w
    goes_on = let l : w < bit_and ((w + (256 - c)) % 256) c = subst (λ (x : ℕ). w < bit_and x c) wraps above in let r = and_le_r ((w + (256 - c)) % 256) c in omega arith

    pub step_next : bit_and ((w + (256 - c)) % 256) c ≡ next_choice (w + 1) c
    unfolding choice
    step_next = subst (λ (x : ℕ). bit_and x c ≡ next_choice (w + 1) c) wraps (least-choice (w + 1) c (bit_and a c)
        (omega (arith, above)) (let m = and_le_r a c in omega arith) (λ u l k h. let m = first u h (omega arith) in omega arith)
        (λ _. and_i (ltb 0 (bit_and a c)) (within (bit_and a c) c) (lt→ltb 0 (bit_and a c) (omega (arith, above))) (T_true (part_and a c))))
