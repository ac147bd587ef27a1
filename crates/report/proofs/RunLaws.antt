-- Texts put in a loop, behind a first one: after i turns the first text and the i lines behind it are put, and there is room for the next
-- where there is room for all. Assumes nothing.
use Prim.Native.Nat.{ℕ, zero, suc, ◌+◌, ◌≤◌, ◌<◌}
use native.Mathlib.Decide.{ℕ_discrete}
use native.Mathlib.Omega.{arith}
use mathlib.Core.Path.{◌≡◌, sym, ap, ◌∙◌, subst}
use mathlib.Core.List.{List, [], ◌++◌, append-nil, append_assoc}
use lib.ListN.{length, get_or, length-append}
use Rattle.rules.specs.Text.{lines}
use Rattle.rules.proofs.Texts.{lines_more}
use Rattle.report.specs.Put.{Put, spaced_number, spaced_numbers}
use Rattle.report.proofs.PutLaws.{put-none, put-more, put-length}

-- more lines are not shorter
pub lines-grow : (f : ℕ → List ℕ) (i n : ℕ) → i ≤ n → length (lines i f) ≤ length (lines n f)
lines-grow f i zero l = let e : i ≡ 0 = omega arith in subst (λ (k : ℕ). length (lines i f) ≤ length (lines k f)) e (omega arith)
lines-grow f i (suc n) l = at (ℕ_discrete i (suc n)) (λ k. lines-grow f i n k)
  where
    at : Dec (i ≡ suc n) → (i ≤ n → length (lines i f) ≤ length (lines n f)) → length (lines i f) ≤ length (lines (suc n) f)
    at (yes e) below = subst (λ (k : ℕ). length (lines i f) ≤ length (lines k f)) e (omega arith)
    at (no e) below =
        let h = below (omega arith) in
        let k = ap length (lines_more n f) ∙ length-append (lines n f) (f n) in
        omega arith

pub record Run (s : List ℕ) (f : ℕ → List ℕ) (at : ℕ) (e o : List ℕ) (end i : ℕ) : Type 0 where
  pub long : length o ≡ length e
  pub so : Put (s ++ lines i f) at e o end

module _ (s : List ℕ) (f : ℕ → List ℕ) (at : ℕ) (e : List ℕ) where
  pub run_none : (o : List ℕ) (m : ℕ) → Put s at e o m → m ≤ length e → Run s f at e o m 0
  unfolding lines
  run_none o m h l = record { long = put-length h l; so = subst (λ (t : List ℕ). Put t at e o m) (sym (append-nil s)) h }

  module _ (o : List ℕ) (end i : ℕ) (h : Run s f at e o end i) where
    pub run_end : end ≡ at + (length s + length (lines i f))
    run_end = h.so.end ∙ ap (λ (n : ℕ). at + n) (length-append s (lines i f))

    pub run_more : (p : List ℕ) (r : ℕ) → end ≤ length e → r ≤ length e → Put (f i) end o p r → Run s f at e p r (i + 1)
    run_more p r l m k =
        let q = h.long in
        let more : suc i ≡ i + 1 = omega arith in
        record {
          long = put-length k (omega arith) ∙ q;
          so = subst (λ (t : List ℕ). Put t at e p r) (append_assoc s (lines i f) (f i) ∙ ap (λ (t : List ℕ). s ++ t) (sym (lines_more i f) ∙ ap (λ (n : ℕ). lines n f) more)) (put-more h.so l k);
        }

    -- where all n lines fit, the next does
    module _ (n : ℕ) (l : i < n) (room : at + (length s + length (lines n f)) ≤ length e) where
      run_room : end + length (f i) ≤ length e
      run_room =
          let g = lines-grow f (suc i) n l in
          let k = ap length (lines_more i f) ∙ length-append (lines i f) (f i) in
          let q = run_end in
          omega arith

      pub run_fits : end + length (f i) ≤ length o
      run_fits = let q = h.long in let r = run_room in omega arith

      pub run_next : (p : List ℕ) (r : ℕ) → Put (f i) end o p r → Run s f at e p r (i + 1)
      run_next p r k = let q = run_room in let u = k.end in run_more p r (omega arith) (omega arith) k

-- ---- numbers, a space behind each

module _ (ns : List ℕ) (at : ℕ) (e : List ℕ) where
  abbrev pub number_at : ℕ → List ℕ
  number_at i = spaced_number (get_or ns i 0)

  pub numbers_room : at + length (spaced_numbers ns) ≤ length e → at + (length {A = ℕ} [] + length (lines (length ns) number_at)) ≤ length e
  unfolding spaced_numbers
  numbers_room l = omega arith

  pub numbers_none : at + length (spaced_numbers ns) ≤ length e → Run [] number_at at e e at 0
  numbers_none l = run_none [] number_at at e e at (put-none at e) (omega arith)

  pub numbers_end : (o : List ℕ) (end : ℕ) → Run [] number_at at e o end (length ns) → Put (spaced_numbers ns) at e o end
  unfolding spaced_numbers
  numbers_end o end h = h.so
