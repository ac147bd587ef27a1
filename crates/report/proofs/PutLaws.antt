-- Texts put one behind the other are one text: what the first left before its end is kept, and what it left behind is what the second
-- found. Assumes nothing.
use Prim.Native.Nat.{ℕ, ◌+◌, ◌≤◌}
use native.Mathlib.Nat.{add-zero}
use native.Mathlib.Omega.{arith}
use mathlib.Core.Path.{◌≡◌, sym, ap, ap₂, ◌∙◌}
use mathlib.Core.List.{List, [], ◌++◌, append_assoc}
use lib.ListN.{length, take, drop, length-append, length-drop, take-append-drop}
use lib.Seq.{take_at, drop_at, drop-drop, length-take-le}
use Rattle.report.specs.Put.{Put}

-- nothing put
pub put-none : (at : ℕ) (e : List ℕ) → Put [] at e e at
put-none at e = record { end = sym (add-zero at); memory = sym (ap (λ (n : ℕ). take at e ++ drop n e) (add-zero at) ∙ take-append-drop at e) }

module _ {s : List ℕ} {at : ℕ} {e o : List ℕ} {m : ℕ} (h : Put s at e o m) (l : m ≤ length e) where
  front : length (take at e ++ s) ≡ m
  front = let a = length-take-le at e (let q = h.end in omega arith) in simp length-append (let q = h.end in omega arith)

  memory-is : o ≡ (take at e ++ s) ++ drop m e
  memory-is = h.memory ∙ sym (append_assoc (take at e) s _) ∙ ap (λ (n : ℕ). (take at e ++ s) ++ drop n e) (sym h.end)

  pub put-length : length o ≡ length e
  put-length = ap length memory-is ∙ length-append (take at e ++ s) (drop m e) ∙ (let a = front in let b = length-drop m e in omega arith)

  pub put-more : {t p : List ℕ} {r : ℕ} → Put t m o p r → Put (s ++ t) at e p r
  put-more {t} {p} {r} k = record { end = k.end ∙ sums; memory = k.memory ∙ ap₂ (λ (x y : List ℕ). x ++ (t ++ y)) kept rest ∙ append_assoc (take at e) s (t ++ after) ∙ ap (λ (x : List ℕ). take at e ++ x) (sym (append_assoc s t after)) }
    where
      after : List ℕ
      after = drop (at + length (s ++ t)) e

      sums : m + length t ≡ at + length (s ++ t)
      sums = simp length-append (let q = h.end in omega arith)

      kept : take m o ≡ take at e ++ s
      kept = ap (take m) memory-is ∙ take_at (take at e ++ s) (drop m e) m front

      rest : drop (m + length t) o ≡ after
      rest =
          sym (drop-drop (length t) m o) ∙ ap (drop (length t)) (ap (drop m) memory-is ∙ drop_at (take at e ++ s) (drop m e) m front) ∙ drop-drop (length t) m e
          ∙ ap (λ (n : ℕ). drop n e) sums
