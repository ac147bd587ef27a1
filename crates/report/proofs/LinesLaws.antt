-- The lines of all pairs, one behind the other after the heading: no line is longer than 55 bytes, and an input has at most 9,362 pairs, so
-- there is room for every line. Assumes nothing.
use Prim.Native.Nat.{ℕ, ◌+◌, ◌-◌, ◌*◌, ◌/◌, ◌≤◌, ◌<◌}
use native.Mathlib.Omega.{arith}
use mathlib.Core.Path.{◌≡◌, refl, ap, ap₂, ◌∙◌, subst, subst₂}
use mathlib.Core.List.{List, [], ◌++◌}
use lib.ListN.{length}
use borrow.Author.Tests.{le-leb}
use Rattle.rules.specs.Sets.{tabulate}
use Rattle.rules.specs.Table.{house}
use Rattle.rules.specs.Fields.{two}
use Rattle.rules.specs.Print.{ascii, heading}
use Rattle.rules.specs.Text.{lines}
use Rattle.rules.specs.RunFields.{rows, pairs, entries, pair_line}
use Rattle.rules.specs.RunText.{line_at, good_text}
use Rattle.fields.specs.declared.Ends.{Ends}
use Rattle.fields.specs.Pairs.{pair_at}
use Rattle.report.specs.Put.{Put, Ready}
use Rattle.report.proofs.PutLaws.{put-none, put-more, put-length}
use Rattle.report.proofs.RunLaws.{Run, run_none, run_more}

-- i lines are put, from the offset `start` on
pub record Lined (b e : List ℕ) (start n : ℕ) (o : List ℕ) (at i : ℕ) : Type 0 where
  pub few : i ≤ n
  pub low : at ≤ start + 55 * i
  pub run : Run [] (line_at house b) start e o at i

heading-long : length heading ≡ 35
unfolding heading ascii tabulate
heading-long = refl

module _ (b t : List ℕ) (from : ℕ) (h : Ready b t from) where
  -- as many pairs as the code counts
  abbrev pub count : ℕ
  count = (length b - from) / 7

  count-is : count ≡ pairs b 64
  count-is = let e = h.ends in omega arith

  count_low : count ≤ 9362
  count_low = let e = h.ends in let l = h.short in omega arith

  -- the fields of pair i stand at 7 * i behind the first
  pub pair_inside : (i : ℕ) → i < count → from + 7 * i + 7 ≤ length b
  pair_inside i l = let e = h.ends in omega arith

  line-at : (i : ℕ) → i < count → (x : Ends) → x ≡ pair_at b (from + 7 * i) → pair_line house t x.source x.target ≡ line_at house b i
  unfolding line_at pair_at
  line-at i l x e =
      let k : x ≡ record { source = two b (from + 7 * i + 3); target = two b (from + 7 * i + 5) } = e ∙ simp (le-leb _ _ (pair_inside i l)) in
      let f = ap (λ (q : ℕ). q + 7 * i) h.starts in
      ap₂ (λ (t : List ℕ) (x : Ends). pair_line house t x.source x.target) h.table k
      ∙ ap (λ (q : ℕ). pair_line house (entries b (rows b 64)) (two b (q + 3)) (two b (q + 5))) f

  -- the heading s is put, and leaves e
  module _ (lent s e : List ℕ) (first start : ℕ) (zero : first ≡ 0) (room : 524288 ≤ length lent) (is : s ≡ heading) (put : Put s first lent e start) where
    start_is : start ≡ 35
    start_is = let l = heading-long in let k = put.end in let q = ap length is in omega arith

    kept : length e ≡ length lent
    kept = let l = start_is in put-length put (omega arith)

    pub lined-none : Lined b e start count e start 0
    lined-none = let l = start_is in let k = kept in record { few = omega arith; low = omega arith; run = run_none [] (line_at house b) start e e start (put-none start e) (omega arith) }

    module _ (o : List ℕ) (at i : ℕ) (k : Lined b e start count o at i) where
      pub lined-room : i < count → at + 55 ≤ length o
      lined-room l = let c = count_low in let w = k.low in let q = k.run.long in let u = start_is in let v = kept in omega arith

      pub lined-more : i < count → (x : Ends) → x ≡ pair_at b (from + 7 * i) → (p : List ℕ) (r : ℕ) → Put (pair_line house t x.source x.target) at o p r × (r ≤ at + 55)
          → Lined b e start count p r (i + 1)
      lined-more l x q p r g =
          let c = count_low in let w = k.low in let v = g.1 in let u = start_is in let z = kept in
          let here = subst (λ (s : List ℕ). Put s at o p r) (line-at i l x q) g.0 in
          record { few = omega arith; low = omega arith; run = run_more [] (line_at house b) start e o at i k.run p r (omega arith) (omega arith) here }

      pub lined-all : count ≤ i → Put (good_text house b) first lent o at × (length o ≡ length lent)
      unfolding good_text
      lined-all l =
          let w = k.few in let c = count-is in let u = start_is in
          let q : i ≡ pairs b 64 = omega arith in
          (subst₂ (λ (s : List ℕ) (n : ℕ). Put (s ++ lines n (line_at house b)) first lent o at) is q (put-more put (omega arith) k.run.so), k.run.long ∙ kept)
