-- What is learnt from a reader of fields by who lends it room for every table: 8 is then not given, so it refuses exactly where the fields
-- end before the input does, and else the table begins with the entries of all rows. Assumes nothing.
use Prim.Native.Nat.{ℕ, ◌+◌, ◌*◌, ◌≤◌, ◌<◌}
use mathlib.Core.Path.{◌≡◌, sym, ap, ◌∙◌}
use mathlib.Core.List.{List, ◌++◌}
use lib.ListN.{length, take, drop, replicate, length-replicate}
use lib.Seq.{take_at}
use native.Mathlib.Nat.{le_of_eq}
use native.Mathlib.Decide.{dec_le}
use native.Mathlib.Omega.{arith}
use borrow.Author.Tests.{lt-ltb, le-ltb}
use Rattle.rules.specs.Answers.{FieldAnswer}
use Rattle.rules.specs.Table.{house}
use Rattle.rules.specs.Fields.{Filled}
use Rattle.rules.specs.Look.{first, pick, when, accepted}
use Rattle.rules.specs.RunFields.{rows, pairs, entries, look12, fields_judgement, fields_of, fields_memory}
use Rattle.rules.proofs.FieldLaws.{entries-length}
use Rattle.rules.proofs.FieldPromises.{filled-met, filled-only}
use Rattle.fields.specs.Rows.{read_judgement, read_of, read_memory, rows_judgement, rows_of, rows_memory}

-- a table lent whole has room for every table
pub room : (x : ℕ) → 512 ≤ length (replicate 512 x)
room x = le_of_eq (sym (length-replicate 512 x))

-- ---- any reader whose fields end at the offset q

module _ (b out : List ℕ) (q : ℕ) where
  pub record Bad (r : FieldAnswer) : Type 0 where
    pub before : q < length b
    pub number : r.number ≡ 12
    pub place : r.place ≡ q

  pub record Good (r : FieldAnswer) (t : List ℕ) : Type 0 where
    pub whole : length b ≤ q
    pub switches : r.switches ≡ rows b 64
    pub pairs : r.pairs ≡ 19 * rows b 64
    pub table : t ≡ entries b (rows b 64) ++ drop (8 * rows b 64) out

  module _ (room : 512 ≤ length out) where
    short : q < length b → read_of house b out q ≡ record { number = 12; place = q; switches = 0; pairs = 0 }
    unfolding read_of read_judgement look12 first pick when accepted
    short l = simp (lt-ltb _ _ l)

    whole : length b ≤ q → (read_of house b out q ≡ record { number = 0; place = 0; switches = rows b 64; pairs = 19 * rows b 64 + 7 * 0 })
        × (read_memory house b out q ≡ entries b (rows b 64) ++ drop (8 * rows b 64) out)
    unfolding read_of read_memory read_judgement look12 first pick when accepted
    whole l = (simp (le-ltb _ _ l, le-ltb _ _ room), simp (le-ltb _ _ l, le-ltb _ _ room))

    -- it refuses, or it does not
    read-bad-at : (r : FieldAnswer) → r ≡ read_of house b out q → ¬ (r.number ≡ 0) → Bad r
    read-bad-at r e n = at (dec_le (length b) q)
      where
        at : Dec (length b ≤ q) → Bad r
        at (yes l) = absurd (n (ap (λ (x : FieldAnswer). x.number) (e ∙ (whole l).0)))
        at (no l) = let k = short (omega arith) in record { before = omega arith; number = ap (λ (x : FieldAnswer). x.number) (e ∙ k); place = ap (λ (x : FieldAnswer). x.place) (e ∙ k) }

    read-good-at : (r : FieldAnswer) (t : List ℕ) → r ≡ read_of house b out q → t ≡ read_memory house b out q → r.number ≡ 0 → Good r t
    read-good-at r t e m n = at (dec_le (length b) q)
      where
        at : Dec (length b ≤ q) → Good r t
        at (yes l) =
            let k = e ∙ (whole l).0 in
            record { whole = l; switches = ap (λ (x : FieldAnswer). x.switches) k; pairs = ap (λ (x : FieldAnswer). x.pairs) k ∙ omega arith; table = m ∙ (whole l).1 }
        at (no l) = let k : ◌≡◌ {A = ℕ} 0 12 = sym n ∙ ap (λ (x : FieldAnswer). x.number) (e ∙ short (omega arith)) in absurd (omega arith)

-- so the part lent on is the table of all rows
pub table_taken : (b out : List ℕ) (n : ℕ) → n ≡ 8 * rows b 64 → take n (entries b (rows b 64) ++ drop (8 * rows b 64) out) ≡ entries b (rows b 64)
table_taken b out n e = take_at (entries b (rows b 64)) (drop (8 * rows b 64) out) n (entries-length b (rows b 64) ∙ sym e)

-- ---- the two readers

module _ (b out : List ℕ) (room : 512 ≤ length out) (r : FieldAnswer) (t : List ℕ) where
  module _ (e : r ≡ rows_of house b out) (m : t ≡ rows_memory house b out) where
    pub rows-refused : ¬ (r.number ≡ 0) → Bad b out (19 * rows b 64 + 7 * 0) r
    unfolding rows_of rows_judgement read_of read_judgement
    rows-refused = read-bad-at b out (19 * rows b 64 + 7 * 0) room r e

    pub rows-read : r.number ≡ 0 → Good b out (19 * rows b 64 + 7 * 0) r t
    unfolding rows_of rows_memory rows_judgement read_of read_memory read_judgement
    rows-read = read-good-at b out (19 * rows b 64 + 7 * 0) room r t e m

  module _ (h : Filled house b out r t) where
    same : (r ≡ fields_of b house out) × (t ≡ fields_memory b house out)
    same = filled-only house b out r (fields_of b house out) t (fields_memory b house out) h (filled-met house b out)

    pub fields-refused : ¬ (r.number ≡ 0) → Bad b out (19 * rows b 64 + 7 * pairs b 64) r
    unfolding fields_of fields_judgement read_of read_judgement
    fields-refused = read-bad-at b out (19 * rows b 64 + 7 * pairs b 64) room r same.0

    pub fields_read : r.number ≡ 0 → Good b out (19 * rows b 64 + 7 * pairs b 64) r t
    unfolding fields_of fields_memory fields_judgement read_of read_memory read_judgement
    fields_read = read-good-at b out (19 * rows b 64 + 7 * pairs b 64) room r t same.0 same.1
