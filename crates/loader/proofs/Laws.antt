-- How a packed number is made of its parts: the number 0 adds nothing below the parts, and any other stands below its place. And the two
-- ways of header issue over fields: a field that is no row, or the table of all rows. Assumes nothing.
use Prim.Native.Nat.{ℕ, ◌+◌, ◌*◌, ◌≤◌, ◌<◌}
use native.Mathlib.Omega.{arith}
use mathlib.Core.Path.{◌≡◌, refl, sym, ap, ◌∙◌, subst}
use mathlib.Core.List.{List, [], ◌∷◌}
use lib.ListN.{length, take}
use borrow.Author.Tests.{eq-eqb, ne_eqb, lt-ltb, le-ltb}
use Rattle.std.specs.Prelude.{Ok, Err}
use Rattle.rules.specs.declared.Refusal.{Refusal}
use Rattle.rules.specs.declared.ReadFields.{ReadFields}
use Rattle.rules.specs.Answers.{number, place, Judgement, Answer, FieldAnswer, issued, filled}
use Rattle.rules.proofs.Answers.{number-some}
use Rattle.rules.specs.Table.{house}
use Rattle.rules.specs.Promise.{Issued}
use Rattle.rules.specs.Fields.{Loaded}
use Rattle.rules.specs.Pack.{laid, packs, packed, Packs}
use Rattle.rules.specs.Look.{first, pick}
use Rattle.rules.specs.RunFields.{rows, entries, look12, call_judgement}
use Rattle.rules.proofs.Doors.{loaded-bad, loaded-good}
use Rattle.fields.specs.Rows.{rows_of, rows_memory}
use Rattle.rules.proofs.FieldLaws.{rows_few}
use Rattle.fields.proofs.ReadLaws.{rows-refused, rows-read, table_taken}

module _ (k q n : ℕ) (parts : List (ℕ × ℕ)) where
  pub packs-refused : ¬ (k ≡ 0) → n ≡ laid ((8, k) ∷ (56, q) ∷ []) → n ≡ packs k q parts
  unfolding packs
  packs-refused h e = simp (ne_eqb k 0 h) e

  pub packs-made : k ≡ 0 → n ≡ 256 * laid parts → n ≡ packs k q parts
  unfolding packs laid
  packs-made h e = simp (eq-eqb k 0 h) (omega arith)

-- the same of a refusal, and of values behind the number 0
module _ (n : ℕ) (parts : List (ℕ × ℕ)) where
  pub packs-refusal : (e : Refusal) → n ≡ laid ((8, number e) ∷ (56, place e) ∷ []) → n ≡ packs (number e) (place e) parts
  packs-refusal e h = let l = number-some e in packs-refused (number e) (place e) n parts (λ z. omega arith) h

  pub packs-values : n ≡ laid ((8, 0) ∷ parts) → n ≡ packs 0 0 parts
  unfolding laid
  packs-values e = packs-made 0 0 n parts refl (omega arith)

-- ---- header issue over fields: what `read_rows` gave, and left in the table t

module _ (b lent : List ℕ) (room : 512 ≤ length lent) (a d : ℕ) (out : List ℕ) (t : List ℕ) where
  -- the judgement of the call is that of its fields
  call-short : 19 * rows b 64 + 7 * 0 < length b → call_judgement b house ≡ record { number = 12; place = 19 * rows b 64 + 7 * 0 }
  unfolding call_judgement look12 first pick
  call-short l = simp (lt-ltb _ _ l)

  call-whole : length b ≤ 19 * rows b 64 + 7 * 0 → (call_judgement b house).number ≡ 0
  unfolding call_judgement look12 first pick
  call-whole l = simp (le-ltb _ _ l)

  pub load-refused : (e : Refusal) → filled (Err e) ≡ rows_of house b lent → t ≡ rows_memory house b lent → Loaded house b a d out (issued (Err e)) out
  load-refused e r m =
      let some = number-some e in
      let k = rows-refused b lent room (filled (Err e)) t r m (λ z. omega arith) in
      let c = call-short k.before in
      let f : number e ≡ (call_judgement b house).number = k.number ∙ sym (ap (λ (j : Judgement). j.number) c) in
      let g : place e ≡ (call_judgement b house).place = k.place ∙ sym (ap (λ (j : Judgement). j.place) c) in
      loaded-bad house b a d out _ (λ z. let n = f in omega arith) f g (record { distance = refl; count = refl; tries = refl })

  module _ (f : ReadFields) (r : filled (Ok f) ≡ rows_of house b lent) (m : t ≡ rows_memory house b lent) where
    -- all rows are within the table
    pub load-within : length t ≡ length lent → 8 * f.switches ≤ length t
    load-within l = let k = rows_few b 64 in let g = (rows-read b lent room (filled (Ok f)) t r m refl).switches in omega arith

    pub load-issued : (x : Answer) (o : List ℕ) → Issued house (take (8 * f.switches) t) a d out x o → Loaded house b a d out x o
    load-issued x o i =
        let u = rows-read b lent room (filled (Ok f)) t r m refl in
        let v : take (8 * f.switches) t ≡ entries b (rows b 64) = ap (take (8 * f.switches)) u.table ∙ table_taken b lent (8 * f.switches) (ap (λ (k : ℕ). 8 * k) u.switches) in
        loaded-good house b a d out x o (call-whole u.whole) (subst (λ (t : List ℕ). Issued house t a d out x o) v i)

-- ---- the same of any numbers that are what `read_rows` gives

module _ (b lent : List ℕ) (room : 512 ≤ length lent) (a d : ℕ) (out : List ℕ) (r : FieldAnswer) (t : List ℕ) (read : (r ≡ rows_of house b lent) × (t ≡ rows_memory house b lent)) where
  pub header_refused : (n : ℕ) → ¬ (r.number ≡ 0) → n ≡ laid ((8, r.number) ∷ (56, r.place) ∷ []) → Packs packed (λ x. Loaded house b a d out x out) n
  unfolding packed
  header_refused n h e =
      let k = rows-refused b lent room r t read.0 read.1 h in
      let c = call-short b lent room a d out t k.before in
      let f : r.number ≡ (call_judgement b house).number = k.number ∙ sym (ap (λ (j : Judgement). j.number) c) in
      let g : r.place ≡ (call_judgement b house).place = k.place ∙ sym (ap (λ (j : Judgement). j.place) c) in
      record {
        answer = record { number = r.number; place = r.place; distance = 0; count = 0; tries = 0 };
        so = loaded-bad house b a d out _ (λ z. h (f ∙ z)) f g (record { distance = refl; count = refl; tries = refl });
        is = packs-refused r.number r.place n ((8, 0) ∷ (24, 0) ∷ (24, 0) ∷ []) h e;
      }

  pub header-issued : (k m n : ℕ) (x : Answer) (o : List ℕ) → r.number ≡ 0 → k ≡ r.switches → m ≡ 8 * k → Issued house (take m t) a d out x o → n ≡ packed x → Packs packed (λ x. Loaded house b a d out x o) n
  header-issued k m n x o h e f i p =
      let u = rows-read b lent room r t read.0 read.1 h in
      let v : take m t ≡ entries b (rows b 64) = ap (take m) u.table ∙ table_taken b lent m (f ∙ ap (λ (k : ℕ). 8 * k) (e ∙ u.switches)) in
      record { answer = x; so = loaded-good house b a d out x o (call-whole b lent room a d out t u.whole) (subst (λ (t : List ℕ). Issued house t a d out x o) v i); is = p }
