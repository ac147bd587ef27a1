-- The three texts for an input: it is too long, it has a bad field, or it has a line for each pair. Assumes nothing.
use Prim.Native.Nat.{ℕ, ◌*◌, ◌≤◌, ◌<◌}
use native.Mathlib.Decide.{dec_le}
use native.Mathlib.Omega.{arith}
use mathlib.Core.Path.{◌≡◌, refl, sym, ap, ◌∙◌}
use mathlib.Core.List.{List, ◌++◌}
use lib.ListN.{length, take, drop, length-append}
use Rattle.std.specs.Prelude.{Ok, Err}
use Rattle.rules.specs.declared.Refusal.{Refusal}
use Rattle.rules.specs.declared.ReadFields.{ReadFields}
use Rattle.rules.specs.Answers.{place, filled}
use Rattle.rules.proofs.Answers.{number-some}
use Rattle.rules.specs.Table.{house}
use Rattle.rules.specs.Fields.{Filled}
use Rattle.rules.specs.Print.{too_long_text, bad_field_text}
use Rattle.rules.specs.Text.{Reported}
use Rattle.rules.specs.RunText.{text_of, good_text}
use Rattle.rules.proofs.Texts.{text-long, text-bad, text-good, reported-met, reported-short}
use Rattle.fields.proofs.Laws.{fields_within}
use Rattle.fields.proofs.ReadLaws.{fields-refused, fields_read, table_taken}
use Rattle.report.specs.Put.{Put, Ready}

module _ (b out : List ℕ) where
  pub report-none : length out < 524288 → Reported house b out 0 out
  report-none l = reported-short house b out 0 out l refl refl

  module _ (room : 524288 ≤ length out) where
    -- a text put at the start, where it is the input's
    report-text : (l o : List ℕ) (n : ℕ) → text_of house b ≡ l → Put l 0 out o n → Reported house b out n o
    report-text l o n e h =
        let k : n ≡ length l = h.end ∙ omega arith in
        let m : o ≡ l ++ drop n out = h.memory ∙ ap (λ (i : ℕ). l ++ drop i out) (sym h.end) in
        reported-met house b out n o room (k ∙ ap length (sym e)) (m ∙ ap (λ (l : List ℕ). l ++ drop n out) (sym e))

    pub report-long : (s o : List ℕ) (n : ℕ) → 65536 < length b → s ≡ too_long_text → Put s 0 out o n → Reported house b out n o
    report-long s o n l e h = report-text s o n (text-long house b l ∙ sym e) h

    -- what the reader of fields gave, and left in the table t
    module _ (lent : List ℕ) (space : 512 ≤ length lent) (t : List ℕ) (short : length b ≤ 65536) where
      pub report-bad : (e : Refusal) → Filled house b lent (filled (Err e)) t → (o : List ℕ) (n : ℕ) → Put (bad_field_text (place e)) 0 out o n → Reported house b out n o
      report-bad e read o n h =
          let k = fields-refused b lent space (filled (Err e)) t read (λ z. let l = number-some e in omega arith) in
          report-text (bad_field_text (place e)) o n (text-bad house b short k.before ∙ ap bad_field_text (sym k.place)) h

      module _ (f : ReadFields) (read : Filled house b lent (filled (Ok f)) t) where
        pub report-good : (o : List ℕ) (n : ℕ) → Put (good_text house b) 0 out o n → Reported house b out n o
        report-good o n h = report-text (good_text house b) o n (text-good house b short (fields_read b lent space (filled (Ok f)) t read refl).whole) h

        -- the part of the table that is lent on
        pub report-ready : Ready b (take (8 * f.switches) t) f.pairs
        report-ready =
            let g = fields_read b lent space (filled (Ok f)) t read refl in
            let p = g.pairs in let w = g.whole in let l = fields_within b in
            record {
              short = short;
              table = ap (take (8 * f.switches)) g.table ∙ table_taken b lent (8 * f.switches) (ap (λ (k : ℕ). 8 * k) g.switches);
              starts = p;
              ends = omega arith;
            }

-- the text is within the lent output
pub reported-within : (b out : List ℕ) (n : ℕ) (o : List ℕ) → Reported house b out n o → n ≤ length o
reported-within b out n o h = at (dec_le 524288 (length out))
  where
    at : Dec (524288 ≤ length out) → n ≤ length o
    at (yes l) = let t = h.text l in let e = t.2 in let f = ap length t.3 ∙ length-append t.0 (drop (length t.0) out) in omega arith
    at (no l) = let e = (h.short (omega arith)).0 in omega arith
