-- The C call and the line of a pair: their answers are those of header issue, so each keeps its promise and no second one does. The
-- entries of the fields are one table, since there is one way through the fields. Assumes nothing.
use Prim.Native.Nat.{ℕ, ◌*◌}
use native.Mathlib.Decide.{ℕ_discrete}
use mathlib.Core.Path.{◌≡◌, refl, sym, ap, ap₂, ◌∙◌, subst}
use mathlib.Core.Bool.{Bool, true, false, cond}
use mathlib.Core.List.{List, [], append-nil}
use native.Mathlib.Nat.{le_of_eq}
use lib.ListN.{length, take, replicate, drop_of_length-le}
use Rattle.rules.specs.Answers.{Judgement, Answer}
use Rattle.rules.specs.Table.{Sizes}
use Rattle.rules.specs.Refusals.{most_hops}
use Rattle.rules.specs.Promise.{Blank, Issued}
use Rattle.rules.specs.Fields.{Holds, Loaded}
use Rattle.rules.specs.Pack.{Packs}
use Rattle.rules.specs.Print.{line, Printed}
use Rattle.rules.specs.Look.{accepted, answered}
use Rattle.rules.specs.RunPair.{issue_answer, issue_memory}
use Rattle.rules.specs.RunFields.{rows, entries, call_judgement, call_answer, call_memory, pair_line}
use Rattle.rules.proofs.Says.{accepted-zero, refused-not}
use Rattle.rules.proofs.Kept.{issued-met, zeros}
use Rattle.rules.proofs.Only.{issued-only, blank-same}
use Rattle.rules.proofs.FieldLaws.{entries-length, entries-hold, holds-one}
use Rattle.rules.proofs.FieldPromises.{call_rows, call-bad, call-refuses, call-clash, rows_all}

-- ---- the C call

module _ (z : Sizes) (b : List ℕ) where
  -- the table of all rows
  abbrev table : List ℕ
  table = entries b (rows b z.most)

  pub table-held : Holds b (rows b z.most) table
  table-held = subst (Holds b (rows b z.most)) (append-nil table) (entries-hold b (rows b z.most) [])

  -- any table that holds them all, and nothing else, is that one
  pub table-one : (n : ℕ) (t : List ℕ) → n ≡ rows b z.most → length t ≡ 8 * n → Holds b n t → table ≡ t
  table-one n t e l h =
      let k = rows b z.most in
      let m = entries-length b k in
      let f : length t ≡ 8 * k = l ∙ ap (λ (i : ℕ). 8 * i) e in
      holds-one b k table t (m ∙ sym f) (drop_of_length-le table (le_of_eq m) ∙ sym (drop_of_length-le t (le_of_eq f))) table-held (subst (λ (i : ℕ). Holds b i t) e h)

  module _ (a d : ℕ) (out : List ℕ) where
    -- a field that is no row is told, and nothing is written
    pub loaded-bad : (r : Answer) → ¬ ((call_judgement b z).number ≡ 0) → r.number ≡ (call_judgement b z).number → r.place ≡ (call_judgement b z).place → Blank r → Loaded z b a d out r out
    loaded-bad r h e f k = record {
      bad = λ q g. let x = call-bad z b q g in (e ∙ ap (λ (j : Judgement). j.number) x, f ∙ ap (λ (j : Judgement). j.place) x, k, refl);
      issued = λ n t u l g. let x = call-refuses z b h in absurd (call-clash z b x.0 n x.1 u);
    }

    -- else the answer is that of header issue in the table of the rows
    pub loaded-good : (r : Answer) (o : List ℕ) → (call_judgement b z).number ≡ 0 → Issued z table a d out r o → Loaded z b a d out r o
    loaded-good r o h k = record {
      bad = λ q g. absurd (call-clash z b q (rows b z.most) g (call_rows z b h));
      issued = λ n t u l g. subst (λ (x : List ℕ). Issued z x a d out r o) (table-one n t (rows_all z b n u) l g) k;
    }

    pub loaded-met : Loaded z b a d out (call_answer b z a d out) (call_memory b z a d out)
    unfolding call_answer call_memory answered
    loaded-met = at (accepted j) refl
      where
        j : Judgement
        j = call_judgement b z

        r : Answer
        r = issue_answer z table a d out

        o : List ℕ
        o = issue_memory z table a d out

        bare : Answer
        bare = record { number = j.number; place = j.place; distance = 0; count = 0; tries = 0 }

        at : (c : Bool) → accepted j ≡ c → Loaded z b a d out (cond c r (cond c bare bare)) (cond c o out)
        at true e = loaded-good r o (accepted-zero j e) (issued-met z table a d out)
        at false e = loaded-bad bare (refused-not j e) refl refl (zeros j)

    pub loaded-only : (r s : Answer) (o p : List ℕ) → Loaded z b a d out r o → Loaded z b a d out s p → (r ≡ s) × (o ≡ p)
    loaded-only r s o p h k = at (ℕ_discrete (call_judgement b z).number 0)
      where
        at : Dec ((call_judgement b z).number ≡ 0) → (r ≡ s) × (o ≡ p)
        at (yes e) =
            let u = call_rows z b e in
            let l = entries-length b (rows b z.most) in
            issued-only z table a d out r s o p (h.issued (rows b z.most) table u l table-held) (k.issued (rows b z.most) table u l table-held)
        at (no e) =
            let f = call-refuses z b e in
            let x = h.bad f.0 f.1 in
            let y = k.bad f.0 f.1 in
            (blank-same (x.0 ∙ sym y.0, x.1 ∙ sym y.1) x.2 y.2, x.3 ∙ sym y.3)

-- ---- a packed answer: what no second answer satisfies, no second number does

pub packs-only : {A : Type 0} (pack : A → ℕ) (P Q : A → Type 0) (R : Type 0) → ((x y : A) → P x → Q y → (x ≡ y) × R)
    → (m n : ℕ) → Packs pack P m → Packs pack Q n → (m ≡ n) × R
packs-only pack P Q R one m n h k =
    let e = one h.answer k.answer h.so k.so in (h.is ∙ ap pack e.0 ∙ sym k.is, e.1)

-- ---- the line of a pair

module _ (z : Sizes) (t : List ℕ) (a d : ℕ) where
  pub printed-met : Printed z t a d (pair_line z t a d)
  unfolding pair_line
  printed-met = record {
    answer = issue_answer z t a d (replicate most_hops 0);
    out = issue_memory z t a d (replicate most_hops 0);
    issued = issued-met z t a d (replicate most_hops 0);
    so = refl;
  }

  pub printed-only : (l m : List ℕ) → Printed z t a d l → Printed z t a d m → l ≡ m
  printed-only l m h k =
      let e = issued-only z t a d (replicate most_hops 0) h.answer k.answer h.out k.out h.issued k.issued in
      h.so ∙ ap₂ (λ (r : Answer) (o : List ℕ). line a d r (take r.distance o)) e.0 e.1 ∙ sym k.so
