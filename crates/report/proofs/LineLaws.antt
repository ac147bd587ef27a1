-- A line is made of the answer of header issue, which is the judge's where that refuses and the pair's where it accepts. Its six numbers
-- are bounded, so it is never longer than 55 bytes. Assumes nothing.
use Prim.Native.Nat.{ℕ, zero, suc, ◌+◌, ◌-◌, ◌*◌, ◌≤◌, ◌<◌}
use native.Mathlib.Decide.{ℕ_discrete}
use native.Mathlib.Omega.{arith}
use mathlib.Core.Path.{◌≡◌, sym, ap, ap₂, ◌∙◌, subst}
use mathlib.Core.List.{List, [], ◌∷◌, ◌++◌, map, append-nil, append_assoc}
use lib.ListN.{length, take, replicate, length-append, length-take}
use lib.Seq.{length-take-le}
use Rattle.std.specs.Prelude.{Err}
use Rattle.rules.specs.declared.Refusal.{Refusal}
use Rattle.rules.specs.Answers.{Answer, judged, issued}
use Rattle.rules.specs.Table.{house}
use Rattle.rules.specs.Refusals.{most_hops}
use Rattle.rules.specs.Promise.{Judged, Issued}
use Rattle.rules.specs.Print.{hex, spaced, line, ended}
use Rattle.rules.specs.Text.{lines}
use Rattle.rules.specs.RunPair.{issue_answer, issue_memory}
use Rattle.rules.specs.RunFields.{pair_line}
use Rattle.rules.proofs.Kept.{issued-met}
use Rattle.rules.proofs.Packed.{issued-bounded, issued-fits, house-narrow}
use Rattle.rules.proofs.Texts.{six, line_refused, line-words, line-short, up_to, words-none, words_more, words_last}
use Rattle.header.specs.Pairs.{issue_pair, issue_pair_memory}
use Rattle.header.proofs.IssueLaws.{issue-judged, issue-refused}
use Rattle.wiring.proofs.Found.{judge-is, judge-number}
use Rattle.ways.proofs.PairLaws.{bare, refuses}
use Rattle.report.specs.Put.{Put, spaced_numbers}
use Rattle.report.proofs.PutLaws.{put-more, put-length}

-- ---- the answer

module _ (t : List ℕ) (a d : ℕ) (out : List ℕ) where
  pub answer-refused : (e : Refusal) → Judged house t (judged {A = Unit {0}} (Err e)) → (issued (Err e) ≡ issue_answer house t a d out) × (out ≡ issue_memory house t a d out)
  answer-refused e h = let m = issue-refused house t a d out (refuses house t e h) in (ap bare (judge-is house t h) ∙ sym m.0, sym m.1)

  pub answer-given : (r : Answer) (o : List ℕ) → Judged house t (record { number = 0; place = 0 }) → r ≡ issue_pair house t a d out → o ≡ issue_pair_memory house t a d out
      → (r ≡ issue_answer house t a d out) × (o ≡ issue_memory house t a d out)
  answer-given r o h e f = let m = issue-judged house t a d out (sym (judge-number house t h)) in (e ∙ sym m.0, f ∙ sym m.1)

-- ---- the words of a header

-- each word takes two digits and the byte behind them
words_long : (ws : List ℕ) (i : ℕ) → length (up_to ws i) ≡ 3 * i
unfolding hex
words_long ws zero = ap length (words-none ws)
words_long ws (suc i) = ap length (words_more ws i) ∙ length-append (up_to ws i) _ ∙ (let e = words_long ws i in omega arith)

shown-long : (ws : List ℕ) (i : ℕ) → suc i ≡ length ws → length (ended (spaced (map hex ws))) ≡ 3 * length ws
unfolding hex
shown-long ws i e = ap length (words_last ws i e) ∙ length-append (up_to ws i) _ ∙ (let k = words_long ws i in omega arith)

-- ---- the line of a pair

-- the numbers of a line
abbrev pub values : ℕ → ℕ → Answer → List ℕ
values a d r = a ∷ d ∷ r.number ∷ r.distance ∷ r.count ∷ r.tries ∷ []

-- with what follows them they are the start of the line
values-six : (a d : ℕ) (r : Answer) (rest : List ℕ) → six a d r rest ≡ spaced_numbers (values a d r) ++ rest
unfolding spaced_numbers lines
values-six a d r rest = simp (append_assoc, append-nil)

-- what is known of the pair of source a and target d: its answer r and its words o
pub record Answered (t : List ℕ) (a d : ℕ) (r : Answer) (o : List ℕ) : Type 0 where
  pub source : a < 65536
  pub target : d < 65536
  pub given : (r ≡ issue_answer house t a d (replicate most_hops 0)) × (o ≡ issue_memory house t a d (replicate most_hops 0))
  pub eight : length o ≡ 8

module _ (t : List ℕ) (a d : ℕ) (r : Answer) (o : List ℕ) (h : Answered t a d r o) where
  kept : Issued house t a d (replicate most_hops 0) r o
  kept = subst (λ (x : Answer). Issued house t a d (replicate most_hops 0) x o) (sym h.given.0) (subst (Issued house t a d (replicate most_hops 0) (issue_answer house t a d (replicate most_hops 0))) (sym h.given.1) (issued-met house t a d (replicate most_hops 0)))

  line-is : pair_line house t a d ≡ line a d r (take r.distance o)
  unfolding pair_line
  line-is = sym (ap₂ (λ (r : Answer) (o : List ℕ). line a d r (take r.distance o)) h.given.0 h.given.1)

  pub words-few : r.number ≡ 0 → (1 ≤ r.distance) × (r.distance ≤ 8)
  words-few e = let b = issued-bounded house t a d (replicate most_hops 0) r o kept e in (b.some, b.distance)

  line-fits : length (line a d r (take r.distance o)) ≤ 55
  line-fits = at (ℕ_discrete r.number 0)
    where
      number : r.number < 256
      number = (issued-fits house t a d house-narrow (replicate most_hops 0) r o kept).number

      few : r.distance ≤ 8 → length (take r.distance o) ≤ 8
      few l = let e = length-take r.distance o in omega arith

      at : Dec (r.number ≡ 0) → length (line a d r (take r.distance o)) ≤ 55
      at (yes e) =
          let b = issued-bounded house t a d (replicate most_hops 0) r o kept e in
          let k = b.distance in let c = b.count in let s = b.tries in
          line-short a d r (take r.distance o) h.source h.target number (omega arith) (omega arith) (omega arith) (few k)
      at (no e) =
          let b = (kept.refused e).0 in
          let k = b.distance in let c = b.count in let s = b.tries in
          line-short a d r (take r.distance o) h.source h.target number (omega arith) (omega arith) (omega arith) (few (omega arith))

  -- the line is its numbers, and a dash or the words
  refused-line : ¬ (r.number ≡ 0) → pair_line house t a d ≡ spaced_numbers (values a d r) ++ (45 ∷ 10 ∷ [])
  refused-line e = line-is ∙ line_refused a d r (take r.distance o) e ∙ values-six a d r (45 ∷ 10 ∷ [])

  words-line : r.number ≡ 0 → pair_line house t a d ≡ spaced_numbers (values a d r) ++ ended (spaced (map hex (take r.distance o)))
  words-line e = line-is ∙ at (take r.distance o) some ∙ values-six a d r (ended (spaced (map hex (take r.distance o))))
    where
      some : 0 < length (take r.distance o)
      some = let f = words-few e in let l = h.eight in let k = length-take r.distance o in omega arith

      at : (ws : List ℕ) → 0 < length ws → line a d r ws ≡ six a d r (ended (spaced (map hex ws)))
      at [] k = absurd (omega arith)
      at (w ∷ ws) k = line-words a d r w ws e

-- ---- the line put: its six numbers, and then a dash or the words

pub answered : {t : List ℕ} {a d : ℕ} {r : Answer} {o : List ℕ} → a < 65536 → d < 65536 → (r ≡ issue_answer house t a d (replicate most_hops 0)) × (o ≡ issue_memory house t a d (replicate most_hops 0)) → length o ≡ 8 → Answered t a d r o
answered l m g e = record { source = l; target = m; given = g; eight = e }

module _ {t : List ℕ} {a d : ℕ} {r : Answer} {o : List ℕ} (h : Answered t a d r o) (at : ℕ) (e : List ℕ) (room : at + 55 ≤ length e) (ns : List ℕ) (same : ns ≡ values a d r) where
  -- the line is the numbers and some text
  start_fits : (rest : List ℕ) → pair_line house t a d ≡ spaced_numbers (values a d r) ++ rest → length (spaced_numbers ns) + length rest ≤ 55
  start_fits rest q =
      let k = ap length (sym (line-is t a d r o h) ∙ q) ∙ length-append (spaced_numbers (values a d r)) rest in
      let l = line-fits t a d r o h in
      let m = ap (λ (ns : List ℕ). length (spaced_numbers ns)) same in
      omega arith

  pub line-room : at + length (spaced_numbers ns) ≤ length e
  line-room = go (ℕ_discrete r.number 0)
    where
      go : Dec (r.number ≡ 0) → at + length (spaced_numbers ns) ≤ length e
      go (yes n) = let l = start_fits _ (words-line t a d r o h n) in omega arith
      go (no n) = let l = start_fits _ (refused-line t a d r o h n) in omega arith

  module _ (p : List ℕ) (m : ℕ) (k : Put (spaced_numbers ns) at e p m) where
    -- what is put behind the numbers, where with them it is the line
    behind : (rest : List ℕ) → pair_line house t a d ≡ spaced_numbers (values a d r) ++ rest → (q : List ℕ) (x : ℕ) → Put rest m p q x
        → (Put (pair_line house t a d) at e q x × (x ≤ at + 55)) × (length q ≡ length e)
    behind rest f q x g =
        let l = start_fits rest f in
        let u = k.end in
        let v = g.end in
        let w = put-length k (omega arith) in
        ((subst (λ (l : List ℕ). Put l at e q x) (ap (λ (ns : List ℕ). spaced_numbers ns ++ rest) same ∙ sym f) (put-more k (omega arith) g), omega arith), put-length g (omega arith) ∙ w)

    fits : (rest : List ℕ) → pair_line house t a d ≡ spaced_numbers (values a d r) ++ rest → m + length rest ≤ length p
    fits rest f = let l = start_fits rest f in let u = k.end in let w = put-length k (omega arith) in omega arith

    pub dash-room : ¬ (r.number ≡ 0) → m + 2 ≤ length p
    dash-room n = fits (45 ∷ 10 ∷ []) (refused-line t a d r o h n)

    pub dash-put : ¬ (r.number ≡ 0) → (q : List ℕ) (x : ℕ) → Put (45 ∷ 10 ∷ []) m p q x → (Put (pair_line house t a d) at e q x × (x ≤ at + 55)) × (length q ≡ length e)
    dash-put n = behind (45 ∷ 10 ∷ []) (refused-line t a d r o h n)

    module _ (n : ℕ) (same-hops : n ≡ r.distance) (z : r.number ≡ 0) where
      words-is : pair_line house t a d ≡ spaced_numbers (values a d r) ++ ended (spaced (map hex (take n o)))
      words-is = words-line t a d r o h z ∙ ap (λ (n : ℕ). spaced_numbers (values a d r) ++ ended (spaced (map hex (take n o)))) (sym same-hops)

      pub words-asked : (n ≤ length o) × (n ≡ length (take n o)) × ((1 ≤ length (take n o)) × (m + 3 * length (take n o) ≤ length p))
      words-asked =
          let f = words-few t a d r o h z in
          let l = fits _ words-is in
          let g = h.eight in
          let c = length-take-le n o (omega arith) in
          let s = shown-long (take n o) (n - 1) (omega arith) in
          (omega arith, sym c, (omega arith, omega arith))

      pub words-put : (q : List ℕ) (x : ℕ) → Put (ended (spaced (map hex (take n o)))) m p q x → (Put (pair_line house t a d) at e q x × (x ≤ at + 55)) × (length q ≡ length e)
      words-put = behind _ words-is
