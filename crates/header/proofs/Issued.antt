-- The ways out of header issue and of the header test without the judge: what the search found, and what the stages say, over the masks of
-- the pair are 01's rules. Assumes nothing.
use Prim.Native.Nat.{ℕ, ◌*◌, ◌-◌, ◌^◌, ◌%◌, ◌≤◌, ◌<◌}
use native.Mathlib.Omega.{arith}
use mathlib.Core.Path.{◌≡◌, refl, sym, ap, ap₂, ◌∙◌}
use mathlib.Core.Bool.{Bool, true, false, cond, ◌&&◌}
use mathlib.Core.List.{List, [], ◌∷◌, ◌++◌}
use Rattle.std.specs.Prelude.{Option, Some, None, Ok, Err}
use Rattle.std.proofs.lemmas.Option.{cond_some, none-some}
use borrow.Author.Tests.{lt-ltb, le-ltb, leb-true, leb-false, eq-eqb, ne_eqb}
use lib.Dec.{ltb, leb}
use lib.ListN.{length, get_or, drop, replicate, length-replicate}
use lib.Seq.{drop_at}
use Rattle.rules.specs.declared.Refusal.{Refusal}
use Rattle.rules.specs.declared.Refusal.TheVariants.{ShortOutput, TooManyTries}
use Rattle.rules.specs.Answers.{number, place, Judgement, Answer, Verdict, Neither, No, Yes, issued, tested}
use Rattle.rules.proofs.Answers.{number-some}
use Rattle.ways.specs.declared.Pair.{Pair}
use Rattle.found.specs.declared.Found.{Found}
use Rattle.rules.specs.Tries.{limit, chooses}
use Rattle.rules.specs.Run.{best}
use Rattle.rules.specs.Table.{house, far_of, switches}
use Rattle.rules.specs.Refusals.{most_hops}
use Rattle.rules.specs.Look.{first, accepted, answered}
use Rattle.rules.specs.RunTable.{home}
use Rattle.rules.specs.RunPair.{words, distance, mask, tries_of, words_of, passes_of, look8, look9}
use Rattle.ways.specs.Pairs.{pair_judgement, paired, pair_of}
use Rattle.header.specs.Search.{found, words_in, count_in, found_of}
use Rattle.header.specs.Pairs.{issue_pair_judgement, issue_pair, issue_pair_memory, test_pair}
use Rattle.rules.proofs.Says.{first-none, first_some, answered-accepted, accepted-true}
use Rattle.rules.proofs.Lists.{get_d_tabulate}
use Rattle.rules.proofs.Pair.{header_is, passes-length}
use Rattle.rules.proofs.Tables.{far_of-wired}
use Rattle.ways.proofs.PairLaws.{bare, pair-said}
use Rattle.ways.proofs.MeetLaws.{nothing_said}
use Rattle.header.proofs.Same.{chooses-same, tries-same, best-same}
use Rattle.header.proofs.Opened.{Opened, opened, start_is}
use Rattle.header.proofs.IssueLaws.{issue-stop, issue-last, issue-bare, issue-made, saying, test-bare}

-- what an answer and the lent output are to be
abbrev pub Issues : List ℕ → ℕ → ℕ → List ℕ → Answer → List ℕ → Type 0
Issues t a d out r o = (r ≡ issue_pair house t a d out) × (o ≡ issue_pair_memory house t a d out)

module _ (t : List ℕ) (a d : ℕ) where
  issues-bare : (out : List ℕ) (e : Refusal) → issue_pair_judgement house t a d out ≡ record { number = number e; place = place e } → Issues t a d out (issued (Err e)) out
  issues-bare out e f =
      let m = issue-bare house t a d out (record { number = number e; place = place e }) f (λ z. let l = number-some e in omega arith) in (sym m.0, sym m.1)

  -- a pair that is refused
  module _ (e : Refusal) (is : paired (Err e) ≡ pair_of house t a d) where
    said : record { number = number e; place = place e } ≡ pair_judgement house t a d
    said = pair-said house t a d e is

    stops : ¬ ((pair_judgement house t a d).number ≡ 0)
    stops z = let l = number-some e in let k : number e ≡ (pair_judgement house t a d).number = ap (λ (j : Judgement). j.number) said in omega arith

    pub issue-none : (out : List ℕ) → Issues t a d out (issued (Err e)) out
    issue-none out = issues-bare out e (issue-stop house t a d out stops ∙ sym said)

    pub test-none : (ws : List ℕ) → tested (Err e) ≡ test_pair house t a d ws
    unfolding test_pair saying
    test-none ws = sym (test-bare house t a d ws (pair_judgement house t a d) stops ∙ ap (λ (j : Judgement). record { answer = bare j; says = Neither }) (sym said))

  -- a pair that is not
  module _ {p : Pair} (is : paired (Ok p) ≡ pair_of house t a d) where
    o : Opened t a d p
    o = opened t a d is

    last : (out : List ℕ) → issue_pair_judgement house t a d out ≡ first (look8 house t a d most_hops out ∷ look9 house t a d ∷ [])
    last out = issue-last house t a d out (ap (λ (j : Judgement). j.number) o.judged)

    pub issue-short : (out : List ℕ) → length out < 8 → Issues t a d out (issued (Err ShortOutput)) out
    issue-short out l = issues-bare out ShortOutput (last out ∙ first_some 8 (ltb (length out) most_hops) _ (lt-ltb (length out) most_hops l))

    -- the masks as they are kept are the masks
    kept : (s : ℕ) → s < switches t → get_or p.masks s 0 ≡ mask house t a d s
    unfolding switches
    kept s l = ap (λ (m : List ℕ). get_or m s 0) o.masks ∙ get_d_tabulate 64 (mask house t a d) s 0 (let e = o.short in omega arith)

    -- so what the code searches and tests is over the masks
    code : ℕ → ℕ
    code s = get_or p.masks s 0

    -- the widest header, and its words at the end of eight
    header : (ws : List ℕ) × (best (far_of house t) (switches t) (mask house t a d) (distance house t a d) (2 ^ home house t a) ≡ Some ws) × (length ws ≡ distance house t a d)
    unfolding mask
    header =
        let h = header_is (far_of house t) (switches t) (far_of-wired house t) d (home house t a) (distance house t a d) o.dist in
        (h.0, h.1, passes-length (far_of house t) (switches t) (far_of-wired house t) d (home house t a) (distance house t a d) o.dist h.0 h.2.one)

    words_are : words_of house t a d ≡ header.0
    unfolding words_of words
    words_are = ap words header.1

    -- the search as the code makes it
    module _ {f : Option Found} (sought : f ≡ found_of (far_of house t) (switches t) (λ s. get_or p.masks s 0) (1 * 2 ^ p.home % 2 ^ 64) p.distance 65536) where
      same-found : cond (leb (tries_of house t a d) limit) (Some (found (Some (words_of house t a d)) (tries_of house t a d))) None ≡ f
      unfolding found_of tries_of code
      same-found =
          let far = far_of house t in
          let size = switches t in
          let m = mask house t a d in
          let s = 2 ^ home house t a in
          let k = distance house t a d in
          sym (sought
          ∙ ap₂ (λ (x y : ℕ). found_of far size code x y 65536) (start_is o) o.told
          ∙ ap₂ (λ (x : ℕ) (h : Option (List ℕ)). cond (leb x 65536) (Some (found h x)) None) (tries-same far size code m kept (k - 1) s) (best-same far size code m kept k s ∙ header.1 ∙ ap {B = Option (List ℕ)} Some (sym words_are)))

      pub issue-over : (out : List ℕ) → 8 ≤ length out → f ≡ None → Issues t a d out (issued (Err TooManyTries)) out
      issue-over out l v =
          issues-bare out TooManyTries
          (last out ∙ first-none 8 (ltb (length out) most_hops) _ (le-ltb (length out) most_hops l) ∙ first_some 9 (ltb limit (tries_of house t a d)) [] (at (leb (tries_of house t a d) limit) refl (same-found ∙ v)))
        where
          at : (b : Bool) → leb (tries_of house t a d) limit ≡ b → cond b (Some (found (Some (words_of house t a d)) (tries_of house t a d))) None ≡ None
              → ltb limit (tries_of house t a d) ≡ true
          at true h i = absurd (none-some (found (Some (words_of house t a d)) (tries_of house t a d)) (sym i))
          at false h i = lt-ltb limit (tries_of house t a d) (leb-false (tries_of house t a d) limit h)

      pub issue-found : (out : List ℕ) {w : List ℕ} → 8 ≤ length out → (h : Found) → f ≡ Some h
          → w ≡ drop (8 - p.distance) h.words ++ (replicate (8 - p.distance) 0 ++ drop 8 out)
          → Issues t a d out (issued (Ok (record { distance = p.distance; count = h.count; tries = h.tries }))) w
      unfolding found words_in count_in
      issue-found out {w} l h u v =
          let ws = words_of house t a d in
          let k = distance house t a d in
          let long : length ws ≡ k = ap length words_are ∙ header.2 in
          let told = cond_some (leb (tries_of house t a d) limit) (found (Some ws) (tries_of house t a d)) h (same-found ∙ u) in
          let within : ltb limit (tries_of house t a d) ≡ false = le-ltb limit (tries_of house t a d) (leb-true (tries_of house t a d) limit told.0) in
          let y : h ≡ found (Some ws) (tries_of house t a d) = sym told.1 in
          let m = issue-made house t a d out (last out ∙ first-none 8 (ltb (length out) most_hops) _ (le-ltb (length out) most_hops l) ∙ first-none 9 (ltb limit (tries_of house t a d)) [] within ∙ nothing_said) in
          let front : drop (8 - k) h.words ≡ ws = ap (λ (x : Found). drop (8 - k) x.words) y ∙ drop_at (replicate (8 - length ws) 0) ws (8 - k) (length-replicate (8 - length ws) 0 ∙ ap (λ (k : ℕ). 8 - k) long) in (
            (λ i. record { number = 0; place = 0; distance = o.told i; count = (y i).count; tries = (y i).tries }) ∙ sym m.0,
            v ∙ ap (λ (i : ℕ). drop (8 - i) h.words ++ (replicate (8 - i) 0 ++ drop 8 out)) o.told
                ∙ ap₂ (λ (x : List ℕ) (i : ℕ). x ++ (replicate (8 - i) 0 ++ drop 8 out)) front (sym long) ∙ sym m.1,
          )

    -- ---- the header test
    module _ (ws : List ℕ) where
      says : (c : Bool) → passes_of house t a d ws ≡ c → tested (Ok c) ≡ test_pair house t a d ws
      unfolding test_pair
      says c e =
          let k = o.judged in
          sym (
          (λ i. record { answer = answered (k i) 0 0 0; says = cond {A = Verdict} (accepted (k i)) (cond (passes_of house t a d ws) Yes No) Neither })
          ∙ (λ i. record { answer = answered-accepted (record { number = 0; place = 0 }) 0 0 0 refl i; says = cond {A = Verdict} (accepted-true (record { number = 0; place = 0 }) refl i) (cond (e i) Yes No) Neither })
          )

      pub test-long : ¬ (length ws ≡ p.distance) → tested (Ok false) ≡ test_pair house t a d ws
      unfolding passes_of
      test-long n =
          says false (ap (λ (c : Bool). c && chooses (far_of house t) (switches t) (mask house t a d) (2 ^ home house t a) ws) (ne_eqb (length ws) (distance house t a d) (λ k. n (k ∙ sym o.told))))

      pub test-said : {c : Bool} → length ws ≡ p.distance → c ≡ chooses (far_of house t) (switches t) (λ s. get_or p.masks s 0) (1 * 2 ^ p.home % 2 ^ 64) ws → tested (Ok c) ≡ test_pair house t a d ws
      unfolding passes_of code
      test-said {c} l f =
          says c
          (ap (λ (x : Bool). x && chooses (far_of house t) (switches t) (mask house t a d) (2 ^ home house t a) ws) (eq-eqb (length ws) (distance house t a d) (l ∙ o.told))
          ∙ sym (f ∙ ap (λ (m : ℕ). chooses (far_of house t) (switches t) code m ws) (start_is o) ∙ chooses-same (far_of house t) (switches t) code (mask house t a d) kept ws (2 ^ home house t a)))
