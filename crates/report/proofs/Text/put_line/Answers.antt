-- `report::Text::put_line` meets its contract: the numbers of the pair's answer are put, and behind them a dash or the words. Assumes nothing.
use lib.ListN.{length, take}
use mathlib.Core.Path.{◌≡◌, refl, ap, ◌∙◌}
use mathlib.Core.List.{[], ◌∷◌}
use Prim.Native.Nat.{ℕ, ◌+◌, ◌*◌, ◌<◌, ◌≤◌}
use Rattle.std.specs.Prelude.{Ok, Err}
use Rattle.std.proofs.Common.{rules}
use Rattle.rules.specs.Answers.{issued}
use Rattle.rules.proofs.Answers.{number-some}
use native.Mathlib.Omega.{arith}
use Rattle.report.proofs.LineLaws.{Answered, answered, line-room, dash-room, dash-put, words-asked, words-put}
use Rattle.report.proofs.Text.put_line.Goals as goal
use Rattle.report.proofs.Text.put_line.Goals.{In-Ok, In-Err, After-put_numbers}

-- the answer of the pair
issued-known : (c : In-Ok) → Answered c.args.table.now c.args.ends.source c.args.ends.target (issued (Ok c.in-Ok.header)) c.issue_judged.new.words
issued-known c =
    let s : c.args.ends.source < 65536 = search rules in
    let t : c.args.ends.target < 65536 = search rules in
    answered s t (c.in-Ok.ensures.answer, c.in-Ok.ensures.memory) c.issue_judged.auto.words

refused-known : (c : In-Err) → Answered c.args.table.now c.args.ends.source c.args.ends.target (issued (Err c.in-Err.refusal)) c.issue_judged.new.words
refused-known c =
    let s : c.args.ends.source < 65536 = search rules in
    let t : c.args.ends.target < 65536 = search rules in
    answered s t (c.in-Err.ensures.answer, c.in-Err.ensures.memory) c.issue_judged.auto.words

-- the numbers of a line that is refused
numbered : (a d : ℕ) {n k : ℕ} → n ≡ k → a ∷ d ∷ n ∷ 0 ∷ 0 ∷ 0 ∷ [] ≡ a ∷ d ∷ k ∷ 0 ∷ 0 ∷ 0 ∷ []
numbered a d e = ap (λ (n : ℕ). a ∷ d ∷ n ∷ 0 ∷ 0 ∷ 0 ∷ []) e

pub put_numbers-requires : goal.put_numbers-requires
put_numbers-requires c =
    line-room (issued-known (goal.at.put_numbers-requires c).In-Ok) c.args.self.now.len c.args.self.now.out.now c.requires.1 _ refl

-- as many words as the header has hops, and there is room for them
asked : (c : After-put_numbers) → let n = c.in-Ok.header.distance in let o = c.issue_judged.new.words in
    (n ≤ length o) × (n ≡ length (take n o)) × ((1 ≤ length (take n o)) × (c.put_numbers.new.self.len + 3 * length (take n o) ≤ length c.put_numbers.new.self.out.now))
asked c =
    words-asked (issued-known (goal.at.After-put_numbers c).In-Ok) c.args.self.now.len c.args.self.now.out.now c.requires.1 _ refl _ _ c.put_numbers.ensures.put _ refl refl

pub slice_bounds-words-end : goal.slice_bounds-words-end
slice_bounds-words-end c = (asked (goal.at.slice_bounds-words-end c).After-put_numbers).0

pub slice_bounds-put_words-end : goal.slice_bounds-put_words-end
slice_bounds-put_words-end c = (asked (goal.at.slice_bounds-put_words-end c).After-put_numbers).1

pub put_words-requires : goal.put_words-requires
put_words-requires c = (asked (goal.at.put_words-requires c).After-put_numbers).2

pub returns-in-Ok-clause-put : goal.returns-in-Ok-clause-put
returns-in-Ok-clause-put c = record {
  same = c.put_words.ensures.same ∙ c.put_numbers.ensures.same;
  put = (words-put (issued-known (goal.at.returns-in-Ok-clause-put c).In-Ok) c.args.self.now.len c.args.self.now.out.now c.requires.1 _ refl _ _ c.put_numbers.ensures.put _ refl refl _ _ c.put_words.ensures.put).0.0;
}

pub returns-in-Ok-clause-short : goal.returns-in-Ok-clause-short
returns-in-Ok-clause-short c =
    (words-put (issued-known (goal.at.returns-in-Ok-clause-short c).In-Ok) c.args.self.now.len c.args.self.now.out.now c.requires.1 _ refl _ _ c.put_numbers.ensures.put _ refl refl _ _ c.put_words.ensures.put).0.1

pub put_numbers-requires-in-Err : goal.put_numbers-requires-in-Err
put_numbers-requires-in-Err c =
    line-room (refused-known (goal.at.put_numbers-requires-in-Err c).In-Err) c.args.self.now.len c.args.self.now.out.now c.requires.1 _ (numbered _ _ c.number-number.ensures)

pub put-requires : goal.put-requires
put-requires c =
    dash-room (refused-known (goal.at.put-requires c).In-Err) c.args.self.now.len c.args.self.now.out.now c.requires.1 _ (numbered _ _ c.number-number.ensures) _ _ c.put_numbers-in-Err.ensures.put
    (λ z. let l = number-some c.in-Err.refusal in omega arith)

pub returns-in-Err-clause-put : goal.returns-in-Err-clause-put
returns-in-Err-clause-put c = record {
  same = c.put.ensures.same ∙ c.put_numbers-in-Err.ensures.same;
  put = (dash-put (refused-known (goal.at.returns-in-Err-clause-put c).In-Err) c.args.self.now.len c.args.self.now.out.now c.requires.1 _ (numbered _ _ c.number-number.ensures) _ _ c.put_numbers-in-Err.ensures.put
      (λ z. let l = number-some c.in-Err.refusal in omega arith) _ _ c.put.ensures.put).0.0;
}

pub returns-in-Err-clause-short : goal.returns-in-Err-clause-short
returns-in-Err-clause-short c =
    (dash-put (refused-known (goal.at.returns-in-Err-clause-short c).In-Err) c.args.self.now.len c.args.self.now.out.now c.requires.1 _ (numbered _ _ c.number-number.ensures) _ _ c.put_numbers-in-Err.ensures.put
    (λ z. let l = number-some c.in-Err.refusal in omega arith) _ _ c.put.ensures.put).0.1
