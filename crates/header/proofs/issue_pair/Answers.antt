-- `header::issue_pair` goes down the refusals of a pair, and writes what the search found. Assumes nothing.
use mathlib.Core.Path.{◌≡◌, ◌∙◌}
use Prim.Native.Nat.{◌≤◌}
use lib.ListN.{length}
use borrow.Author.Rules.{rules}
use Rattle.rules.proofs.Answers.{handed-on}
use Rattle.found.proofs.Laws.{written_end}
use Rattle.header.proofs.Opened.{opened, small, home-small, start-searches, few-hops}
use Rattle.std.specs.Prelude.{Ok}
use Rattle.rules.specs.Answers.{issued}
use Rattle.header.proofs.Issued.{Issues, issue-none, issue-short, issue-over, issue-found}
use Rattle.header.proofs.issue_pair.Goals as goal
use Rattle.header.proofs.issue_pair.Goals.{After-write}

pub returns-in_err-pair-clause-answer : goal.returns-in_err-pair-clause-answer
returns-in_err-pair-clause-answer c = rw (handed-on _ _ c.from_residual.ensures) (issue-none _ _ _ _ c.in_err-pair.ensures c.args.out.now).0

pub returns-in_err-pair-clause-memory : goal.returns-in_err-pair-clause-memory
returns-in_err-pair-clause-memory c = (issue-none _ _ _ _ c.in_err-pair.ensures c.args.out.now).1

pub returns-then-out-lt8-clause-answer : goal.returns-then-out-lt8-clause-answer
returns-then-out-lt8-clause-answer c = (issue-short _ _ _ c.in_ok-pair.ensures _ c.if-out-lt8.true).0

pub returns-then-out-lt8-clause-memory : goal.returns-then-out-lt8-clause-memory
returns-then-out-lt8-clause-memory c = (issue-short _ _ _ c.in_ok-pair.ensures _ c.if-out-lt8.true).1

pub overflow_shl-pair : goal.overflow_shl-pair
overflow_shl-pair c = home-small (opened _ _ _ c.in_ok-pair.ensures)

pub invariant_of-fabric : goal.invariant_of-fabric
invariant_of-fabric c = record { few = small (opened _ _ _ c.in_ok-pair.ensures) }

pub widest-requires : goal.widest-requires
widest-requires c = start-searches (opened _ _ _ c.in_ok-pair.ensures)

pub returns-in_default-clause-answer : goal.returns-in_default-clause-answer
returns-in_default-clause-answer c = (issue-over _ _ _ c.in_ok-pair.ensures c.widest.ensures _ c.if-out-lt8.false c.in_default.is).0

pub returns-in_default-clause-memory : goal.returns-in_default-clause-memory
returns-in_default-clause-memory c = (issue-over _ _ _ c.in_ok-pair.ensures c.widest.ensures _ c.if-out-lt8.false c.in_default.is).1

pub overflow_sub-hops : goal.overflow_sub-hops
overflow_sub-hops c = few-hops (opened _ _ _ c.in_ok-pair.ensures)

-- the words found are eight
eight : (c : After-write) → length c.in-Some.found.words ≡ 8
eight c = search rules

-- what the search found, issued
found : (c : After-write) → 8 ≤ length c.args.out.now → Issues c.args.table.now c.args.source c.args.target c.args.out.now (issued (Ok (record { distance = c.in_ok-pair.pair.distance; count = c.in-Some.found.count; tries = c.in-Some.found.tries }))) c.write.new.out
found c room =
    issue-found _ _ _ c.in_ok-pair.ensures c.widest.ensures _ room _ c.in-Some.is
    (c.write.ensures ∙ written_end _ _ _ (eight c) room (few-hops (opened _ _ _ c.in_ok-pair.ensures)))

pub returns-clause-answer : goal.returns-clause-answer
returns-clause-answer c = (found (goal.at.returns-clause-answer c).After-write c.if-out-lt8.false).0

pub returns-clause-memory : goal.returns-clause-memory
returns-clause-memory c = (found (goal.at.returns-clause-memory c).After-write c.if-out-lt8.false).1
