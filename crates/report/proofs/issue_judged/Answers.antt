-- `report::issue_judged` meets its contract: the judge decides, and then the pair. Assumes nothing.
use mathlib.Core.Path.{subst}
use Rattle.std.specs.Prelude.{Result, Err}
use Rattle.rules.specs.declared.Refusal.{Refusal}
use Rattle.rules.specs.Answers.{judged}
use Rattle.rules.specs.Promise.{Judged}
use Rattle.rules.specs.Table.{house}
use Rattle.rules.proofs.Answers.{handed-on}
use Rattle.report.proofs.LineLaws.{answer-refused, answer-given}
use Rattle.report.proofs.issue_judged.Goals as goal
use Rattle.report.proofs.issue_judged.Goals.{In_err-judgement, In_ok-judgement}

refuses : (c : In_err-judgement) → Judged house c.args.table.now (judged {A = Unit {0}} (Err c.in_err-judgement.field-0.0))
refuses c = subst (λ (r : Result (Unit {0}) Refusal). Judged house c.args.table.now (judged r)) c.in_err-judgement.was c.requires

accepts : (c : In_ok-judgement) → Judged house c.args.table.now (record { number = 0; place = 0 })
accepts c = subst (λ (r : Result (Unit {0}) Refusal). Judged house c.args.table.now (judged r)) c.in_ok-judgement.was c.requires

pub returns-in_err-judgement-clause-answer : goal.returns-in_err-judgement-clause-answer
returns-in_err-judgement-clause-answer c =
    rw (handed-on _ _ c.from_residual.ensures) (answer-refused _ _ _ c.args.words.now _ (refuses (goal.at.returns-in_err-judgement-clause-answer c).In_err-judgement)).0

pub returns-in_err-judgement-clause-memory : goal.returns-in_err-judgement-clause-memory
returns-in_err-judgement-clause-memory c =
    (answer-refused _ c.args.source c.args.target c.args.words.now _ (refuses (goal.at.returns-in_err-judgement-clause-memory c).In_err-judgement)).1

pub returns-clause-answer : goal.returns-clause-answer
returns-clause-answer c =
    (answer-given _ _ _ _ _ _ (accepts (goal.at.returns-clause-answer c).In_ok-judgement) c.issue_pair.ensures.answer c.issue_pair.ensures.memory).0

pub returns-clause-memory : goal.returns-clause-memory
returns-clause-memory c =
    (answer-given _ _ _ _ _ _ (accepts (goal.at.returns-clause-memory c).In_ok-judgement) c.issue_pair.ensures.answer c.issue_pair.ensures.memory).1
