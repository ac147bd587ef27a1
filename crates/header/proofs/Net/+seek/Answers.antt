use Prim.Native.Nat.{ℕ, ◌+◌, ◌-◌, ◌<◌}
use native.Mathlib.Nat.{le_refl}
use native.Mathlib.Omega.{arith}
use mathlib.Core.Path.{sym, ap, ◌∙◌}
use borrow.Author.Rules.{rules}
use Rattle.std.specs.Result.{result_ok}
use Rattle.header.specs.Search.{next_choice}
use Rattle.header.specs.declared.Choices.{Choices}
use Rattle.header.proofs.Searching.{Known, Search, Memory, Finds, last-stage, start, turning, ended, full, deeper, beyond, taken, told-before, told-now, kept-now, held_same}
use Rattle.header.proofs.Net.+seek.Goals as goal
use Rattle.header.proofs.Net.+seek.Goals.{At-loop-word, In-Some, After-within, Joined-recalled, in-Some-recalled, in-None-recalled+in_ok-found-in-None-recalled}

-- what is known from before the loop on
known : (t : ℕ) (c : At-loop-word t)
    → let a = c.args in Known a.self.now.fabric.table.now a.self.now.masks.now a.set a.left a.budget c.common_of-ports.result c.grouped-sets.result
known t c = record {
  small = c.args.self.now.fabric.few;
  searches = c.requires.searches;
  deep = c.if-left-eq1.false;
  common-ports = c.common_of-ports.ensures;
  port-sets = c.grouped-sets.ensures;
}

-- what is told is what the search from the set reached finds, where it was searched now and where it was before
rest-is : (t : ℕ) (c : After-within t)
    → let a = c.args in
    Finds a.self.now.fabric.table.now a.self.now.masks.now c.join-reached.result (a.left - 1) (a.budget - c.loop-word.tries - 1) c.within.result
rest-is t c =
    let u = c.loop-word in
    elim c.match-recalled.branch [
      | in-Some-recalled w ↦ told-before _ _ _ _ _ u.kept u.invariant.2.0 c.recalled.ensures w.in-Some-recalled.is w.found-is c.within.ensures
      | in-None-recalled+in_ok-found-in-None-recalled w ↦ told-now _ _ _ _ _ w.seek.ensures.is w.in_ok-found-in-None-recalled.was w.found-is c.within.ensures
    ]

-- and it is kept
kept_on : (t : ℕ) (c : Joined-recalled t)
    → let a = c.args in Memory a.self.now.fabric.table.now a.self.now.masks.now a.left c.match-recalled.kept c.match-recalled.below
kept_on t c =
    let u = c.loop-word in
    elim c.match-recalled.branch [
      | in-Some-recalled w ↦ (held_same _ _ _ w.kept-is u.invariant.2.0, held_same _ _ _ w.below-is u.invariant.2.1)
      | in-None-recalled+in_ok-found-in-None-recalled w ↦ (
        kept-now _ _ _ _ _ w.seek.ensures.is w.in_ok-found-in-None-recalled.was w.kept-is,
        held_same _ _ _ w.below-is w.seek.ensures.recalls,
      )
    ]

-- the word is the next choice
word-is : (t : ℕ) (c : In-Some t)
    → let a = c.args in
    Search a.self.now.fabric.table.now a.self.now.masks.now a.set a.left a.budget c.common_of-ports.result c.loop-word.best c.loop-word.tries c.in-Some.word × (c.in-Some.word < 256)
word-is t c = (turning _ _ _ _ _ _ _ _ _ _ _ c.loop-word.invariant.1 c.in-Some.ensures.steps.1.0 c.loop-word.invariant.0, search rules)

pub returns-then-left-eq1-clause-is : goal.returns-then-left-eq1-clause-is
returns-then-left-eq1-clause-is t c =
    last-stage _ _ _ _ _ _ c.args.self.now.fabric.few c.requires.searches c.common_of-ports.ensures c.if-left-eq1.true _ c.last.ensures

pub loop-word-init : goal.loop-word-init
loop-word-init t c =
    let all = c.into_iter-word-iterator.ensures.into_iter_gives in
    let of = c.of-word-items.ensures in (
      start _ _ _ _ _ _ _ _ c.last-best.ensures (ap (λ (x : Choices). x.last) all ∙ of.1),
      ap (λ (x : Choices). x.ports) all ∙ of.0,
      (c.requires.recalls, tt),
    )

pub returns-then-tries-budget-clause-is : goal.returns-then-tries-budget-clause-is
returns-then-tries-budget-clause-is t c =
    let at = goal.at.returns-then-tries-budget-clause-is t c in
    let word = word-is t at.In-Some in
    full _ _ _ _ _ _ _ (known t at.At-loop-word) _ _ _ word.0 word.1 c.if-tries-budget.true

pub seek-requires : goal.seek-requires
seek-requires t c =
    let some = c.requires.searches.some in
    let falls = c.decreases in
    let at = goal.at.seek-requires t c in
    let word = word-is t at.In-Some in
    (omega arith, (deeper _ _ _ _ _ _ _ (known t at.At-loop-word) _ _ (word.0.chosen word.1) c.join-reached.ensures, c.loop-word.invariant.2.1))

pub returns-in_err-found-in-None-recalled-clause-is : goal.returns-in_err-found-in-None-recalled-clause-is
returns-in_err-found-in-None-recalled-clause-is t c =
    let at = goal.at.returns-in_err-found-in-None-recalled-clause-is t c in
    let word = word-is t at.In-Some in
    c.from_residual.ensures
    ∙ beyond _ _ _ _ _ _ _ (known t at.At-loop-word) _ _ (word.0.chosen word.1) c.join-reached.ensures c.loop-word.tries _ c.seek.ensures.is
    _ word.0 word.1 c.if-tries-budget.false c.in_err-found-in-None-recalled.was

pub returns-in_err-rest-clause-is : goal.returns-in_err-rest-clause-is
returns-in_err-rest-clause-is t c =
    let at = goal.at.returns-in_err-rest-clause-is t c in
    let word = word-is t at.In-Some in
    c.from_residual-in_err-rest.ensures
    ∙ beyond _ _ _ _ _ _ _ (known t at.At-loop-word) _ _ (word.0.chosen word.1) c.join-reached.ensures c.loop-word.tries _ (rest-is t at.After-within)
    _ word.0 word.1 c.if-tries-budget.false c.in_err-rest.was

pub returns-in_err-rest-clause-recalls : goal.returns-in_err-rest-clause-recalls
returns-in_err-rest-clause-recalls t c = (kept_on t (goal.at.returns-in_err-rest-clause-recalls t c).Joined-recalled).0

pub loop-word-preserved : goal.loop-word-preserved
loop-word-preserved t c =
    let at = goal.at.loop-word-preserved t c in
    let word = word-is t at.In-Some in
    let steps = c.in-Some.ensures.steps in (
      taken _ _ _ _ _ _ _ (known t at.At-loop-word) _ _ (word.0.chosen word.1) c.join-reached.ensures c.loop-word.tries _ (rest-is t at.After-within)
          _ word.0 word.1 c.if-tries-budget.false _ c.in_ok-rest.was _ _ c.wider-best.ensures (ap (λ (w : ℕ). next_choice (w + 1) c.common_of-ports.result) steps.1.1),
      steps.0 ∙ c.loop-word.invariant.1,
      kept_on t at.Joined-recalled,
    )

pub returns-clause-is : goal.returns-clause-is
returns-clause-is t c =
    let u = c.loop-word.invariant in
    c.ok.ensures.value
    ∙ ap result_ok c.total.ensures
    ∙ ended _ _ _ _ _ _ _ (known t (goal.at.returns-clause-is t c).At-loop-word) _ _ 256 (turning _ _ _ _ _ _ _ _ _ _ _ u.1 (sym c.in-None.ensures.steps.1) u.0) (le_refl 256)
