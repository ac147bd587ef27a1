use mathlib.Core.Path.{◌≡◌, refl, ap}
use Rattle.std.specs.Prelude.{Ok}
use Rattle.rules.specs.declared.WalkEnd.{WalkEnd}
use Rattle.rules.specs.Answers.{walked}
use Rattle.walk.proofs.Laws.{Hopped, walk-moved, walk-delivered, walk-leftover, walk-off, walk-empty, walk-short}
use Rattle.walk.proofs.from_switch.Goals as goal
use Rattle.walk.proofs.from_switch.Goals.{After-hop}

-- what is told of an end, as numbers
told : {v w : WalkEnd} → v ≡ w → walked (Ok v) ≡ walked (Ok w)
told e = ap (λ (x : WalkEnd). walked (Ok x)) e

-- what is known after the call of `hop`
hopped : (c : After-hop) → let a = c.args in
    Hopped a.fabric.now.table.now a.header.now a.choices.now a.home c.loop-i.s c.loop-i.i c.hop.result
hopped c =
    record {
      walking = c.loop-i.invariant;
      word = c.loop-i-test.true;
      enough = c.requires.enough;
      gave = c.hop.ensures;
    }

pub returns-in-Arrived : goal.returns-in-Arrived
returns-in-Arrived c = walk-delivered (hopped (goal.at.returns-in-Arrived c).After-hop) c.in-Arrived.is c.if-i-words.true (told c.ended.ensures)

pub returns-in-Arrived-2 : goal.returns-in-Arrived-2
returns-in-Arrived-2 c = walk-leftover (hopped (goal.at.returns-in-Arrived-2 c).After-hop) c.in-Arrived.is c.if-i-words.false (told c.ended-in-Arrived-2.ensures)

pub returns-in-Off : goal.returns-in-Off
returns-in-Off c = walk-off (hopped (goal.at.returns-in-Off c).After-hop) c.in-Off.is (told c.ended-in-Off.ensures) refl

pub returns-in-Empty : goal.returns-in-Empty
returns-in-Empty c = walk-empty (hopped (goal.at.returns-in-Empty c).After-hop) c.in-Empty.is (told c.ended-in-Empty.ensures) refl

pub loop-i-preserved : goal.loop-i-preserved
loop-i-preserved c = walk-moved (hopped (goal.at.loop-i-preserved c).After-hop) c.in-Moved.is

pub returns : goal.returns
returns c = walk-short c.loop-i.invariant c.loop-i-test.false (told c.ended-2.ensures) refl
