-- `ways::meet` answers as refusals 4, 5 and 6 go down, and else with what the search found. Assumes nothing.
use mathlib.Core.Path.{refl, sym, subst, ◌∙◌, ◌≡◌}
use Prim.Native.Nat.{ℕ}
use lib.Dec.{T}
use Rattle.std.specs.Prelude.{Option, Some, None, is_some, true, false}
use Rattle.ways.proofs.MeetLaws.{Looks, no_source, no_target, same-node, home-inside, not_found, found-small, met-there}
use Rattle.ways.proofs.meet.Goals as goal
use Rattle.ways.proofs.meet.Goals.{Else-is_none}

-- an option that is none, and one that is not
no-value : (o : Option ℕ) → is_some o ≡ false → o ≡ None
no-value None e = refl
no-value (Some x) e = let q : true ≡ false = e in absurd (subst T q tt)

a-value : (o : Option ℕ) → is_some o ≡ true → (x : ℕ) × (o ≡ Some x)
a-value None e = let q : false ≡ true = e in absurd (subst T (sym q) tt)
a-value (Some x) e = (x, refl)

source-at : (c : Else-is_none) → Looks c.args.fabric.now.table.now c.args.source c.args.target c.args.source (Some c.in-Some.at)
source-at c = sym c.in-Some.is ∙ c.find.ensures

target-at : (c : Else-is_none) → Looks c.args.fabric.now.table.now c.args.source c.args.target c.args.target (Some (a-value c.find-2.result c.if-is_none.ensures).0)
target-at c = sym (a-value c.find-2.result c.if-is_none.ensures).1 ∙ c.find-2.ensures

pub returns-in_default : goal.returns-in_default
returns-in_default c = no_source _ _ _ (sym c.in_default.is ∙ c.find.ensures)

pub returns-then-is_none : goal.returns-then-is_none
returns-then-is_none c = no_target _ _ _ (sym (no-value c.find-2.result c.if-is_none.ensures) ∙ c.find-2.ensures)

pub returns-then-source-target : goal.returns-then-source-target
returns-then-source-target c =
    let e = (goal.at.returns-then-source-target c).Else-is_none in same-node _ _ _ (source-at e) (target-at e) c.if-source-target.true

pub search_from-found-requires : goal.search_from-found-requires
search_from-found-requires c = let e = (goal.at.search_from-found-requires c).Else-is_none in home-inside _ _ _ (source-at e) (target-at e)

pub returns-in_default-arrive : goal.returns-in_default-arrive
returns-in_default-arrive c =
    let e = (goal.at.returns-in_default-arrive c).Else-is_none in
    not_found _ _ _ (source-at e) (target-at e) c.if-source-target.false c.search_from-found.ensures (sym c.in_default-arrive.is ∙ c.arrive.ensures)

pub bounds-found-i : goal.bounds-found-i
bounds-found-i c =
    let e = (goal.at.bounds-found-i c).Else-is_none in
    (found-small _ _ _ (source-at e) (target-at e) c.if-source-target.false c.search_from-found.ensures (sym c.in-Some-arrive.is ∙ c.arrive.ensures) c.args.fabric.now.few).0

pub bounds-found-found : goal.bounds-found-found
bounds-found-found c =
    let e = (goal.at.bounds-found-found c).Else-is_none in
    (found-small _ _ _ (source-at e) (target-at e) c.if-source-target.false c.search_from-found.ensures (sym c.in-Some-arrive.is ∙ c.arrive.ensures) c.args.fabric.now.few).1

pub returns : goal.returns
returns c =
    let e = (goal.at.returns c).Else-is_none in
    met-there _ _ _ (source-at e) (target-at e) c.if-source-target.false c.search_from-found.ensures (sym c.in-Some-arrive.is ∙ c.arrive.ensures) refl refl refl refl refl
