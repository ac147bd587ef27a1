-- The numbers of an answer say which answer it is: no two refusals have the same number and place, and no two results the same numbers.
-- So what no second row of numbers keeps, no second result does. Assumes nothing.
use Prim.Native.Nat.{ℕ, zero, ◌<◌}
use native.Mathlib.Omega.{arith}
use mathlib.Core.Path.{◌≡◌, refl, sym, ap, subst, ◌∙◌}
use mathlib.Core.Bool.{Bool, true, false, cond}
use mathlib.Core.List.{List}
use lib.Dec.{T, eqb}
use Rattle.std.specs.Prelude.{Result, Ok, Err, IsErr, IsErrAnd}
use Rattle.rules.specs.declared.Refusal.{Refusal}
use Rattle.rules.specs.declared.Refusal.TheVariants.{WrongLength, BadEntry, ProcessorTwice, NotAttached, SameNode, Unreachable, TooFar, ShortOutput, TooManyTries, LongHeader, FewChoices, BadField}
use Rattle.rules.specs.declared.IssuedHeader.{IssuedHeader}
use Rattle.rules.specs.declared.Ending.{Ending as WalkEnding}
use Rattle.rules.specs.declared.Ending.TheVariants as at
use Rattle.rules.specs.declared.WalkEnd.{WalkEnd}
use Rattle.rules.specs.declared.ReadFields.{ReadFields}
use Rattle.rules.specs.Answers.{number, place, Answer, Verdict, Neither, No, Yes, TestAnswer, Ending, None, Delivered, Leftover, Empty, Off, Short, WalkAnswer, FieldAnswer, Judgement, judged, measured, issued, tested, ending_of, walked, filled}
use Rattle.rules.specs.Table.{Sizes}
use Rattle.rules.specs.Promise.{Judged, Measured, Masked, Issued, Tested}
use Rattle.rules.specs.Walk.{Walked}
use Rattle.rules.specs.Fields.{Filled}
use Rattle.rules.proofs.Only.{judged-only, measured-only, masked-only, tested-only, issued-only}
use Rattle.rules.proofs.WalkPromise.{walked-only}
use Rattle.rules.proofs.FieldPromises.{filled-only}

-- ---- a refusal by its number and its place

pub number-some : (e : Refusal) → zero < number e
number-some WrongLength = omega arith
number-some (BadEntry at) = omega arith
number-some (ProcessorTwice at) = omega arith
number-some NotAttached = omega arith
number-some SameNode = omega arith
number-some Unreachable = omega arith
number-some TooFar = omega arith
number-some ShortOutput = omega arith
number-some TooManyTries = omega arith
number-some LongHeader = omega arith
number-some FewChoices = omega arith
number-some (BadField at) = omega arith

refusal_at : ℕ → ℕ → Refusal
refusal_at n q =
    cond (eqb n 1) WrongLength
    (cond (eqb n 2) (BadEntry q)
    (cond (eqb n 3) (ProcessorTwice q)
    (cond (eqb n 4) NotAttached
    (cond (eqb n 5) SameNode
    (cond (eqb n 6) Unreachable
    (cond (eqb n 7) TooFar
    (cond (eqb n 8) ShortOutput
    (cond (eqb n 9) TooManyTries
    (cond (eqb n 10) LongHeader
    (cond (eqb n 11) FewChoices (BadField q)))))))))))

refusal_back : (e : Refusal) → refusal_at (number e) (place e) ≡ e
unfolding refusal_at
refusal_back WrongLength = refl
refusal_back (BadEntry at) = refl
refusal_back (ProcessorTwice at) = refl
refusal_back NotAttached = refl
refusal_back SameNode = refl
refusal_back Unreachable = refl
refusal_back TooFar = refl
refusal_back ShortOutput = refl
refusal_back TooManyTries = refl
refusal_back LongHeader = refl
refusal_back FewChoices = refl
refusal_back (BadField at) = refl

pub refusal-one : (e f : Refusal) → number e ≡ number f → place e ≡ place f → e ≡ f
refusal-one e f n q =
    let h : refusal_at (number e) (place e) ≡ refusal_at (number f) (place f) = λ i. refusal_at (n i) (q i) in sym (refusal_back e) ∙ h ∙ refusal_back f

-- ---- a result by its numbers

-- 0 is no refusal's number
never-zero : {B : Type 0} (e : Refusal) → number e ≡ 0 → B
never-zero e h = let l = number-some e in absurd (omega arith)

pub judged-one : (q r : Result (Unit {0}) Refusal) → judged q ≡ judged r → q ≡ r
judged-one (Ok x) (Ok y) e = refl
judged-one (Ok x) (Err f) e = never-zero f (sym (ap (λ (j : Judgement). j.number) e))
judged-one (Err f) (Ok x) e = never-zero f (ap (λ (j : Judgement). j.number) e)
judged-one (Err f) (Err g) e = ap Err (refusal-one f g (ap (λ (j : Judgement). j.number) e) (ap (λ (j : Judgement). j.place) e))

pub measured-one : (q r : Result ℕ Refusal) → measured q ≡ measured r → q ≡ r
measured-one (Ok m) (Ok n) e = ap Ok (ap (λ (x : Answer). x.distance) e)
measured-one (Ok m) (Err f) e = never-zero f (sym (ap (λ (x : Answer). x.number) e))
measured-one (Err f) (Ok m) e = never-zero f (ap (λ (x : Answer). x.number) e)
measured-one (Err f) (Err g) e = ap Err (refusal-one f g (ap (λ (x : Answer). x.number) e) (ap (λ (x : Answer). x.place) e))

pub issued-one : (q r : Result IssuedHeader Refusal) → issued q ≡ issued r → q ≡ r
issued-one (Ok h) (Ok k) e =
    let s : h ≡ k = λ i. record { distance = ap (λ (x : Answer). x.distance) e i; count = ap (λ (x : Answer). x.count) e i; tries = ap (λ (x : Answer). x.tries) e i } in
    ap Ok s
issued-one (Ok h) (Err f) e = never-zero f (sym (ap (λ (x : Answer). x.number) e))
issued-one (Err f) (Ok h) e = never-zero f (ap (λ (x : Answer). x.number) e)
issued-one (Err f) (Err g) e = ap Err (refusal-one f g (ap (λ (x : Answer). x.number) e) (ap (λ (x : Answer). x.place) e))

-- yes or no, by what is said
yes : Verdict → Bool
yes Neither = false
yes No = false
yes Yes = true

yes-back : (b : Bool) → yes (cond b Yes No) ≡ b
unfolding yes
yes-back true = refl
yes-back false = refl

pub tested-one : (q r : Result Bool Refusal) → tested q ≡ tested r → q ≡ r
tested-one (Ok b) (Ok c) e = ap Ok (sym (yes-back b) ∙ ap (λ (x : TestAnswer). yes x.says) e ∙ yes-back c)
tested-one (Ok b) (Err f) e = never-zero f (sym (ap (λ (x : TestAnswer). x.answer.number) e))
tested-one (Err f) (Ok b) e = never-zero f (ap (λ (x : TestAnswer). x.answer.number) e)
tested-one (Err f) (Err g) e = ap Err (refusal-one f g (ap (λ (x : TestAnswer). x.answer.number) e) (ap (λ (x : TestAnswer). x.answer.place) e))

ending_at : Ending → WalkEnding
ending_at None = at.Short
ending_at Delivered = at.Delivered
ending_at Leftover = at.Leftover
ending_at Empty = at.Empty
ending_at Off = at.Off
ending_at Short = at.Short

ending-back : (e : WalkEnding) → ending_at (ending_of e) ≡ e
unfolding ending_at
ending-back at.Delivered = refl
ending-back at.Leftover = refl
ending-back at.Empty = refl
ending-back at.Off = refl
ending-back at.Short = refl

pub walked-one : (q r : Result WalkEnd Refusal) → walked q ≡ walked r → q ≡ r
walked-one (Ok v) (Ok w) e =
    let g : v.ending ≡ w.ending = sym (ending-back v.ending) ∙ ap (λ (x : WalkAnswer). ending_at x.ending) e ∙ ending-back w.ending in
    let s : v ≡ w = λ i. record { ending = g i; at = ap (λ (x : WalkAnswer). x.at) e i; hops = ap (λ (x : WalkAnswer). x.hops) e i; left = ap (λ (x : WalkAnswer). x.left) e i } in
    ap Ok s
walked-one (Ok w) (Err f) e = never-zero f (sym (ap (λ (x : WalkAnswer). x.number) e))
walked-one (Err f) (Ok w) e = never-zero f (ap (λ (x : WalkAnswer). x.number) e)
walked-one (Err f) (Err g) e = ap Err (refusal-one f g (ap (λ (x : WalkAnswer). x.number) e) (ap (λ (x : WalkAnswer). x.place) e))

pub filled-one : (q r : Result ReadFields Refusal) → filled q ≡ filled r → q ≡ r
filled-one (Ok f) (Ok g) e =
    let s : f ≡ g = λ i. record { switches = ap (λ (x : FieldAnswer). x.switches) e i; pairs = ap (λ (x : FieldAnswer). x.pairs) e i } in
    ap Ok s
filled-one (Ok g) (Err f) e = never-zero f (sym (ap (λ (x : FieldAnswer). x.number) e))
filled-one (Err f) (Ok g) e = never-zero f (ap (λ (x : FieldAnswer). x.number) e)
filled-one (Err f) (Err g) e = ap Err (refusal-one f g (ap (λ (x : FieldAnswer). x.number) e) (ap (λ (x : FieldAnswer). x.place) e))

-- ---- no second result keeps a promise

module _ (z : Sizes) where
  module _ (t : List ℕ) where
    pub judged-once : (q r : Result (Unit {0}) Refusal) → Judged z t (judged q) → Judged z t (judged r) → q ≡ r
    judged-once q r h k = judged-one q r (judged-only z t (judged q) (judged r) h k)

    module _ (a d : ℕ) where
      pub measured-once : (q r : Result ℕ Refusal) → Measured z t a d (measured q) → Measured z t a d (measured r) → q ≡ r
      measured-once q r h k = measured-one q r (measured-only z t a d (measured q) (measured r) h k)

      pub masked-once : (out : List ℕ) (q r : Result ℕ Refusal) (o p : List ℕ) → Masked z t a d out (measured q) o → Masked z t a d out (measured r) p → (q ≡ r) × (o ≡ p)
      masked-once out q r o p h k = let e = masked-only z t a d out (measured q) (measured r) o p h k in (measured-one q r e.0, e.1)

      pub issued-once : (out : List ℕ) (q r : Result IssuedHeader Refusal) (o p : List ℕ) → Issued z t a d out (issued q) o → Issued z t a d out (issued r) p → (q ≡ r) × (o ≡ p)
      issued-once out q r o p h k = let e = issued-only z t a d out (issued q) (issued r) o p h k in (issued-one q r e.0, e.1)

      pub tested-once : (ws : List ℕ) (q r : Result Bool Refusal) → Tested z t a d ws (tested q) → Tested z t a d ws (tested r) → q ≡ r
      tested-once ws q r h k = tested-one q r (tested-only z t a d ws (tested q) (tested r) h k)

    pub walked-once : (a : ℕ) (ws cs : List ℕ) (q r : Result WalkEnd Refusal) → Walked z t a ws cs (walked q) → Walked z t a ws cs (walked r) → q ≡ r
    walked-once a ws cs q r h k = walked-one q r (walked-only z t a ws cs (walked q) (walked r) h k)

  pub filled-once : (b out : List ℕ) (q r : Result ReadFields Refusal) (o p : List ℕ) → Filled z b out (filled q) o → Filled z b out (filled r) p → (q ≡ r) × (o ≡ p)
  filled-once b out q r o p h k = let e = filled-only z b out (filled q) (filled r) o p h k in (filled-one q r e.0, e.1)

-- ---- a refusal handed on

-- what `?` gives back is the refusal that it met
pub handed-on : {A : Type 0} (r : Result A Refusal) (e : Refusal) → IsErr r × IsErrAnd r (λ f. f ≡ e) → r ≡ Err e
handed-on (Ok x) e h = let q : false ≡ true = h.0 in absurd (subst T (sym q) tt)
handed-on (Err f) e h = ap Err h.1
