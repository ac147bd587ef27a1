-- The answers as rows of numbers, and which row each answer of the code is: its number and place, and its values. Assumes nothing.
--
--   number e, place e      a refusal's number; its place, 0 where none is named
--   Judgement, Answer, TestAnswer, WalkAnswer, FieldAnswer      the numbers of an answer
--   judged, measured, issued, tested, walked, filled            the numbers of what the code answers
use Rattle.std.specs.Prelude.{ℕ, Bool, cond, Result, Ok, Err}
use Rattle.rules.specs.declared.Refusal.{Refusal}
use Rattle.rules.specs.declared.Refusal.TheVariants.{WrongLength, BadEntry, ProcessorTwice, NotAttached, SameNode, Unreachable, TooFar, ShortOutput, TooManyTries, LongHeader, FewChoices, BadField}
use Rattle.rules.specs.declared.IssuedHeader.{IssuedHeader}
use Rattle.rules.specs.declared.Ending.{Ending as WalkEnding}
use Rattle.rules.specs.declared.Ending.TheVariants as at
use Rattle.rules.specs.declared.WalkEnd.{WalkEnd}
use Rattle.rules.specs.declared.ReadFields.{ReadFields}

-- "The numbers a caller can get back", row by row
abbrev pub number : Refusal → ℕ
number WrongLength = 1
number (BadEntry at) = 2
number (ProcessorTwice at) = 3
number NotAttached = 4
number SameNode = 5
number Unreachable = 6
number TooFar = 7
number ShortOutput = 8
number TooManyTries = 9
number LongHeader = 10
number FewChoices = 11
number (BadField at) = 12

-- "A refusal for which no place is named has place 0."
abbrev pub place : Refusal → ℕ
place WrongLength = 0
place (BadEntry at) = at
place (ProcessorTwice at) = at
place NotAttached = 0
place SameNode = 0
place Unreachable = 0
place TooFar = 0
place ShortOutput = 0
place TooManyTries = 0
place LongHeader = 0
place FewChoices = 0
place (BadField at) = at

pub record Judgement : Type 0 where
  pub number : ℕ
  pub place : ℕ

-- "An answer holds number, place, distance, count, tries."
pub record Answer : Type 0 where
  pub number : ℕ
  pub place : ℕ
  pub distance : ℕ
  pub count : ℕ
  pub tries : ℕ

-- what the header test says; Neither goes with a refusal
pub data Verdict : Type 0 where
  Neither : Verdict
  No : Verdict
  Yes : Verdict

pub record TestAnswer : Type 0 where
  pub answer : Answer
  pub says : Verdict

-- how a walk ended; None goes with a refusal
pub data Ending : Type 0 where
  None : Ending
  Delivered : Ending
  Leftover : Ending
  Empty : Ending
  Off : Ending
  Short : Ending

-- at is the processor or switch where the walk ended
pub record WalkAnswer : Type 0 where
  pub number : ℕ
  pub place : ℕ
  pub ending : Ending
  pub at : ℕ
  pub hops : ℕ
  pub left : ℕ

-- pairs is the offset of the first pair's field, or the input's length
pub record FieldAnswer : Type 0 where
  pub number : ℕ
  pub place : ℕ
  pub switches : ℕ
  pub pairs : ℕ

-- ---- "On success the number is 0 and the place is 0. On refusal all but number and place are 0"

abbrev pub refused : ℕ → ℕ → Answer
refused k q = record { number = k; place = q; distance = 0; count = 0; tries = 0 }

abbrev pub judged : {A : Type 0} → Result A Refusal → Judgement
judged (Ok x) = record { number = 0; place = 0 }
judged (Err e) = record { number = number e; place = place e }

-- of distance and of mask issue: "returns the distance with count and tries 0"
abbrev pub measured : Result ℕ Refusal → Answer
measured (Ok n) = record { number = 0; place = 0; distance = n; count = 0; tries = 0 }
measured (Err e) = refused (number e) (place e)

abbrev pub issued : Result IssuedHeader Refusal → Answer
issued (Ok h) = record { number = 0; place = 0; distance = h.distance; count = h.count; tries = h.tries }
issued (Err e) = refused (number e) (place e)

-- "it says neither yes nor no, and otherwise says yes or no, with distance, count and tries 0"
abbrev pub tested : Result Bool Refusal → TestAnswer
tested (Ok passes) = record { answer = refused 0 0; says = cond passes Yes No }
tested (Err e) = record { answer = refused (number e) (place e); says = Neither }

abbrev pub ending_of : WalkEnding → Ending
ending_of at.Delivered = Delivered
ending_of at.Leftover = Leftover
ending_of at.Empty = Empty
ending_of at.Off = Off
ending_of at.Short = Short

-- "then the ending is NONE and its other numbers but number and place are 0"
abbrev pub walked : Result WalkEnd Refusal → WalkAnswer
walked (Ok w) = record { number = 0; place = 0; ending = ending_of w.ending; at = w.at; hops = w.hops; left = w.left }
walked (Err e) = record { number = number e; place = place e; ending = None; at = 0; hops = 0; left = 0 }

-- "Refusing, it returns 0 for both."
abbrev pub filled : Result ReadFields Refusal → FieldAnswer
filled (Ok f) = record { number = 0; place = 0; switches = f.switches; pairs = f.pairs }
filled (Err e) = record { number = number e; place = place e; switches = 0; pairs = 0 }
