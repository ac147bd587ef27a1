-- No second number, and no second memory, keeps the promise of a call: a packed number is made of one answer, and of that the operation's own
-- promise has no second. Assumes nothing.
use Prim.Native.Nat.{ℕ}
use mathlib.Core.Path.{◌≡◌, refl}
use mathlib.Core.List.{List}
use Rattle.rules.specs.Table.{house}
use Rattle.rules.specs.Promise.{Measured, Masked, Tested, Issued}
use Rattle.rules.specs.Walk.{Walked}
use Rattle.rules.specs.Fields.{Filled, Loaded}
use Rattle.rules.specs.Pack.{packed, packed_test, packed_walk, packed_fields, Packs}
use Rattle.rules.proofs.Only.{measured-only, masked-only, tested-only, issued-only}
use Rattle.rules.proofs.WalkPromise.{walked-only}
use Rattle.rules.proofs.FieldPromises.{filled-only}
use Rattle.rules.proofs.Doors.{loaded-only, packs-only}

module _ (m n : ℕ) where
  module _ (o p : List ℕ) where
    pub header-only : (b out : List ℕ) (s d : ℕ) → Packs packed (λ a. Loaded house b s d out a o) m → Packs packed (λ a. Loaded house b s d out a p) n
        → (m ≡ n) × (o ≡ p)
    header-only b out s d =
        packs-only packed (λ a. Loaded house b s d out a o) (λ a. Loaded house b s d out a p) (o ≡ p) (λ x y. loaded-only house b s d out x y o p) m n

    pub table-header-only : (t out : List ℕ) (s d : ℕ) → Packs packed (λ a. Issued house t s d out a o) m → Packs packed (λ a. Issued house t s d out a p) n
        → (m ≡ n) × (o ≡ p)
    table-header-only t out s d =
        packs-only packed (λ a. Issued house t s d out a o) (λ a. Issued house t s d out a p) (o ≡ p) (λ x y. issued-only house t s d out x y o p) m n

    pub table-masks-only : (t out : List ℕ) (s d : ℕ) → Packs packed (λ a. Masked house t s d out a o) m → Packs packed (λ a. Masked house t s d out a p) n
        → (m ≡ n) × (o ≡ p)
    table-masks-only t out s d =
        packs-only packed (λ a. Masked house t s d out a o) (λ a. Masked house t s d out a p) (o ≡ p) (λ x y. masked-only house t s d out x y o p) m n

    pub fields-only : (b out : List ℕ) → Packs packed_fields (λ a. Filled house b out a o) m → Packs packed_fields (λ a. Filled house b out a p) n
        → (m ≡ n) × (o ≡ p)
    fields-only b out = packs-only packed_fields (λ a. Filled house b out a o) (λ a. Filled house b out a p) (o ≡ p) (λ x y. filled-only house b out x y o p) m n

  -- the calls that are lent nothing to write into
  alone : {A : Type 0} (pack : A → ℕ) (P : A → Type 0) → ((x y : A) → P x → P y → x ≡ y) → Packs pack P m → Packs pack P n → m ≡ n
  alone pack P one h k = (packs-only pack P P (m ≡ m) (λ x y i j. (one x y i j, refl)) m n h k).0

  pub table-distance-only : (t : List ℕ) (s d : ℕ) → Packs packed (Measured house t s d) m → Packs packed (Measured house t s d) n → m ≡ n
  table-distance-only t s d = alone packed (Measured house t s d) (measured-only house t s d)

  pub table-test-only : (t ws : List ℕ) (s d : ℕ) → Packs packed_test (Tested house t s d ws) m → Packs packed_test (Tested house t s d ws) n → m ≡ n
  table-test-only t ws s d = alone packed_test (Tested house t s d ws) (tested-only house t s d ws)

  pub table-walk-only : (t ws cs : List ℕ) (s : ℕ) → Packs packed_walk (Walked house t s ws cs) m → Packs packed_walk (Walked house t s ws cs) n → m ≡ n
  table-walk-only t ws cs s = alone packed_walk (Walked house t s ws cs) (walked-only house t s ws cs)
