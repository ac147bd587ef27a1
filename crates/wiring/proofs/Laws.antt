-- The scans of a table: what an entry is by its range, that a scan which passed over every index below i without a hit has found the
-- least hit where it stops, and what each test of an entry says of the index. Assumes nothing.
use Prim.Native.Nat.{ℕ, ◌+◌, ◌-◌, ◌/◌, ◌≤◌, ◌<◌, zero-le}
use native.Mathlib.Nat.{not-suc-le-zero}
use native.Mathlib.Omega.{arith}
use mathlib.Core.Path.{◌≡◌, refl, sym, ap, ◌∙◌, subst}
use mathlib.Core.Bool.{Bool}
use Rattle.std.specs.Prelude.{Some, None}
use mathlib.Core.List.{List}
use borrow.Author.Tests.{lt-ltb, le-ltb, le-leb, lt-leb, eq-eqb, ne_eqb}
use borrow.Author.Count.{below_more}
use lib.Dec.{T}
use lib.ListN.{length, get_or}
use Rattle.std.proofs.lemmas.List.{get_or_default}
use Rattle.rules.specs.declared.Entry.{Entry}
use Rattle.rules.specs.declared.Entry.TheVariants.{Switch, Node, Nothing, Bad}
use Rattle.rules.specs.Look.{least_at}
use Rattle.rules.specs.Sets.{least}
use Rattle.rules.specs.Table.{house, no_link, kind, kind_at, switches}
use Rattle.rules.specs.RunTable.{is_bad, is_entry_of, same_node, bad_at, again}
use Rattle.rules.proofs.SetLaws.{least-is, least-one, any-yes, any_some}
use Rattle.rules.proofs.Tables.{kind-node}
use Rattle.rules.proofs.Homes.{is-entry, same-node, node-same}

-- ---- an entry by its range

module _ (n e : ℕ) where
  pub kind_link : e < n → Switch e ≡ kind house n e
  unfolding kind
  kind_link l = simp (lt-ltb e n l)

  pub kind_processor : n ≤ e → 1000 ≤ e → e < 1512 → Node (e - 1000) ≡ kind house n e
  unfolding kind
  kind_processor l low high = simp (le-ltb e n l, le-leb 1000 e low, lt-ltb e 1512 high)

  pub kind_none : n ≤ e → e ≡ 65535 → Nothing ≡ kind house n e
  unfolding kind
  kind_none l q = simp (le-ltb e n l, le-leb 1000 e (omega arith), le-ltb e 1512 (omega arith), eq-eqb e 65535 q)

  pub kind_low : n ≤ e → e < 1000 → Bad ≡ kind house n e
  unfolding kind
  kind_low l low = simp (le-ltb e n l, lt-leb 1000 e low, ne_eqb e 65535 (λ q. omega arith))

  pub kind_high : n ≤ e → 1512 ≤ e → (e ≡ 65535 → ⊥) → Bad ≡ kind house n e
  unfolding kind
  kind_high l high q = simp (le-ltb e n l, le-leb 1000 e (omega arith), le-ltb e 1512 high, ne_eqb e 65535 q)

-- ---- a scan for the least hit

-- i is at most n, and no index below it passes f
pub record Passed (n : ℕ) (f : ℕ → Bool) (i : ℕ) : Type 0 where
  pub bound : i ≤ n
  pub none : (j : ℕ) → j < i → T (f j) → ⊥

module _ {n : ℕ} {f : ℕ → Bool} where
  pub passed_start : Passed n f 0
  passed_start = record { bound = zero-le; none = λ j l. absurd (not-suc-le-zero l) }

  pub passed-one : {i : ℕ} → Passed n f i → i < n → (T (f i) → ⊥) → Passed n f (i + 1)
  passed-one {i} p l h = record { bound = omega arith; none = below_more (λ j. T (f j) → ⊥) i p.none h }

  pub passed-hit : {i : ℕ} → Passed n f i → T (f i) → i ≡ least n f
  passed-hit p h = least-one (record { bound = p.bound; before = p.none; hit = λ l. h }) (least-is n f)

  pub passed-all : {i : ℕ} → Passed n f i → n ≤ i → i ≡ least n f
  passed-all p l = least-one (record { bound = p.bound; before = p.none; hit = λ m. absurd (omega arith) }) (least-is n f)

  -- the index of the hit, and none where the scan ends
  pub passed-some : {i : ℕ} → Passed n f i → i < n → T (f i) → Some i ≡ least_at n f
  unfolding least_at
  passed-some {i} p l h = let e = passed-hit p h in rw (sym e) (simp (lt-ltb i n l))

  pub passed_none : {i : ℕ} → Passed n f i → n ≤ i → None ≡ least_at n f
  unfolding least_at
  passed_none {i} p l = let e = passed-all p l in rw (sym e) (simp (le-ltb i n l))

-- ---- what is read at an index

-- e is what the entry at index i is, as the code reads it
abbrev pub Read : List ℕ → ℕ → Entry → Type 0
Read t i e = e ≡ kind house (length t / 8) (get_or t i 0)

pub kind-at : (t : List ℕ) (i : ℕ) → i < length t → kind_at house t i ≡ kind house (length t / 8) (get_or t i 0)
unfolding kind_at switches
kind-at t i l = ap (kind house (length t / 8)) (get_or_default t i no_link 0 l)

module _ (t : List ℕ) (i : ℕ) (inside : i < length t) where
  pub kind-read : kind_at house t i ≡ kind house (length t / 8) (get_or t i 0)
  kind-read = kind-at t i inside

  -- ---- an entry of no kind

  pub bad-told : {e : Entry} → Read t i e → e ≡ Bad → T (bad_at house t i)
  unfolding bad_at is_bad
  bad-told r h = subst (λ (x : Entry). T (is_bad x)) (sym h ∙ r ∙ sym kind-read) tt

  pub bad-not : {e : Entry} → Read t i e → ¬ (e ≡ Bad) → ¬ (T (bad_at house t i))
  unfolding bad_at is_bad
  bad-not {e} r h k = h (bad-only e (subst (λ (x : Entry). T (is_bad x)) (kind-read ∙ sym r) k))
    where
      bad-only : (x : Entry) → T (is_bad x) → x ≡ Bad
      bad-only (Switch s) m = absurd m
      bad-only (Node a) m = absurd m
      bad-only Nothing m = absurd m
      bad-only Bad m = refl

  -- ---- a processor that stands lower too

  pub again-told : {e : Entry} {a : ℕ} → Read t i e → e ≡ Node a → (k : ℕ) → k < i → get_or t k 0 ≡ get_or t i 0 → T (again house t i)
  unfolding again
  again-told {e} {a} r h k l q =
      let here : kind_at house t i ≡ Node a = kind-read ∙ sym r ∙ h in
      let there : kind_at house t k ≡ Node a = kind-at t k (omega arith) ∙ ap (kind house (length t / 8)) q ∙ sym r ∙ h in
      any-yes i (λ j. same_node (kind_at house t j) (kind_at house t i)) k l (node-same (kind_at house t k) (kind_at house t i) a there here)

  pub again-not : ((k : ℕ) → k < i → get_or t k 0 ≡ get_or t i 0 → ⊥) → ¬ (T (again house t i))
  unfolding again
  again-not none h =
      let w = any_some i (λ j. same_node (kind_at house t j) (kind_at house t i)) h in
      let s = same-node (kind_at house t w.0) (kind_at house t i) w.2 in
      let here = (kind-node house (length t / 8) (get_or t i 0) s.0 (sym kind-read ∙ s.2)).1 in
      let l = w.1 in
      let there = (kind-node house (length t / 8) (get_or t w.0 0) s.0 (sym (kind-at t w.0 (omega arith)) ∙ s.1)).1 in
      none w.0 l (there ∙ sym here)

  pub again-other : {e : Entry} → Read t i e → ((a : ℕ) → ¬ (e ≡ Node a)) → ¬ (T (again house t i))
  unfolding again
  again-other {e} r o h =
      let w = any_some i (λ j. same_node (kind_at house t j) (kind_at house t i)) h in
      let s = same-node (kind_at house t w.0) (kind_at house t i) w.2 in
      o s.0 (r ∙ sym kind-read ∙ s.2)

  -- ---- the index of a processor

  module _ (node : ℕ) {e : Entry} (r : Read t i e) where
    pub stands-told : {a : ℕ} → e ≡ Node a → a ≡ node → T (is_entry_of node (kind_at house t i))
    stands-told q k = (is-entry node (kind_at house t i)).1 (kind-read ∙ sym r ∙ q ∙ ap Node k)

    pub stands-not : {a : ℕ} → e ≡ Node a → (a ≡ node → ⊥) → T (is_entry_of node (kind_at house t i)) → ⊥
    stands-not q k h = let same : e ≡ Node node = r ∙ sym kind-read ∙ (is-entry node (kind_at house t i)).0 h in k (cc)

    pub stands-other : ((a : ℕ) → ¬ (e ≡ Node a)) → ¬ (T (is_entry_of node (kind_at house t i)))
    stands-other o h = o node (r ∙ sym kind-read ∙ (is-entry node (kind_at house t i)).0 h)
