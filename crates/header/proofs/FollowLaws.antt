-- What one port reaches from a set, gathered in a scan over the members: the switches to which the members met link by it. The entry of a port
-- says whether there is a link, and to which switch. Assumes nothing.
use Prim.Native.Nat.{ℕ, ◌*◌, ◌%◌, ◌^◌, ◌<◌}
use native.Mathlib.Omega.{arith}
use mathlib.Core.Path.{◌≡◌, refl, sym, ap, ◌∙◌, subst}
use mathlib.Core.Logic.{◌⊎◌, inl, inr, ◌↔◌, ⊎_elim}
use mathlib.Core.List.{List}
use lib.Dec.{T, eqb→eq, lit<}
use lib.Bits.{bit_or}
use lib.Pow.{shl_exact}
use Rattle.wiring.specs.Entries.{Inside}
use Rattle.rules.specs.declared.Entry.{Entry}
use Rattle.rules.specs.declared.Entry.TheVariants.{Switch, Node, Nothing, Bad}
use Rattle.rules.specs.Sets.{has}
use Rattle.rules.specs.Net.{Far, switch, Wired}
use Rattle.rules.specs.Table.{house, leads, far_of}
use Rattle.rules.specs.Tries.{reach}
use Rattle.rules.proofs.SetLaws.{eq-T, has-nothing, has-single}
use Rattle.header.proofs.LeafLaws.{same-members, in-or, in-single}
use Rattle.header.proofs.ScanLaws.{TakesOut, Left, met}

linked-in : (m u t : ℕ) → T (has t (bit_or m (2 ^ u))) ↔ (T (has t m) ⊎ (t ≡ u))
linked-in m u t = (
  λ h. ⊎_elim inl (λ k. inr (eqb→eq t u (subst T (has-single u t) k))) ((in-or m (2 ^ u) t).0 h),
  λ h. (in-or m (2 ^ u) t).1 (⊎_elim inl (λ e. inr (subst T (sym (has-single u t)) (eq-T t u e))) h),
)

-- n has each switch to which a member of m that is not left (in rest) links by port p, and none but those to which a member of m links that is not
-- apart: with none apart it may be any member, with those left apart it is one met
pub record Gathers (far : ℕ → ℕ → Far) (p m apart rest n : ℕ) : Type 0 where
  pub out : (t : ℕ) → T (has t n) → (u : ℕ) × T (has u m) × (T (has u apart) → ⊥) × (far u p ≡ switch t)
  pub back : (t u : ℕ) → T (has u m) → (T (has u rest) → ⊥) → far u p ≡ switch t → T (has t n)

-- n is the set of the switches to which the members that are not left link by port p
abbrev pub Follows : (ℕ → ℕ → Far) → ℕ → ℕ → ℕ → ℕ → Type 0
Follows far p m rest n = Gathers far p m rest rest n

-- those apart once u is taken out: none that was not apart before, and not u
abbrev pub Narrows : ℕ → ℕ → ℕ → Type 0
Narrows apart u later = (v : ℕ) → T (has v later) → T (has v apart) × (v ≡ u → ⊥)

module _ (far : ℕ → ℕ → Far) (p m : ℕ) where
  pub gathers-start : {apart rest : ℕ} → rest ≡ m → Gathers far p m apart rest 0
  gathers-start {apart} {rest} e = record {
    out = λ t h. absurd (subst T (has-nothing t) h);
    back = λ t u k d. absurd (d (subst (λ (x : ℕ). T (has u x)) (sym e) k));
  }

  pub follows-start : {rest : ℕ} → rest ≡ m → Follows far p m rest 0
  follows-start e = gathers-start e

  module _ {apart rest u left n : ℕ} (later : ℕ) (l : Left m rest) (h : TakesOut rest u left) (on : Narrows apart u later) (f : Gathers far p m apart rest n) where
    -- what n has comes of a member that is not in later either
    met-before : (t : ℕ) → T (has t n) → (v : ℕ) × T (has v m) × (T (has v later) → ⊥) × (far v p ≡ switch t)
    met-before t k = let o = f.out t k in (o.0, o.1, λ k. o.2 (on o.0 k).0, o.3)

    -- the member met links to v
    follows-link : (v : ℕ) → far u p ≡ switch v → Gathers far p m later left (bit_or n (2 ^ v))
    follows-link v e = record {
      out = λ t k. ⊎_elim (met-before t) (λ q. (u, l.inside u h.here, λ k. (on u k).1 refl, e ∙ ap switch (sym q))) ((linked-in n v t).0 k);
      back = λ t j k d i. (linked-in n v t).1
          (⊎_elim (λ b. inl (f.back t j k b i)) (λ q. let i = subst (λ (x : ℕ). far x p ≡ switch t) q i in inr (cc)) (met h j d));
    }

    -- the member met has no link there
    follows-none : ((t : ℕ) → far u p ≡ switch t → ⊥) → Gathers far p m later left n
    follows-none e = record {
      out = met-before;
      back = λ t j k d i. ⊎_elim (λ b. f.back t j k b i) (λ q. absurd (e t (subst (λ (x : ℕ). far x p ≡ switch t) q i))) (met h j d);
    }

  pub gathers-all : {size apart rest n : ℕ} → Wired far size → rest ≡ 0 → Gathers far p m apart rest n → n ≡ reach far size m (2 ^ p)
  gathers-all {size} {apart} {rest} {n} wired z f =
      same-members n (reach far size m (2 ^ p))
      (λ t h. let o = f.out t h in (in-single far size wired m p t).1 (o.0, o.1, o.3))
      (λ t h. let o = (in-single far size wired m p t).0 h in f.back t o.0 o.1 (λ k. subst T (has-nothing o.0) (subst (λ (x : ℕ). T (has o.0 x)) z k)) o.2)

  pub follows-all : {size rest n : ℕ} → Wired far size → rest ≡ 0 → Follows far p m rest n → n ≡ reach far size m (2 ^ p)
  follows-all wired z f = gathers-all wired z f

-- ---- e is the entry at port p of switch s

module _ (t : List ℕ) (s p : ℕ) {e : Entry} (read : leads e ≡ far_of house t s p) where
  -- a link, whose number the code has as v
  module _ (small : Inside e) {u v : ℕ} (told : e ≡ Switch u) (is : v ≡ u) where
    pub link-small : v < 64
    link-small = let l : u < 64 = subst Inside told small in omega arith

    pub link-gathered : {m apart rest later left n after : ℕ} → Left m rest → TakesOut rest s left → Narrows apart s later → Gathers (far_of house t) p m apart rest n
        → after ≡ bit_or n (1 * 2 ^ v % 2 ^ 64) → Gathers (far_of house t) p m later left after
    unfolding leads
    link-gathered {m} {apart} {rest} {later} {left} {n} l met on f e =
        let shift : 1 * 2 ^ v % 2 ^ 64 ≡ 2 ^ v = shl_exact {a = 1} 1 v 64 (lit< tt) (let k = link-small in omega arith) ∙ omega arith in
        subst (λ (x : ℕ). Gathers (far_of house t) p m later left x) (sym (e ∙ ap (bit_or n) shift))
        (follows-link (far_of house t) p m later l met on f v (sym read ∙ ap leads told ∙ ap switch (sym is)))

    pub link-followed : {m rest left n after : ℕ} → Left m rest → TakesOut rest s left → Follows (far_of house t) p m rest n → after ≡ bit_or n (1 * 2 ^ v % 2 ^ 64)
        → Follows (far_of house t) p m left after
    link-followed l met f e = link-gathered l met (λ j. (met.others j).0) f e

  module _ (none : (u : ℕ) → e ≡ Switch u → ⊥) where
    no-link : (u : ℕ) → far_of house t s p ≡ switch u → ⊥
    unfolding leads
    no-link u q = at e none (read ∙ q)
      where
        at : (x : Entry) → ((u : ℕ) → x ≡ Switch u → ⊥) → leads x ≡ switch u → ⊥
        at (Switch u) h q = h u refl
        at (Node a) h q = let z : ◌≡◌ {A = ℕ} 0 1 = cc in omega arith
        at Nothing h q = let z : ◌≡◌ {A = ℕ} 0 1 = cc in omega arith
        at Bad h q = let z : ◌≡◌ {A = ℕ} 0 1 = cc in omega arith

    pub none-gathered : {m apart rest later left n after : ℕ} → Left m rest → TakesOut rest s left → Narrows apart s later → Gathers (far_of house t) p m apart rest n
        → after ≡ n → Gathers (far_of house t) p m later left after
    none-gathered {m} {apart} {rest} {later} {left} l met on f e = subst (λ (x : ℕ). Gathers (far_of house t) p m later left x) (sym e) (follows-none (far_of house t) p m later l met on f no-link)

    pub none-followed : {m rest left n after : ℕ} → Left m rest → TakesOut rest s left → Follows (far_of house t) p m rest n → after ≡ n → Follows (far_of house t) p m left after
    none-followed l met f e = none-gathered l met (λ j. (met.others j).0) f e
