-- What is read at a port of a switch: the entry that stands there, which says where the port leads, and names one of 64 switches where there are
-- no more. Assumes nothing.
use Prim.Native.Nat.{ℕ, ◌+◌, ◌*◌, ◌/◌, ◌≤◌, ◌<◌}
use native.Mathlib.Omega.{arith}
use mathlib.Core.Path.{◌≡◌, refl, sym, ap, ◌∙◌}
use mathlib.Core.Bool.{Bool, true, false, cond, ◌&&◌}
use mathlib.Core.List.{List}
use borrow.Author.Tests.{lt-ltb}
use lib.Dec.{ltb, ltb→lt}
use lib.ListN.{length, get_or}
use Rattle.rules.specs.declared.Entry.{Entry}
use Rattle.rules.specs.declared.Entry.TheVariants.{Switch, Node, Nothing, Bad}
use Rattle.rules.specs.Net.{switch, nothing}
use Rattle.rules.specs.Table.{house, no_link, kind, kind_at, leads, switches, far_of}
use Rattle.rules.proofs.SetLaws.{T_and, T_true}
use Rattle.rules.proofs.Tables.{port-inside, far_of-wired}
use Rattle.std.proofs.lemmas.List.{get_or_default}
use Rattle.wiring.specs.Entries.{Inside, entry_at}

pub few_switches : (t : List ℕ) → length t ≤ 512 → switches t ≤ 64
unfolding switches
few_switches t l = omega arith

module _ (t : List ℕ) (s p : ℕ) where
  -- what is read at a port of a switch is what stands there
  pub entry_is : {e : Entry} → s < switches t → p < 8 → e ≡ kind house (length t / 8) (get_or t (8 * s + p) 0) → e ≡ entry_at t s p
  unfolding entry_at kind_at switches
  entry_is l m q =
      q ∙ ap (kind house (length t / 8)) (get_or_default t (8 * s + p) 0 no_link (port-inside t s p l m)) ∙ simp (lt-ltb s (length t / 8) l, lt-ltb p 8 m)

  -- and nothing stands where there is no such port
  pub entry_missing : ¬ ((s < switches t) × (p < 8)) → Nothing ≡ entry_at t s p
  unfolding entry_at
  entry_missing n = at (ltb s (switches t) && ltb p 8) refl
    where
      at : (b : Bool) → (ltb s (switches t) && ltb p 8) ≡ b → Nothing ≡ cond b (kind_at house t (8 * s + p)) Nothing
      at true e = let i = T_and (ltb s (switches t)) (ltb p 8) (T_true e) in absurd (n (ltb→lt s (switches t) i.0, ltb→lt p 8 i.1))
      at false e = refl

  -- what stands at a port leads where the port does
  pub entry_at-leads : leads (entry_at t s p) ≡ far_of house t s p
  unfolding entry_at far_of leads
  entry_at-leads = at (ltb s (switches t) && ltb p 8)
    where
      at : (b : Bool) → leads (cond b (kind_at house t (8 * s + p)) Nothing) ≡ cond b (leads (kind_at house t (8 * s + p))) nothing
      at true = refl
      at false = refl

  -- so does what is read there
  pub entry_leads : {e : Entry} → s < switches t → p < 8 → e ≡ kind house (length t / 8) (get_or t (8 * s + p) 0) → leads e ≡ far_of house t s p
  entry_leads l m q = ap leads (entry_is l m q) ∙ entry_at-leads

  -- and a port of a switch that there is not leads nowhere
  pub entry_none : ¬ ((s < switches t) × (p < 8)) → leads Nothing ≡ far_of house t s p
  entry_none n = ap leads (entry_missing n) ∙ entry_at-leads

  -- what an entry that is a link says of the port at which it was read
  module _ {v : ℕ} (read : leads (Switch v) ≡ far_of house t s p) where
    pub link_of : far_of house t s p ≡ switch v
    unfolding leads
    link_of = sym read

    pub link_inside : v < switches t
    link_inside = (far_of-wired house t).link s p v link_of

  -- it names one of 64 switches, where there are no more
  pub entry_inside : (e : Entry) → switches t ≤ 64 → leads e ≡ far_of house t s p → Inside e
  entry_inside (Switch v) few h = let l = link_inside h in omega arith
  entry_inside (Node a) few h = tt
  entry_inside Nothing few h = tt
  entry_inside Bad few h = tt
