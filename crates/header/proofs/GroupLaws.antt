-- How sets that are alike are found and put in each other's place: two sets are alike where the common ports are the same and all eight ports,
-- one after another, have reached the same from both; and a set may stand for one that it is alike to. Assumes nothing.
use Prim.Native.Nat.{ℕ, ◌+◌, ◌/◌, ◌%◌, ◌^◌, ◌≤◌, ◌<◌}
use native.Mathlib.Nat.{not-suc-le-zero}
use native.Mathlib.Decide.{ℕ_discrete}
use native.Mathlib.Omega.{arith}
use mathlib.Core.Path.{◌≡◌, sym, ◌∙◌, subst}
use mathlib.Core.Bool.{cond}
use mathlib.Core.List.{List}
use borrow.Author.Count.{below_more}
use lib.Dec.{T, eqb→eq}
use lib.ListN.{length, get_or, set, length-set}
use lib.Seq.{get_or-set_same, get_or-set_other}
use lib.Pow.{pow_pos}
use Rattle.rules.specs.Sets.{has}
use Rattle.rules.specs.Net.{Far}
use Rattle.rules.specs.Tries.{common, reach}
use Rattle.rules.proofs.Lists.{length-tabulate}
use Rattle.header.specs.Search.{singles, Alike, Grouped}
use Rattle.header.proofs.LeafLaws.{in-common, common-size, one-bit}
use lib.Bits.{bit_and}
use Rattle.header.proofs.AlikeLaws.{alike_self, alike-on, single-lt}

-- ---- two sets compared, port by port

-- the ports of c below p reach the same set from both
pub record ReachSame (far : ℕ → ℕ → Far) (size a b c p : ℕ) : Type 0 where
  pub below : (q : ℕ) → q < p → T (has q c) → reach far size a (2 ^ q) ≡ reach far size b (2 ^ q)

module _ {far : ℕ → ℕ → Far} {size a b c : ℕ} where
  pub same_start : ReachSame far size a b c 0
  same_start = record { below = λ q l. absurd (not-suc-le-zero l) }

  module _ {p : ℕ} (h : ReachSame far size a b c p) where
    same_more : (T (has p c) → reach far size a (2 ^ p) ≡ reach far size b (2 ^ p)) → ReachSame far size a b c (p + 1)
    same_more e = record { below = below_more (λ q. T (has q c) → reach far size a (2 ^ q) ≡ reach far size b (2 ^ q)) p h.below e }

    pub same_in : {u v : ℕ} → u ≡ reach far size a (2 ^ p) → v ≡ reach far size b (2 ^ p) → u ≡ v → ReachSame far size a b c (p + 1)
    same_in i j e = same_more (λ _. sym i ∙ e ∙ j)

    pub same_out : (bit_and (c / 2 ^ p) 1 ≡ 1 → ⊥) → ReachSame far size a b c (p + 1)
    unfolding has
    same_out o = same_more (λ t. absurd (o (one-bit c p ∙ eqb→eq (c / 2 ^ p % 2) 1 t)))

    pub same_all : (mask : ℕ → ℕ) {d : ℕ} → size ≤ 64 → a < 2 ^ size → b < 2 ^ size → c ≡ common 64 mask a → d ≡ common 64 mask b → d ≡ c
        → 8 ≤ p → Alike far size mask a b
    same_all mask k i j e f g l =
        let ports : c ≡ common size mask a = e ∙ common-size size mask a i k in
        record {
          commons = sym ports ∙ sym g ∙ f ∙ common-size size mask b j k;
          reached = λ q t. h.below q (let n = ((in-common size mask a q i).0 t).0 in omega arith) (subst (λ (x : ℕ). T (has q x)) (sym ports) t);
        }

-- ---- the sets of the ports, some of them put in the place of others

module _ (far : ℕ → ℕ → Far) (size : ℕ) (mask : ℕ → ℕ) where
  -- between two ports: the sets, and the first of those that were alike last
  pub record Grouping (m c : ℕ) (sets : List ℕ) (first : ℕ) : Type 0 where
    pub eight : length sets ≡ 8
    pub group : Grouped far size mask m c sets
    pub bound : first < 2 ^ size

  pub grouping_start : {m c : ℕ} {sets : List ℕ} → sets ≡ singles far size m c → Grouping m c sets 0
  unfolding singles
  grouping_start {m} {c} e = subst (λ (x : List ℕ). Grouping m c x 0) (sym e) (record {
    eight = length-tabulate 8 (λ p. cond (has p c) (reach far size m (2 ^ p)) 0);
    group = record { inside = single-lt far size mask m c; alike = λ p l. alike_self far size mask (get_or (singles far size m c) p 0) };
    bound = pow_pos size;
  })

  module _ {m c first p : ℕ} {sets : List ℕ} (g : Grouping m c sets first) (l : p < 8) where
    put-at : (P : ℕ → ℕ → Type 0) → P p first → ((q : ℕ) → q < 8 → P q (get_or sets q 0)) → (q : ℕ) → q < 8 → P q (get_or (set sets p first) q 0)
    put-at P h f q k = at (ℕ_discrete q p)
      where
        at : Dec (q ≡ p) → P q (get_or (set sets p first) q 0)
        at (yes z) = subst (λ (j : ℕ). P j (get_or (set sets p first) j 0)) (sym z)
            (subst (λ (x : ℕ). P p x) (sym (get_or-set_same sets p first 0 (let e = g.eight in omega arith))) h)
        at (no z) = subst (λ (x : ℕ). P q x) (sym (get_or-set_other sets p q first 0 z)) (f q k)

    pub grouping_put : {now : ℕ} {after : List ℕ} → Alike far size mask first (get_or sets p 0) → after ≡ set sets p first → now ≡ first → Grouping m c after now
    grouping_put {now} {after} h e f = subst (λ (x : ℕ). Grouping m c after x) (sym f) (subst (λ (x : List ℕ). Grouping m c x first) (sym e) (record {
      eight = length-set sets p first ∙ g.eight;
      group = record {
        inside = put-at (λ q x. x < 2 ^ size) g.bound g.group.inside;
        alike = put-at (λ q x. Alike far size mask x (get_or (singles far size m c) q 0)) (alike-on far size mask h (g.group.alike p l)) g.group.alike;
      };
      bound = g.bound;
    }))

    pub grouping_next : {now : ℕ} {after : List ℕ} → after ≡ sets → now ≡ get_or sets p 0 → Grouping m c after now
    grouping_next {now} e f = subst (λ (x : List ℕ). Grouping m c x now) (sym e) (record {
      eight = g.eight;
      group = g.group;
      bound = subst (λ (x : ℕ). x < 2 ^ size) (sym f) (g.group.inside p l);
    })

  pub grouping_same : {m c first now : ℕ} {sets after : List ℕ} → Grouping m c sets first → after ≡ sets → now ≡ first → Grouping m c after now
  grouping_same {m} {c} {first} {now} {sets} {after} g e f = subst (λ (x : ℕ). Grouping m c after x) (sym f) (subst (λ (x : List ℕ). Grouping m c x first) (sym e) g)
