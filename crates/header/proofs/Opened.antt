-- What a pair that is not refused tells: its table is short enough, its source's switch is one, its distance is from 1 to 8, its masks are
-- the masks. Each row of refusals that gives none had a test that failed. Assumes nothing.
use Prim.Native.Nat.{ℕ, zero, ◌*◌, ◌^◌, ◌%◌, ◌≤◌, ◌<◌}
use native.Mathlib.Nat.{one-mul, eq-zero-or-pos}
use native.Mathlib.Omega.{arith}
use mathlib.Core.Path.{◌≡◌, refl, sym, ap, ◌∙◌, subst}
use mathlib.Core.Logic.{⊎_elim}
use mathlib.Core.Bool.{Bool, true, false, cond, ◌&&◌, not}
use mathlib.Core.List.{List, [], ◌∷◌}
use lib.Dec.{T, eqb, ltb, nltb→le}
use lib.ListN.{length, replicate}
use lib.Pow.{pow-lt, shl_exact}
use Rattle.rules.specs.Answers.{Judgement, Answer}
use Rattle.ways.specs.declared.Pair.{Pair}
use Rattle.rules.specs.Sets.{tabulate}
use Rattle.rules.specs.Net.{Distance}
use Rattle.rules.specs.Table.{house, far_of, switches, Stands}
use Rattle.rules.specs.Refusals.{most_hops}
use Rattle.rules.specs.Look.{Looked, pick, first, when}
use Rattle.rules.specs.RunTable.{attached, home}
use Rattle.rules.specs.RunPair.{distance, mask, look_apart, look7}
use Rattle.std.specs.Prelude.{Ok}
use Rattle.ways.specs.Pairs.{look_long, pair_judgement, PairAnswer, paired, pair_of}
use Rattle.rules.proofs.SetLaws.{T_and}
use Rattle.rules.proofs.Says.{first-zero, answered-zero, answered-number, accepted-true}
use Rattle.rules.proofs.Ways.{never-zero}
use Rattle.rules.proofs.Layers.{dist-cases, unreachable-is}
use Rattle.rules.proofs.Tables.{far_of-wired}
use Rattle.rules.proofs.Homes.{in-attached, home-is, port-of}
use Rattle.wiring.proofs.Reading.{few_switches}
use Rattle.ways.proofs.PairLaws.{five}
use Rattle.header.specs.Search.{Searches}

-- a row that gives none
row-false : (k : ℕ) (b : Bool) (ls : List Looked) → zero < k → (first ((k, when b) ∷ ls)).number ≡ 0 → (b ≡ false) × ((first ls).number ≡ 0)
unfolding first when pick
row-false k true ls l e = absurd (omega arith)
row-false k false ls l e = (refl, e)

not-false : (b : Bool) → not b ≡ false → T b
not-false true e = tt
not-false false e = subst T e tt

le_of : (m n : ℕ) → ltb m n ≡ false → n ≤ m
le_of m n e = nltb→le m n (subst (λ (b : Bool). T (not b)) (sym e) tt)

pub record Opened (t : List ℕ) (a d : ℕ) (p : Pair) : Type 0 where
  pub short : length t ≤ 512
  pub inside : home house t a < switches t
  pub near : distance house t a d ≤ 8
  pub dist : Distance (far_of house t) (home house t a) d (distance house t a d)
  pub told : p.distance ≡ distance house t a d
  pub from-home : p.home ≡ home house t a
  pub masks : p.masks ≡ tabulate 64 (mask house t a d)
  pub judged : pair_judgement house t a d ≡ record { number = 0; place = 0 }

module _ (t : List ℕ) (a d : ℕ) {p : Pair} (is : paired (Ok p) ≡ pair_of house t a d) where
  pub opened : Opened t a d p
  unfolding pair_of pair_judgement distance
  opened = record {
    short = le_of 512 (length t) r1.0;
    inside = (port-of house t a (home house t a) stands.port stands.there).switch-in;
    near = le_of most_hops (distance house t a d) r7.0;
    dist = far;
    told = ap (λ (x : PairAnswer). x.answer.distance) is ∙ ap (λ (x : Answer). x.distance) (answered-zero j (distance house t a d) (ap (λ (x : Judgement). x.place) z) n);
    from-home = ap (λ (x : PairAnswer). x.home) is ∙ ap (λ (b : Bool). cond b (home house t a) 0) (accepted-true j n);
    masks = ap (λ (x : PairAnswer). x.masks) is ∙ ap (λ (b : Bool). cond b (tabulate 64 (mask house t a d)) (replicate 64 0)) (accepted-true j n);
    judged = z;
  }
    where
      j : Judgement
      j = pair_judgement house t a d

      n : j.number ≡ 0
      n = sym (ap (λ (x : PairAnswer). x.answer.number) is ∙ answered-number j (distance house t a d) 0 0)

      z : j ≡ record { number = 0; place = 0 }
      z = first-zero (look_long house t a d ∷ look_apart house t a d (look7 house t a d ∷ [])) (five house t a d) n

      r1 : (ltb 512 (length t) ≡ false) × ((first (look_apart house t a d (look7 house t a d ∷ []))).number ≡ 0)
      r1 = row-false 1 (ltb 512 (length t)) (look_apart house t a d (look7 house t a d ∷ [])) (omega arith) n

      r4 : (not (attached house t a && attached house t d) ≡ false) × ((first ((5, when (eqb a d)) ∷ (6, when (ltb (switches t) (distance house t a d))) ∷ look7 house t a d ∷ [])).number ≡ 0)
      r4 = row-false 4 (not (attached house t a && attached house t d)) _ (omega arith) r1.1

      r5 : (eqb a d ≡ false) × ((first ((6, when (ltb (switches t) (distance house t a d))) ∷ look7 house t a d ∷ [])).number ≡ 0)
      r5 = row-false 5 (eqb a d) _ (omega arith) r4.1

      r6 : (ltb (switches t) (distance house t a d) ≡ false) × ((first (look7 house t a d ∷ [])).number ≡ 0)
      r6 = row-false 6 (ltb (switches t) (distance house t a d)) _ (omega arith) r5.1

      r7 : (ltb most_hops (distance house t a d) ≡ false) × ((first []).number ≡ 0)
      r7 = row-false 7 (ltb most_hops (distance house t a d)) [] (omega arith) r6.1

      stands : Stands house t a (home house t a)
      stands = home-is house t a ((in-attached house t a).0 (T_and (attached house t a) (attached house t d) (not-false (attached house t a && attached house t d) r4.0)).0)

      far : Distance (far_of house t) (home house t a) d (distance house t a d)
      far =
          ⊎_elim (λ h. h) (λ u. absurd (subst T r6.0 ((unreachable-is (far_of house t) (switches t) (far_of-wired house t) d (home house t a)).1 u)))
          (dist-cases (far_of house t) (switches t) (far_of-wired house t) d (home house t a))

module _ {t : List ℕ} {a d : ℕ} {p : Pair} (o : Opened t a d p) where
  -- the set that holds the source's switch
  pub start_is : 1 * 2 ^ p.home % 2 ^ 64 ≡ 2 ^ home house t a
  unfolding switches
  start_is =
      let l = o.inside in
      let s = o.short in
      ap (λ (h : ℕ). 1 * 2 ^ h % 2 ^ 64) o.from-home ∙ shl_exact {a = 1} 1 (home house t a) 64 (omega arith) (omega arith) ∙ one-mul (2 ^ home house t a)

  pub start-inside : 1 * 2 ^ p.home % 2 ^ 64 < 2 ^ switches t
  start-inside = subst (λ (m : ℕ). m < 2 ^ switches t) (sym start_is) (pow-lt o.inside)

  -- the table is a fabric
  pub small : switches t ≤ 64
  small = few_switches t o.short

  pub some-hops : 1 ≤ distance house t a d
  some-hops = ⊎_elim (λ e. absurd (never-zero (far_of house t) (subst (Distance (far_of house t) (home house t a) d) e o.dist))) (λ l. l) (eq-zero-or-pos (distance house t a d))

  pub home-small : p.home < 64
  unfolding switches
  home-small = let e = o.from-home in let l = o.inside in let s = o.short in omega arith

  -- as many stages as the distance told can be searched
  pub few-hops : p.distance ≤ 8
  few-hops = let l = o.near in let h = o.told in omega arith

  pub start-searches : Searches t (1 * 2 ^ p.home % 2 ^ 64) p.distance
  start-searches = record { inside = start-inside; some = let l = some-hops in let h = o.told in omega arith; few = few-hops }
