-- The header test, stage by stage over reached sets, is the header test over all lists that the header permits.
-- Assumes nothing.
use Prim.Native.Nat.{ℕ, zero, suc, ◌<◌}
use native.Mathlib.Omega.{arith}
use mathlib.Core.Path.{◌≡◌, refl, ap}
use mathlib.Core.Logic.{◌↔◌}
use mathlib.Core.List.{List, [], ◌∷◌}
use lib.Dec.{T}
use lib.ListN.{length}
use Rattle.rules.specs.Sets.{has}
use Rattle.rules.specs.Net.{Far, switch, node, nothing, Shortest, Distance, Onward}
use Rattle.rules.specs.Header.{Picks, Words}
use Rattle.rules.proofs.SetLaws.{member}
use Rattle.rules.proofs.Ways.{distance-one, of-shortest, shortest-tail, shortest-cons, onward-node, onward-nothing, onward_near, never-zero}

pub picks-length : (ps ws : List ℕ) → Picks ps ws → length ps ≡ length ws
unfolding Picks
picks-length [] [] h = refl
picks-length [] (w ∷ ws) h = absurd h
picks-length (p ∷ ps) [] h = absurd h
picks-length (p ∷ ps) (w ∷ ws) h = ap suc (picks-length ps ws h.1)

pub some-picks : (ws : List ℕ) → Words ws → (ps : List ℕ) × Picks ps ws
unfolding Picks Words
some-picks [] h = ([], tt)
some-picks (w ∷ ws) h = let m = member w h.0 in let r = some-picks ws h.2 in (m.0 ∷ r.0, (m.1, r.1))

module _ (far : ℕ → ℕ → Far) where
  -- the header test from any switch of the set S
  pub record PassesFrom (S : ℕ → Type 0) (d : ℕ) (ws : List ℕ) : Type 0 where
    pub words : Words ws
    pub right : (s : ℕ) (ps : List ℕ) → S s → Picks ps ws → Shortest far (switch s) (node d) ps

  -- the switch t is reached from one of S by a port of w
  pub record Reach (S : ℕ → Type 0) (w t : ℕ) : Type 0 where
    pub «from» : ℕ
    pub by : ℕ
    pub there : S «from»
    pub permitted : T (has by w)
    pub link : far «from» by ≡ switch t

module _ (far : ℕ → ℕ → Far) (d : ℕ) where
  -- all switches of S are n ports from d
  unfoldable pub Away : (ℕ → Type 0) → ℕ → Type 0
  Away S n = (s : ℕ) → S s → Distance far s d n

  -- w is a nonempty choice among the ports by which every switch of S comes nearer
  pub record Common (S : ℕ → Type 0) (w : ℕ) : Type 0 where
    pub nonempty : zero < w
    pub byte : w < 256
    pub onward : (s p : ℕ) → S s → T (has p w) → Onward far d s p

  pub reach-away : (S : ℕ → Type 0) (w n : ℕ) → Away S (suc n) → Common S w → Away (Reach far S w) n
  unfolding Away
  reach-away S w n h o t r = onward_near far (o.onward r.«from» r.by r.there r.permitted) r.link (h r.«from» r.there)

  last_word : (p : ℕ) (qs ws : List ℕ) {s : ℕ} → Distance far s d (suc (length ws)) → Picks qs ws → Shortest far (switch s) (node d) (p ∷ []) → Shortest far (switch s) (node d) (p ∷ qs)
  unfolding Picks
  last_word p [] ws h k e = e
  last_word p (q ∷ qs) [] h k e = absurd k
  last_word p (q ∷ qs) (w ∷ ws) h k e = let z = distance-one far (of-shortest far e) h in absurd (omega arith)

  -- a stage before a header that chooses from the set it reaches
  pub stage-on : (S : ℕ → Type 0) (w : ℕ) (ws : List ℕ) → Away S (suc (length ws)) → Common S w → PassesFrom far (Reach far S w) d ws → PassesFrom far S d (w ∷ ws)
  unfolding Away Words Picks
  stage-on S w ws h k rest = record { words = (k.nonempty, k.byte, rest.words); right = right }
    where
      right : (s : ℕ) (ps : List ℕ) → S s → Picks ps (w ∷ ws) → Shortest far (switch s) (node d) ps
      right s [] i q = absurd q
      right s (p ∷ qs) i q = at (far s p) refl
        where
          o : Onward far d s p
          o = k.onward s p i q.0

          at : (x : Far) → far s p ≡ x → Shortest far (switch s) (node d) (p ∷ qs)
          at (switch t) e = shortest-cons far o e (rest.right t qs (record { «from» = s; by = p; there = i; permitted = q.0; link = e }) q.1)
          at (node n) e = last_word p qs ws (h s i) q.1 (onward-node far o e)
          at nothing e = absurd (onward-nothing far o e)

  -- and back
  pub stage-common : (S : ℕ → Type 0) (w : ℕ) (ws : List ℕ) → PassesFrom far S d (w ∷ ws) → Common S w
  unfolding Words Picks
  stage-common S w ws k = record {
    nonempty = k.words.0;
    byte = k.words.1;
    onward = λ s p i q. let r = some-picks ws k.words.2 in record { rest = r.0; short = k.right s (p ∷ r.0) i (q, r.1) };
  }

  pub stage-off : (S : ℕ → Type 0) (w : ℕ) (ws : List ℕ) → PassesFrom far S d (w ∷ ws) → PassesFrom far (Reach far S w) d ws
  unfolding Words Picks
  stage-off S w ws k = record { words = k.words.2; right = λ t ps r q. shortest-tail far r.link (k.right r.«from» (r.by ∷ ps) r.there (r.permitted, q)) }

  -- ---- all stages

  unfoldable pub Stages : (ℕ → Type 0) → List ℕ → Type 0
  Stages S [] = Unit {0}
  Stages S (w ∷ ws) = Common S w × Stages (Reach far S w) ws

  pub stages-pass : (ws : List ℕ) (S : ℕ → Type 0) → Away S (length ws) → Stages S ws ↔ PassesFrom far S d ws
  unfolding Stages Away Words
  stages-pass [] S h = (λ k. record { words = tt; right = λ s ps i _. absurd (never-zero far (h s i)) }, λ k. tt)
  stages-pass (w ∷ ws) S h = (
    λ k. stage-on S w ws h k.0 ((stages-pass ws (Reach far S w) (reach-away S w (length ws) h k.0)).0 k.1),
    λ k. let c = stage-common S w ws k in (c, (stages-pass ws (Reach far S w) (reach-away S w (length ws) h c)).1 (stage-off S w ws k)),
  )
