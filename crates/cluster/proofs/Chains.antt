-- Worked runs, step by step
use Rattle.std.proofs.Common.{◌≡◌, ◌≢◌, ℕ, zero, suc, ◌<◌, ◌≤◌, List, [], ◌∷◌, ◌++◌, false, refl, arith}
use Rattle.std.specs.Prelude.{◌==◌}
use Rattle.theorems.proofs.Tests.{different}
use Rattle.cluster.specs.Cluster.{Cluster, WINDOW}
use Rattle.cluster.specs.Rules.{Act, Run, does, after_run}

infixr 1 ◌▸◌
-- a step, and those behind it
abbrev pub ◌▸◌ : {A B : Type 0} → A → B → A × B
a ▸ b = (a, b)

-- a run, and one more from where it ends
pub then-run : (c : Cluster) (acts more : List Act) → Run c acts → Run (after_run c acts) more → Run c (acts ++ more)
then-run c [] more r q = q
then-run c (a ∷ acts) more r q = (r.0, then-run (does c a) acts more r.1 q)

-- so few numbers that aren't acknowledged leave room for one more
pub few : (k : ℕ) → k < 3 → k < WINDOW
unfolding WINDOW
few k l = omega arith

-- numbers that a test tells apart
pub apart : (p q : ℕ) → (p == q) ≡ false → p ≢ q
apart p q e = different p q e

-- what holds of the others of one node, of two, and of three
pub of-one : (P : ℕ → Type 0) → P 0 → (q : ℕ) → q ≤ 1 → q ≢ 1 → P q
of-one P h zero a n = h
of-one P h (suc zero) a n = absurd (n refl)
of-one P h (suc (suc q)) a n = absurd (omega arith)

pub one-of-two : (P : ℕ → Type 0) → P 0 → P 2 → (q : ℕ) → q ≤ 2 → q ≢ 1 → P q
one-of-two P h k zero a n = h
one-of-two P h k (suc zero) a n = absurd (n refl)
one-of-two P h k (suc (suc zero)) a n = k
one-of-two P h k (suc (suc (suc q))) a n = absurd (omega arith)

pub two-of-two : (P : ℕ → Type 0) → P 0 → P 1 → (q : ℕ) → q ≤ 2 → q ≢ 2 → P q
two-of-two P h k zero a n = h
two-of-two P h k (suc zero) a n = k
two-of-two P h k (suc (suc zero)) a n = absurd (n refl)
two-of-two P h k (suc (suc (suc q))) a n = absurd (omega arith)

pub one-of-three : (P : ℕ → Type 0) → P 0 → P 2 → P 3 → (q : ℕ) → q ≤ 3 → q ≢ 1 → P q
one-of-three P h i j zero a n = h
one-of-three P h i j (suc zero) a n = absurd (n refl)
one-of-three P h i j (suc (suc zero)) a n = i
one-of-three P h i j (suc (suc (suc zero))) a n = j
one-of-three P h i j (suc (suc (suc (suc q)))) a n = absurd (omega arith)
