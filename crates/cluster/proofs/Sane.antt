-- Of whom nodes have heard, and from whom they restore their numbers
use Rattle.std.proofs.Common.{◌≡◌, ◌≢◌, ℕ, zero, suc, ◌<◌, ◌≤◌, List, [], ◌∷◌, length, Bool, true, false, refl, sym, ap, ◌∙◌, subst, arith}
use Rattle.std.specs.Prelude.{not, ◌&&◌, ◌||◌, ◌==◌, if◌then◌else◌}
use Rattle.std.proofs.lemmas.Bool.Decides.{nat_tests}
use Rattle.world.specs.Phases.{Phase, is_up, todo_of, has, without, those}
use Rattle.world.specs.World.{put}
use Rattle.world.specs.Calls.{phase_with, peers}
use Rattle.theorems.proofs.Changes.{choose}
use Rattle.theorems.proofs.Tests.{both}
use Rattle.cluster.specs.Cluster.{Cluster}
use Rattle.cluster.specs.Rules.{IsNode}

-- nobody has heard of an incarnation that isn't stored
abbrev pub Low : Cluster → Type 0
Low c = (q p : ℕ) → c.heard q p ≤ c.stored p

-- a node restores its numbers from other nodes
abbrev pub Todo : Cluster → Type 0
Todo c = (p q : ℕ) → has (todo_of (c.world.phase p)) q ≡ true → IsNode c q × (q ≢ p)

-- lists of peers

pub those-has : (test : ℕ → Bool) (n q : ℕ) → has (those test n) q ≡ true → (test q ≡ true) × (0 < q) × (q ≤ n)
those-has test zero q e = absurd (cc)
those-has test (suc k) q e = split (test (suc k)) refl e (those-has test k q)
  where
    split : (t : Bool) → test (suc k) ≡ t → has (if t then suc k ∷ those test k else those test k) q ≡ true → (has (those test k) q ≡ true → (test q ≡ true) × (0 < q) × (q ≤ k)) → (test q ≡ true) × (0 < q) × (q ≤ suc k)
    split false t e more = let r = more e in let l : q ≤ k = r.2 in (r.0, r.1, omega arith)
    split true t e more = here (q == suc k) refl e
      where
        here : (b : Bool) → (q == suc k) ≡ b → (b || has (those test k) q) ≡ true → (test q ≡ true) × (0 < q) × (q ≤ suc k)
        here true f e = let same : suc k ≡ q = grind (arith, nat_tests) in let P : ℕ → Type 0 = λ i. test i ≡ true in (subst P same t, (omega arith), (omega arith))
        here false f e = let r = more e in let l : q ≤ k = r.2 in (r.0, r.1, omega arith)

pub without-less : (ps : List ℕ) (r q : ℕ) → has (without ps r) q ≡ true → has ps q ≡ true
without-less [] r q e = e
without-less (x ∷ ps) r q e = split (x == r) e (without-less ps r q)
  where
    go : (c : Bool) → (has (without ps r) q ≡ true → has ps q ≡ true) → (c || has (without ps r) q) ≡ true → (c || has ps q) ≡ true
    go true more e = refl
    go false more e = more e

    whole : (c : Bool) → has ps q ≡ true → (c || has ps q) ≡ true
    whole true e = refl
    whole false e = e

    split : (b : Bool) → has (if b then without ps r else x ∷ without ps r) q ≡ true → (has (without ps r) q ≡ true → has ps q ≡ true) → ((q == x) || has ps q) ≡ true
    split true e more = whole (q == x) (more e)
    split false e more = go (q == x) more e

pub without-shorter : (ps : List ℕ) (r : ℕ) → length (without ps r) ≤ length ps
without-shorter [] r = omega arith
without-shorter (x ∷ ps) r = split (x == r) (without-shorter ps r)
  where
    split : (b : Bool) → length (without ps r) ≤ length ps → length (if b then without ps r else x ∷ without ps r) ≤ suc (length ps)
    split true l = omega arith
    split false l = omega arith

with-todo : (ps : List ℕ) → todo_of (phase_with ps) ≡ ps
with-todo [] = refl
with-todo (p ∷ ps) = refl

-- p turns to a phase in which it restores from other nodes
pub todo-turn : (c : Cluster) (p : ℕ) (x : Phase) → ((q : ℕ) → has (todo_of x) q ≡ true → IsNode c q × (q ≢ p)) → Todo c → (j q : ℕ) → has (todo_of (put c.world.phase p x j)) q ≡ true → IsNode c q × (q ≢ j)
todo-turn c p x t h = choose p (λ j b. (q : ℕ) → has (todo_of (if b then x else c.world.phase j)) q ≡ true → IsNode c q × (q ≢ j)) t (λ j _. h j)

pub todo-with : (c : Cluster) (p : ℕ) (ps : List ℕ) → ((q : ℕ) → has ps q ≡ true → IsNode c q × (q ≢ p)) → (q : ℕ) → has (todo_of (phase_with ps)) q ≡ true → IsNode c q × (q ≢ p)
todo-with c p ps t q e = t q (sym (ap (λ xs. has xs q) (with-todo ps)) ∙ e)

pub peers-nodes : (c : Cluster) (p q : ℕ) → has (peers c.world p false) q ≡ true → IsNode c q × (q ≢ p)
peers-nodes c p q e =
    let t = those-has (λ a. not (a == p) && (not false || is_up (c.world.phase a))) c.world.count q e in
    ((t.1, t.2), other (q == p) refl (both (not (q == p)) true t.0).0)
  where
    other : (b : Bool) → (q == p) ≡ b → not b ≡ true → q ≢ p
    other true f n = absurd (cc)
    other false f n = grind (arith, nat_tests)
