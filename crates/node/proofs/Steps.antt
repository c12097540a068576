-- Acts one after another
use Rattle.std.proofs.Common.{◌≡◌, refl, sym, subst, List, [], ◌∷◌, ◌++◌, Bool, true, false, ℕ}
use Rattle.std.specs.Prelude.{if◌then◌else◌}
use Rattle.cluster.specs.Cluster.{Cluster}
use Rattle.cluster.specs.Rules.{Act, Keeps, May, does, Run, after_run}
use Rattle.node.specs.Node.{TheNode}
use Rattle.node.specs.Stands.{Stands, GoesOn, Owes, Acts, Saves}
use Rattle.cluster.proofs.Goes.{goes-then}
use Rattle.node.proofs.Puts.{stays}

-- a run goes on
pub run-on : (c : Cluster) (acts more : List Act) → Run c acts → Run (after_run c acts) more → Run c (acts ++ more) × (after_run c (acts ++ more) ≡ after_run (after_run c acts) more)
run-on c [] more r q = (q, refl)
run-on c (a ∷ acts) more r q = let t = run-on (does c a) acts more r.1 q in ((r.0, t.0), t.1)

-- what a node owes it owes under its number in the cluster
pub owes-at : (given : Cluster → Type 0) (old new : TheNode) (c : Cluster) (p : ℕ) → Owes given old new → Stands old c p → given c → GoesOn p new c
owes-at given old new c p owed s g =
    let me : old.me ≡ p = s.me in
    subst (λ k. GoesOn k new c) me (owed c (subst (Stands old c) (sym me) s) g)

-- what it owes by its number that is told that its checkpoint is durable, and waits for that
pub saves-at : (old new : TheNode) (c : Cluster) (p : ℕ) → Saves old new → old.frozen ≡ true → Stands old c p → May c (Keeps p) × GoesOn p new (does c (Keeps p))
saves-at old new c p owed e s =
    let P : ℕ → Type 0 = λ q. May c (Keeps q) × GoesOn q new (does c (Keeps q)) in
    subst P s.me (owed.1 e c (subst (Stands old c) (sym s.me) s))

pub owes-then : (given : Cluster → Type 0) (old mid new : TheNode) → Owes given old mid → Acts mid new → Owes given old new
owes-then given old mid new f g c s h = goes-then true old.me (λ d. Stands mid d old.me) (λ d. Stands new d old.me) c (f c s h) (λ d t. owes-at (λ e. Unit {0}) mid new d old.me g t tt)

pub acts-self : (n : TheNode) → Acts n n
acts-self n c s u = stays n c s

pub acts-then : (old mid new : TheNode) → Acts old mid → Acts mid new → Acts old new
acts-then old mid new f g = owes-then (λ c. Unit {0}) old mid new f g

-- what holds of both branches holds of the one that is taken
pub by-if : (P : TheNode → Type 0) (b : Bool) (x y : TheNode) → (b ≡ true → P x) → (b ≡ false → P y) → P (if b then x else y)
by-if P true x y f g = f refl
by-if P false x y f g = g refl
