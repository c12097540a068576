-- What the rules let one do that replays
use Rattle.std.proofs.Common.{zero, suc, None, Some, ◌≡◌, ◌⊎◌, inl, inr, ℕ, true, false, refl, sym, ◌∙◌, subst, arith}
use Rattle.world.specs.Phases.{Replaying, todo_of, has, is_replaying}
use Rattle.cluster.specs.Parcels.{Body, Delivery, Number, Acknowledgement, Ask, Told, Resume, Restored}
use Rattle.cluster.specs.Cluster.{Cluster, Live, Frozen, Dead, Collecting, is_well, takes}
use Rattle.cluster.specs.Rules.{Input, Puts, Arrives, Replays, Recovers, Keeps, Thaws, Dies, Opens, MayPut}
use Rattle.recovery.specs.Replays.{TheReplaying, is_over}
use Rattle.recovery.specs.StandsAtReplay.{StandsReplaying, IsReplay, OnlyReplays}

module _ (n : TheReplaying) (c : Cluster) (p : ℕ) (s : StandsReplaying n c p) (left : is_over n ≡ false) where
  not-well : is_well c p ≡ true → ⊥
  not-well e = let g : c.greeted p ≡ false = s.greeted in let f : is_well c p ≡ false = rw (s.stage, g) refl in absurd (cc (e, f))

  not-takes : takes c p ≡ true → ⊥
  not-takes e = let g : c.greeted p ≡ false = s.greeted in let f : takes c p ≡ false = rw (s.stage, g) refl in absurd (cc (e, f))

  phase-is : c.world.phase p ≡ Replaying n.done false false
  phase-is = s.phase ∙ rw left refl

  none-to-do : (q : ℕ) → has (todo_of (c.world.phase p)) q ≡ true → ⊥
  none-to-do q e = let f : has (todo_of (c.world.phase p)) q ≡ false = rw phase-is refl in absurd (cc (e, f))

  not-collecting : c.stage p ≡ Collecting → ⊥
  not-collecting e = let f : Live ≡ Collecting = sym s.stage ∙ e in absurd (cc f)

  not-frozen : c.stage p ≡ Frozen → ⊥
  not-frozen e = let f : Live ≡ Frozen = sym s.stage ∙ e in absurd (cc f)

  not-dead : c.stage p ≡ Dead → ⊥
  not-dead e = let f : Live ≡ Dead = sym s.stage ∙ e in absurd (cc f)

  replays-next : (j : ℕ) → c.world.phase p ≡ Replaying j false false → j ≡ n.done
  replays-next j e = let f : Replaying j false false ≡ Replaying n.done false false = sym e ∙ phase-is in (cc f)

  puts-only : (d : ℕ) (x : Body) → MayPut c p d x → IsReplay n (Puts p d x)
  puts-only d (Acknowledgement i k) m = m
  puts-only d (Ask i k) m = not-collecting m.0
  puts-only d (Resume i k t) m = tt
  puts-only d other m = not-well m.0

  hears-none : (takes c p ≡ true) ⊎ (c.stage p ≡ Collecting) → ⊥
  hears-none (inl e) = not-takes e
  hears-none (inr e) = not-collecting e

-- the act is that of its process, which it stands for
pub only-replays : OnlyReplays
only-replays n c p (Input d x) s left may by = absurd (omega (arith, by, s.own.inside.0))
only-replays n c p (Puts q d x) s left may by = let P : ℕ → Type 0 = λ z. MayPut c z d x → IsReplay n (Puts z d x) in subst P (sym by) (puts-only n c p s left d x) may.3
only-replays n c p (Arrives q (suc d) (Delivery i ssn x)) s left may by = let P : ℕ → Type 0 = λ z. takes c z ≡ true in not-takes n c p s left (subst P by may.1.1)
only-replays n c p (Arrives q zero (Delivery i ssn x)) s left may by = absurd (omega (arith, by, s.own.inside.0))
only-replays n c p (Replays q j) s left may by = let P : ℕ → Type 0 = λ z. c.world.phase z ≡ Replaying j false false in replays-next n c p s left j (subst P by may.2)
only-replays n c p (Arrives r q (Number i ssn k)) s left may by = let P : ℕ → Type 0 = λ z. takes c z ≡ true in not-takes n c p s left (subst P by may.1.0)
only-replays n c p (Arrives q r (Acknowledgement i k)) s left may by = let P : ℕ → Type 0 = λ z. takes c z ≡ true in not-takes n c p s left (subst P by may.1.1)
only-replays n c p (Arrives r q (Ask i k)) s left may by = let P : ℕ → Type 0 = λ z. (takes c z ≡ true) ⊎ (c.stage z ≡ Collecting) in hears-none n c p s left (subst P by may.1.1)
only-replays n c p (Arrives r q (Told i j k u f)) s left may by = let P : ℕ → Type 0 = λ z. c.stage z ≡ Collecting in not-collecting n c p s left (subst P by may.1.0)
only-replays n c p (Recovers q k) s left may by = let P : ℕ → Type 0 = λ z. c.stage z ≡ Collecting in not-collecting n c p s left (subst P by may.1)
only-replays n c p (Arrives r q (Resume i k t)) s left may by = let P : ℕ → Type 0 = λ z. takes c z ≡ true in not-takes n c p s left (subst P by may.1.0)
only-replays n c p (Arrives r q (Restored i j k t (Some u) f)) s left may by = let P : ℕ → Type 0 = λ z. has (todo_of (c.world.phase z)) r ≡ true in none-to-do n c p s left r (subst P by may.1.3)
only-replays n c p (Arrives (suc r) q (Restored i j k t None f)) s left may by = let P : ℕ → Type 0 = λ z. has (todo_of (c.world.phase z)) (suc r) ≡ true in none-to-do n c p s left (suc r) (subst P by may.1.3)
only-replays n c p (Arrives zero q (Restored i j k t None f)) s left may by =
    let P : ℕ → Type 0 = λ z. is_replaying (c.world.phase z) ≡ false in
    let f : is_replaying (c.world.phase p) ≡ true = rw (phase-is n c p s left) refl in
    absurd (cc (subst P by may.1.3, f))
only-replays n c p (Keeps q) s left may by = let P : ℕ → Type 0 = λ z. c.stage z ≡ Frozen in not-frozen n c p s left (subst P by may.1)
only-replays n c p (Thaws q) s left may by = let P : ℕ → Type 0 = λ z. c.stage z ≡ Frozen in not-frozen n c p s left (subst P by may.1)
only-replays n c p (Dies q) s left may by = tt
only-replays n c p (Opens q k) s left may by = let P : ℕ → Type 0 = λ z. c.stage z ≡ Dead in not-dead n c p s left (subst P by may.1)
only-replays n c p other s left may by = let P : ℕ → Type 0 = λ z. takes c z ≡ true in not-takes n c p s left (subst P by may.1)
