-- What a phase says
use Rattle.std.proofs.Common.{◌≡◌, ℕ, ◌≤◌, List, length, true, false, refl, arith, [], ◌∷◌, Bool}
use Rattle.std.specs.Prelude.{not}
use Rattle.world.specs.declared.message.Message.{Message}
use Rattle.world.specs.Phases.{Phase, Up, Busy, Down, Replaying, Resync, is_down, is_up, is_busy, todo_of, has}
use Rattle.world.specs.World.{World}
use Rattle.world.specs.Logs.{length_in}
use Rattle.world.specs.Calls.{phase_with}
use Rattle.theorems.specs.Invariants.Exact.{JobSafe, is_restored, is_alone}
use Rattle.theorems.specs.Invariants.Sound.{JobNext, Replays, is_recovering}

pub up-restored : (x : Phase) → is_up x ≡ true → (p : ℕ) → is_restored x p ≡ true
up-restored Up e p = refl
up-restored (Busy m) e p = refl
up-restored Down e p = absurd (cc)
up-restored (Replaying j working alone) e p = absurd (cc)
up-restored (Resync todo) e p = absurd (cc)

pub up-down : (x : Phase) → is_up x ≡ true → is_down x ≡ false
up-down Up e = refl
up-down (Busy m) e = refl
up-down Down e = absurd (cc)
up-down (Replaying j working alone) e = absurd (cc)
up-down (Resync todo) e = absurd (cc)

pub up-length : (x : Phase) → is_up x ≡ true → (h : List Message) (saved : ℕ) → length_in h saved x ≡ length h
up-length Up e h saved = refl
up-length (Busy m) e h saved = refl
up-length Down e h saved = absurd (cc)
up-length (Replaying j working alone) e h saved = absurd (cc)
up-length (Resync todo) e h saved = absurd (cc)

-- who is up, and has no live job open, waits
pub up-phase : (x : Phase) → is_up x ≡ true → is_busy x ≡ false → x ≡ Up
up-phase Up e f = refl
up-phase (Busy m) e f = absurd (cc)
up-phase Down e f = absurd (cc)
up-phase (Replaying j working alone) e f = absurd (cc)
up-phase (Resync todo) e f = absurd (cc)

pub down-phase : (x : Phase) → is_down x ≡ true → x ≡ Down
down-phase Up e = absurd (cc)
down-phase (Busy m) e = absurd (cc)
down-phase Down e = refl
down-phase (Replaying j working alone) e = absurd (cc)
down-phase (Resync todo) e = absurd (cc)

-- who has a peer to do restores numbers
pub resync-phase : (x : Phase) (r : ℕ) → has (todo_of x) r ≡ true → (todo : List ℕ) × (x ≡ Resync todo)
resync-phase Up r e = absurd (cc)
resync-phase (Busy m) r e = absurd (cc)
resync-phase Down r e = absurd (cc)
resync-phase (Replaying j working alone) r e = absurd (cc)
resync-phase (Resync todo) r e = (todo, refl)

-- a process that is done replaying, with these peers to do, isn't down
pub with-down : (rs : List ℕ) → is_down (phase_with rs) ≡ false
with-down [] = refl
with-down (r ∷ rs) = refl

-- nor does it replay after it came back alone
pub with-alone : (rs : List ℕ) → is_alone (phase_with rs) ≡ false
with-alone [] = refl
with-alone (r ∷ rs) = refl

-- nor work on a message that would have to be its sender's next
pub with-next : (rs : List ℕ) (n p : ℕ) (h : List Message) → JobNext n p h (phase_with rs)
with-next [] n p h = tt
with-next (r ∷ rs) n p h = tt

-- or safe
pub with-safe : (rs : List ℕ) (w : World) (p : ℕ) → JobSafe w p (phase_with rs)
with-safe [] w p = tt
with-safe (r ∷ rs) w p = tt

-- nor is anything left that it would have to replay
pub with-replays : (rs : List ℕ) (saved n : ℕ) → Replays saved n (phase_with rs)
with-replays [] saved n = tt
with-replays (r ∷ rs) saved n = tt

-- its state has its whole history
pub with-length : (rs : List ℕ) (h : List Message) (saved : ℕ) → length_in h saved (phase_with rs) ≡ length h
with-length [] h saved = refl
with-length (r ∷ rs) h saved = refl

-- and a peer that told it its numbers is none of these
pub with-restored : (rs : List ℕ) (q : ℕ) → is_restored (phase_with rs) q ≡ true → has rs q ≡ false
with-restored [] q e = refl
with-restored (r ∷ rs) q e = split (has (r ∷ rs) q) refl e
  where
    split : (b : Bool) → has (r ∷ rs) q ≡ b → not b ≡ true → has (r ∷ rs) q ≡ false
    split true f e = absurd (cc)
    split false f e = f

pub recovering-down : (x : Phase) → is_recovering x ≡ true → is_down x ≡ false
recovering-down Up e = absurd (cc)
recovering-down (Busy m) e = absurd (cc)
recovering-down Down e = absurd (cc)
recovering-down (Replaying j working alone) e = refl
recovering-down (Resync todo) e = refl

-- no process recovers and is up at once
pub recovering-idle : (x : Phase) → is_recovering x ≡ true → is_up x ≡ true → ⊥
recovering-idle Up e u = absurd (cc)
recovering-idle (Busy m) e u = absurd (cc)
recovering-idle Down e u = absurd (cc)
recovering-idle (Replaying j working alone) e u = absurd (cc)
recovering-idle (Resync todo) e u = absurd (cc)

-- a process that recovers has no more in its state than it received
pub recovering-length : (x : Phase) (h : List Message) (saved : ℕ) → is_recovering x ≡ true → Replays saved (length h) x → length_in h saved x ≤ length h
recovering-length Up h saved e r = absurd (cc)
recovering-length (Busy m) h saved e r = absurd (cc)
recovering-length Down h saved e r = absurd (cc)
recovering-length (Replaying j working alone) h saved e r = omega arith
recovering-length (Resync todo) h saved e r = omega arith
