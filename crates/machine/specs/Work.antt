-- What a process works on, by its mode: the phase of the world that it is in, and what it may handle next
use Rattle.std.specs.Prelude.{◌≡◌, ℕ, ◌+◌, ◌<◌, suc, List, ◌++◌, length, take, slice_get, slice_index_or, Option, Some, None, is_some}
use Rattle.std.specs.Prelude.{Bool, false}
use Rattle.replay.specs.Plan.{ThePlan}
use Rattle.world.specs.declared.message.Message.{Message}
use Rattle.world.specs.History.{count_of}
use Rattle.world.specs.Phases.{Phase, those, Up, Busy, Down, Replaying, Resync}
use Rattle.session_process.specs.declared.mode.Mode.{Mode}
use Rattle.session_process.specs.declared.mode.Mode.TheVariants as modes

-- its phase among n processes, with this open job
abbrev pub phase_of : ℕ → Mode → Option Message → Phase
phase_of n modes.Live None = Up
phase_of n modes.Live (Some m) = Busy m
phase_of n modes.Down working = Down
phase_of n (modes.Replaying plan alone) working = Replaying plan.replayed (is_some working) alone
phase_of n (modes.Resync peers) working = Resync (those (λ q. slice_index_or peers.todo q false) n)

-- the messages of its history that are in its state, if its checkpoint covers this many of them
abbrev pub held_by : Mode → ℕ → List Message → List Message
held_by modes.Live saved h = h
held_by modes.Down saved h = take 0 h
held_by (modes.Replaying plan alone) saved h = take (saved + plan.replayed) h
held_by (modes.Resync peers) saved h = h

-- the message that a process works on is the next of its sender
abbrev pub IsNextAfter : List Message → Option Message → Type 0
IsNextAfter h None = Unit {0}
IsNextAfter h (Some m) = m.ssn ≡ suc (count_of m.sender h)

-- a message that is replayed is the next of the plan
abbrev pub IsNextIn : ThePlan → Option Message → Type 0
IsNextIn plan None = Unit {0}
IsNextIn plan (Some m) = slice_get plan.messages plan.replayed ≡ Some m

-- the plan is what follows the checkpoint in the history, and some of it is still to be replayed
pub record Replays (plan : ThePlan) (working : Option Message) (saved : ℕ) (h : List Message) : Type 0 where
  pub before : plan.before ≡ saved
  pub messages : take saved h ++ plan.messages ≡ h
  pub left : plan.replayed < length plan.messages
  pub next : IsNextIn plan working

-- what a process with this history may work on
abbrev pub MayWork : Mode → Option Message → ℕ → List Message → Type 0
MayWork modes.Live working saved h = IsNextAfter h working
MayWork modes.Down working saved h = working ≡ None
MayWork (modes.Replaying plan alone) working saved h = Replays plan working saved h
MayWork (modes.Resync peers) working saved h = working ≡ None

-- a process may begin to work on this message: it is up, or replays and the message is the next of its plan
abbrev pub IsNextFor : Mode → Message → Type 0
IsNextFor modes.Live m = Unit {0}
IsNextFor modes.Down m = ⊥
IsNextFor (modes.Replaying plan alone) m = slice_get plan.messages plan.replayed ≡ Some m
IsNextFor (modes.Resync peers) m = ⊥

-- while a process replays, it has received as many messages as its plan says, and works on the plan's next message or on none
abbrev pub IsInPlan : Mode → Option Message → ℕ → Type 0
IsInPlan modes.Live working n = Unit {0}
IsInPlan modes.Down working n = working ≡ None
IsInPlan (modes.Replaying plan alone) working n = (plan.before + plan.replayed ≡ n) × IsNextIn plan working
IsInPlan (modes.Resync peers) working n = working ≡ None

-- whether this peer is left
abbrev pub is_to_do : Mode → ℕ → Bool
is_to_do modes.Live r = false
is_to_do modes.Down r = false
is_to_do (modes.Replaying plan alone) r = false
is_to_do (modes.Resync peers) r = slice_index_or peers.todo r false
