-- What a process is doing
use Rattle.std.specs.Prelude.{ℕ, suc, zero, List, [], ◌∷◌, Bool, true, false, ◌||◌, ◌==◌, if◌then◌else◌}
use Rattle.world.specs.declared.message.Message.{Message}
use Rattle.world.specs.declared.phase.PhaseName.{PhaseName}
use Rattle.world.specs.declared.phase.PhaseName.TheVariants as names

-- the phases: waiting; busy with a message; crashed; replaying, with how many are replayed, whether a job is open, and whether it
-- came back alone; restoring numbers, with the peers that are left
pub data Phase : Type 0 where
  Up : Phase
  Busy : Message → Phase
  Down : Phase
  Replaying : ℕ → Bool → Bool → Phase
  Resync : List ℕ → Phase

-- the phase's name alone
abbrev pub name_of : Phase → PhaseName
name_of Up = names.Up
name_of (Busy m) = names.Busy
name_of Down = names.Down
name_of (Replaying j working alone) = names.Replaying
name_of (Resync todo) = names.Resync

-- whether it takes calls: it waits, or has an open live job
abbrev pub is_up : Phase → Bool
is_up Up = true
is_up (Busy m) = true
is_up Down = false
is_up (Replaying j working alone) = false
is_up (Resync todo) = false

-- whether it has crashed and its recovery has not begun
abbrev pub is_down : Phase → Bool
is_down Up = false
is_down (Busy m) = false
is_down Down = true
is_down (Replaying j working alone) = false
is_down (Resync todo) = false

-- whether it has an open live job
abbrev pub is_busy : Phase → Bool
is_busy Up = false
is_busy (Busy m) = true
is_busy Down = false
is_busy (Replaying j working alone) = false
is_busy (Resync todo) = false

-- whether it has an open job, live or replayed
abbrev pub is_working : Phase → Bool
is_working Up = false
is_working (Busy m) = true
is_working Down = false
is_working (Replaying j working alone) = working
is_working (Resync todo) = false

-- whether some of its plan is still to be replayed
abbrev pub is_replaying : Phase → Bool
is_replaying Up = false
is_replaying (Busy m) = false
is_replaying Down = false
is_replaying (Replaying j working alone) = true
is_replaying (Resync todo) = false

-- the peers from which numbers are still to be restored
abbrev pub todo_of : Phase → List ℕ
todo_of Up = []
todo_of (Busy m) = []
todo_of Down = []
todo_of (Replaying j working alone) = []
todo_of (Resync todo) = todo

-- whether this process is in a list
abbrev pub has : List ℕ → ℕ → Bool
has [] q = false
has (p ∷ ps) q = (q == p) || has ps q

-- the list without this process
abbrev pub without : List ℕ → ℕ → List ℕ
without [] q = []
without (p ∷ ps) q = if p == q then without ps q else p ∷ without ps q

-- the processes from 1 to n that pass the test, the last first
abbrev pub those : (ℕ → Bool) → ℕ → List ℕ
those test zero = []
those test (suc k) = if test (suc k) then suc k ∷ those test k else those test k
