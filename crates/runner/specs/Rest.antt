-- What a session leaves undone.
use Rattle.std.specs.Prelude.{◌≡◌, ◌≢◌, ℕ, ◌<◌, ◌≤◌, length, true, false}
use Rattle.limits.specs.declared.TheConstants.{ENTRIES}
use Rattle.world.specs.declared.phase.PhaseName.{PhaseName}
use Rattle.world.specs.declared.phase.PhaseName.TheVariants as names
use Rattle.world.specs.Phases.{is_up, is_working, name_of}
use Rattle.machine.specs.Choice.{IsPick}
use Rattle.sessions.specs.Driver.{IsDone}
use Rattle.sessions.specs.Journal.{TheSession, room_at, world_at}
use Rattle.hints.specs.declared.rest.Rest.{Rest}
use Rattle.hints.specs.declared.rest.Rest.TheVariants.{Down, DownBeside, Held, Next, Full, Nothing}

-- each process but this one is up
abbrev pub AreOthersUp : TheSession → ℕ → Type 0
AreOthersUp s p = (q : ℕ) → 0 < q → q ≤ length s.images → q ≢ p → is_up ((world_at s).phase q) ≡ true

-- no process is in a phase of this name
abbrev pub AreNoneIn : TheSession → PhaseName → Type 0
AreNoneIn s name = (p : ℕ) → 0 < p → p ≤ length s.images → name_of ((world_at s).phase p) ≢ name

-- no process has an open job
abbrev pub AreNoneWorking : TheSession → Type 0
AreNoneWorking s = (p : ℕ) → 0 < p → p ≤ length s.images → is_working ((world_at s).phase p) ≡ false

-- what is named is so: the process is down, alone or beside another one that isn't up; it has an open job; the call can be picked,
-- or could be if the journal had no end; or no call and no open job is left
abbrev pub Leaves : TheSession → Rest → Type 0
Leaves s (Down process) = (name_of ((world_at s).phase process) ≡ names.Down) × AreOthersUp s process
Leaves s (DownBeside process other) =
    (name_of ((world_at s).phase process) ≡ names.Down) × (other ≢ process) × (is_up ((world_at s).phase other) ≡ false)
Leaves s (Held process) = is_working ((world_at s).phase process) ≡ true
Leaves s (Next call) = IsPick (world_at s) (room_at s) call
Leaves s (Full call) = IsPick (world_at s) ENTRIES call
Leaves s Nothing = IsDone s × AreNoneWorking s
