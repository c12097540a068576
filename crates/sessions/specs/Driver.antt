-- Calls that are picked and made, with the jobs that they start
use Rattle.std.specs.Prelude.{◌≡◌, ℕ, ◌+◌, ◌-◌, ◌<◌, ◌≤◌, ◌⊎◌, List, [], ◌∷◌, ◌++◌, length, Option, Some, None, Result, Ok, Err}
use Rattle.limits.specs.declared.TheConstants.{ENTRIES}
use Rattle.world.specs.declared.call.Call.{Call}
use Rattle.world.specs.declared.call.Call.TheVariants.{Finish}
use Rattle.world.specs.declared.answer.Answer.{Answer}
use Rattle.world.specs.declared.entry.Entry.{Entry}
use Rattle.world.specs.declared.refusal.Refusal.{Refusal}
use Rattle.world.specs.declared.refusal.Refusal.TheVariants.{Memory}
use Rattle.world.specs.World.{World}
use Rattle.world.specs.Calls.{after}
use Rattle.machine.specs.Choice.{IsPick}
use Rattle.machine.specs.Dispatch.{job_of}
use Rattle.machine.specs.declared.dispatch.Reply.{Reply}
use Rattle.sessions.specs.Job.{TheJob}
use Rattle.sessions.specs.Seats.{TheSeat}
use Rattle.sessions.specs.Journal.{TheSession, world_at, room_at, Adds, IsOpenAt}

-- each of these entries of a worker is a call that can be picked at that point, before the budget is reached, or the finish of the
-- job that the entry before it started. job is the process whose job is open before them, and left the one after them
abbrev pub Drives : ℕ → ℕ → ℕ → Option ℕ → World → List Entry → Option ℕ → Type 0
Drives worker budget room job w [] left = job ≡ left
Drives worker budget room None w (e ∷ es) left =
    (0 < budget) × (e.worker ≡ worker) × IsPick w room e.call
    × Drives worker (budget - 1) (room - 1) (job_of w e.call e.answer) (after w e.call e.answer) es left
Drives worker budget room (Some p) w (e ∷ es) left =
    (e.worker ≡ worker) × (e.call ≡ Finish p) × Drives worker (budget - 1) (room - 1) None (after w e.call e.answer) es left

-- the session and the seat after n more calls, which are driven
pub record Advances (budget : ℕ) (old new : TheSession) (by by' : TheSeat) (n : ℕ) (left : Option ℕ) : Type 0 where
  pub added : List Entry
  pub as_many : length added ≡ n
  pub entries : new ≡ record old { entries = old.entries ++ added }
  pub seat : by' ≡ record by { answered = by.answered + n }
  pub run : Drives by.worker budget (room_at old) None (world_at old) added left

-- no call can be picked
abbrev pub IsQuiet : TheSession → Type 0
IsQuiet s = (call : Call) → ¬ IsPick (world_at s) (room_at s) call

-- no call could be picked in an empty journal either: nothing is left to do
abbrev pub IsDone : TheSession → Type 0
IsDone s = (call : Call) → ¬ IsPick (world_at s) ENTRIES call

-- the job of this process is started and open, or there is none
abbrev pub Starts : TheSession → Option ℕ → Option TheJob → Type 0
Starts s p None = p ≡ None
Starts s p (Some job) = (p ≡ Some job.task.who.me) × IsOpenAt s job

-- an accepted call hands out the job that it starts, which is open
abbrev pub StartsJob : TheSession → TheSession → Call → Reply TheJob → Type 0
StartsJob old new call reply = Starts new (job_of (world_at old) call reply.answer) reply.job

-- what a picked call guarantees: it is accepted, and hands out the job that it starts; or memory ran out, and nothing has changed
abbrev pub Makes : TheSession → TheSession → TheSeat → TheSeat → Call → Result (Option TheJob) Refusal → Type 0
Makes old new by by' call (Ok job) = (answer : Answer) × Adds old new by by' call (Ok answer)
    × Starts new (job_of (world_at old) call answer) job
Makes old new by by' call (Err r) = (r ≡ Memory) × (new ≡ old) × (by' ≡ by)

-- what a drive guarantees: it ends with no job of its own open, when the budget is reached or no call can be picked; or memory ran
-- out, and earlier calls stay accepted
abbrev pub Driven : ℕ → TheSession → TheSession → TheSeat → TheSeat → Result ℕ Refusal → Type 0
Driven budget old new by by' (Ok n) = Advances budget old new by by' n None × ((budget ≤ n) ⊎ IsQuiet new)
Driven budget old new by by' (Err r) = (r ≡ Memory) × ((n : ℕ) × (left : Option ℕ) × Advances budget old new by by' n left)
