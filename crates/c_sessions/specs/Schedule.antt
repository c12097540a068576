-- What an arrival in a program's own order does
use Rattle.std.specs.Prelude.{◌≡◌, ◌⊎◌, ℕ, Option, Some, None, Ok, Err}
use Rattle.world.specs.declared.call.Call.TheVariants.{Arrive, Finish}
use Rattle.world.specs.declared.answer.Answer.{Answer}
use Rattle.world.specs.declared.entry.Entry.{Entry}
use Rattle.world.specs.declared.refusal.Refusal.{Refusal}
use Rattle.world.specs.declared.refusal.Refusal.TheVariants.{Memory}
use Rattle.machine.specs.Dispatch.{job_of}
use Rattle.sessions.specs.Journal.{TheSession, entry, world_at}
use Rattle.sessions.specs.Service.{KeepsPromises, Owes}
use Rattle.c_sessions.specs.declared.entry.Record.{Record}
use Rattle.c_sessions.specs.declared.fault.SessionFault.{SessionFault}
use Rattle.c_sessions.specs.declared.fault.SessionFault.TheVariants.{Session, Handle}
use Rattle.c_sessions.specs.Entries.{record_of}

-- the packet with this key arrived and started no job, and e is the entry of the arrival
pub record Lands (key : ℕ) (old new : TheSession) (e : Entry) : Type 0 where
  pub answer : Answer
  pub arrives : Owes old new (Arrive key) (Ok answer)
  pub jobless : job_of (world_at old) (Arrive key) answer ≡ None
  pub told : e ≡ entry 0 (Arrive key) answer

-- the packet started the job of a process, whose result was committed, and e is the entry of that
pub record Runs (key : ℕ) (old new : TheSession) (e : Entry) : Type 0 where
  pub process : ℕ
  pub mid : TheSession
  pub started : Answer
  pub ended : Answer
  pub arrives : Owes old mid (Arrive key) (Ok started)
  pub starts : job_of (world_at old) (Arrive key) started ≡ Some process
  pub finishes : Owes mid new (Finish process) (Ok ended)
  pub told : e ≡ entry 0 (Finish process) ended

-- the packet started the job of a process, which is open
pub record LeavesOpen (key : ℕ) (old new : TheSession) : Type 0 where
  pub process : ℕ
  pub started : Answer
  pub arrives : Owes old new (Arrive key) (Ok started)
  pub starts : job_of (world_at old) (Arrive key) started ≡ Some process

-- what the packet did
abbrev pub Arrives : ℕ → TheSession → TheSession → Entry → Type 0
Arrives key old new e = Lands key old new e ⊎ Runs key old new e

-- why the packet did nothing: it was refused, and nothing has changed; or memory ran out for the result of the job that it started
abbrev pub IsUnarrived : ℕ → TheSession → TheSession → Refusal → Type 0
IsUnarrived key old new r = Owes old new (Arrive key) (Err r) ⊎ ((r ≡ Memory) × LeavesOpen key old new)

-- a packet arrived in the session of an open handle, which keeps its promises, and the record is that of the last entry
abbrev pub IsReceived : ℕ → Record → Option TheSession → Option TheSession → Type 0
IsReceived key record_is old new =
    (s s' : TheSession) × (old ≡ Some s) × (new ≡ Some s') × ((e : Entry) × Arrives key s s' e × (record_is ≡ record_of e))
    × KeepsPromises s'

-- why no packet arrived: the session refused it, memory ran out for its job, or the handle is closed. The record is as it was
abbrev pub IsUnreceived : ℕ → Record → Record → Option TheSession → Option TheSession → SessionFault → Type 0
IsUnreceived key was record_is old new (Session r) =
    ((s s' : TheSession) × (old ≡ Some s) × (new ≡ Some s') × IsUnarrived key s s' r × KeepsPromises s') × (record_is ≡ was)
IsUnreceived key was record_is old new Handle = (old ≡ None) × (new ≡ old) × (record_is ≡ was)
IsUnreceived key was record_is old new other = ⊥
