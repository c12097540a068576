-- What an arrival answers, and which result a finish takes
use Rattle.std.specs.Prelude.{◌≡◌, ℕ, ◌+◌, ◌-◌, ◌<◌, length, slice_index_or, Option, Some, Result, Ok, Err, true}
use Rattle.replay.specs.Task.{TheTask, TheCompletion, Answers}
use Rattle.world.specs.declared.message.Message.{Message}
use Rattle.world.specs.declared.packet.Packet.{Packet}
use Rattle.world.specs.declared.packet.Packet.TheVariants.{Delivery}
use Rattle.world.specs.declared.answer.Answer.{Answer}
use Rattle.world.specs.declared.answer.Answer.TheVariants as answers
use Rattle.world.specs.declared.call.Call.TheVariants.{Finish}
use Rattle.world.specs.declared.refusal.Refusal.{Refusal}
use Rattle.world.specs.declared.refusal.Refusal.TheVariants.{StaleJob, Memory}
use Rattle.world.specs.World.{World, is_inside}
use Rattle.world.specs.Logs.{length_of, state_of, open_message}
use Rattle.machine.specs.Simulation.{TheMachine, Stands, Steps}
use Rattle.machine.specs.declared.arrival.Arrival.{Arrival}
use Rattle.machine.specs.declared.arrival.Arrival.TheVariants.{Started, Duplicate, Early, Shown, ShownBefore, Numbered, Acknowledged}
use Rattle.machine.specs.declared.arrival.Arrival.TheVariants.{Unreachable, Stale}
use Rattle.machine.specs.declared.arrival.Finished.{Finished}
use Rattle.machine.specs.declared.arrival.Finished.TheVariants.{Committed, Replayed}

-- an arrival as the journal's answer. Of the job that it started, that is the serial number only
abbrev pub answer_by : {J : Type 0} → (J → ℕ) → Arrival J → Answer
answer_by serial (Started job) = answers.Started (serial job)
answer_by serial (Duplicate key) = answers.Duplicate key
answer_by serial Early = answers.Early
answer_by serial (Shown ssn) = answers.Shown ssn
answer_by serial ShownBefore = answers.ShownBefore
answer_by serial (Numbered key) = answers.Numbered key
answer_by serial Acknowledged = answers.Acknowledged
answer_by serial Unreachable = answers.Unreachable
answer_by serial Stale = answers.Stale

-- the same for an arrival that starts a task
abbrev pub answer_of : Arrival TheTask → Answer
answer_of = answer_by (λ task. task.serial)

-- a committed result as the journal's answer, of a live or a replayed job
abbrev pub finished_of : Finished → Answer
finished_of (Committed rsn key) = answers.Committed rsn key
finished_of (Replayed rsn) = answers.Replayed rsn

-- the task is that of the open job of its process in this world, live or replayed, in all by which a result is compared
pub record IsOpen (t : TheTask) (w : World) : Type 0 where
  pub inside : is_inside w t.who.me ≡ true
  pub incarnation : t.incarnation ≡ w.incarnation t.who.me
  pub rsn : t.rsn ≡ length_of w t.who.me + 1
  pub state : t.state ≡ state_of w t.who.me
  pub message : open_message w t.who.me ≡ Some t.message
  pub from : t.who.from ≡ t.message.sender
  pub count : t.who.count ≡ w.count

-- the task's state is as long as that of its process
abbrev pub HasItsLength : TheMachine → TheTask → Type 0
HasItsLength m task = (e : ℕ) → length task.state ≡ slice_index_or m.lengths (task.who.me - 1) e

-- in each world that the machine stands for, the task is that of an open job
abbrev pub IsHandedOut : TheMachine → TheTask → Type 0
IsHandedOut m task = HasItsLength m task × ((w : World) → Stands m w → IsOpen task w)

-- the job that an arrival hands out, if it does
abbrev pub OfJob : {J : Type 0} → (J → Type 0) → Arrival J → Type 0
OfJob P (Started job) = P job
OfJob P other = Unit {0}

-- the job that an arrival hands out is open
abbrev pub IsJobOf : TheMachine → Arrival TheTask → Type 0
IsJobOf m = OfJob (IsHandedOut m)

-- the process for which the packet is a message
abbrev pub IsFor : Option Packet → ℕ → Type 0
IsFor found me = (d : ℕ) (m : Message) → 0 < d → found ≡ Some (Delivery d m) → me ≡ d

-- the job that an arrival hands out is of the process for which the packet is a message
abbrev pub IsJobFor : Option Packet → Arrival TheTask → Type 0
IsJobFor found = OfJob (λ task. IsFor found task.who.me)

-- a result is refused if it isn't of the open job (`StaleJob`), or if memory runs out
abbrev pub Told : Refusal → Type 0 → Type 0
Told Memory P = P
Told StaleJob P = ¬ P
Told other P = ⊥

-- what a finish guarantees: a step of each world whose handlers answer so. With a refusal the result comes back
abbrev pub Finishes : TheMachine → TheMachine → TheCompletion → Result Finished (Refusal × TheCompletion) → Type 0
Finishes old new done (Ok c) = (w : World) → Stands old w → IsOpen done.task w
    × (Answers w.handlers done → Steps old new 0 (Finish done.task.who.me) (finished_of c) w)
Finishes old new done (Err r) = (r.1 ≡ done) × (new ≡ old) × ((w : World) → Stands old w → Told r.0 (IsOpen done.task w))
