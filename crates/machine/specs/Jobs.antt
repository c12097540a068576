-- Open jobs, as the fields show them
use Rattle.std.specs.Prelude.{◌≡◌, ◌≢◌, ◌<◌, ◌≤◌, ℕ, ◌+◌, ◌-◌, length, Some, false, slice_index_or, slice_set}
use Rattle.limits.specs.declared.TheConstants.{ENTRIES}
use Rattle.replay.specs.Task.{TheTask}
use Rattle.world.specs.declared.message.Message.{Message}
use Rattle.session_process.specs.Process.{received}
use Rattle.session_process.specs.Mode.{is_lost}
use Rattle.machine.specs.Work.{IsNextFor}
use Rattle.machine.specs.Simulation.{TheMachine, process_at}

-- a message of another for a process that isn't down. If the process replays, it is the next of the plan
pub record MayBegin (m : TheMachine) (me : ℕ) (message : Message) : Type 0 where
  pub inside : 0 < me
  pub within : me ≤ length m.processes
  pub from : message.sender ≤ length m.processes
  pub other : message.sender ≢ me
  pub back : is_lost (process_at m me).mode ≡ false
  pub next : IsNextFor (process_at m me).mode message
  pub calls : m.calls < ENTRIES

-- the process works on the message, and the job has all that its handler takes
pub record Begins (old new : TheMachine) (me : ℕ) (message : Message) (task : TheTask) : Type 0 where
  pub becomes : new ≡ record old {
    processes = slice_set old.processes (me - 1) (record (process_at old me) { working = Some message });
    started = old.started + 1;
    calls = old.calls + 1;
  }
  pub serial : task.serial ≡ old.started + 1
  pub incarnation : task.incarnation ≡ (process_at old me).incarnation
  pub rsn : task.rsn ≡ received (process_at old me) + 1
  pub state : task.state ≡ (process_at old me).state
  pub size : (e : ℕ) → length task.state ≡ slice_index_or old.lengths (me - 1) e
  pub message_is : task.message ≡ message
  pub who : task.who ≡ record { me = me; from = message.sender; count = length old.processes }

-- the task is that of the open job of its process
pub record Matches (m : TheMachine) (t : TheTask) : Type 0 where
  pub inside : 0 < t.who.me
  pub within : t.who.me ≤ length m.processes
  pub message : (process_at m t.who.me).working ≡ Some t.message
  pub incarnation : (process_at m t.who.me).incarnation ≡ t.incarnation
  pub rsn : received (process_at m t.who.me) + 1 ≡ t.rsn
  pub state : (process_at m t.who.me).state ≡ t.state
  pub from : t.who.from ≡ t.message.sender
  pub count : t.who.count ≡ length m.processes
