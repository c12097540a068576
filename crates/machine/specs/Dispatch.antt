-- Calls that are given as values, and the jobs that they start
use Rattle.std.specs.Prelude.{◌≡◌, ℕ, Option, Some, None}
use Rattle.replay.specs.Task.{TheTask}
use Rattle.world.specs.declared.packet.Packet.{Packet}
use Rattle.world.specs.declared.packet.Packet.TheVariants.{Delivery}
use Rattle.world.specs.declared.call.Call.{Call}
use Rattle.world.specs.declared.call.Call.TheVariants.{Arrive, Finish, ReplayBegin}
use Rattle.world.specs.declared.answer.Answer.{Answer}
use Rattle.world.specs.declared.answer.Answer.TheVariants.{Started}
use Rattle.world.specs.World.{World}
use Rattle.machine.specs.Simulation.{TheMachine, Stands}
use Rattle.machine.specs.Arrival.{IsHandedOut}
use Rattle.machine.specs.declared.arrival.Arrival.{Arrival}
use Rattle.machine.specs.declared.arrival.Arrival.TheVariants as arrivals
use Rattle.machine.specs.declared.dispatch.Reply.{Reply}

-- the call takes no result: it is any but a finish
abbrev pub TakesNoResult : Call → Type 0
TakesNoResult (Finish p) = ⊥
TakesNoResult other = Unit {0}

-- the call neither starts nor ends a job
abbrev pub IsJobless : Call → Type 0
IsJobless (Arrive key) = ⊥
IsJobless (Finish p) = ⊥
IsJobless (ReplayBegin p) = ⊥
IsJobless other = Unit {0}

-- the process for which a packet is a message
abbrev pub receiver_of : Option Packet → ℕ
receiver_of (Some (Delivery d m)) = d
receiver_of other = 0

-- the process whose job starts, if this is the answer to this packet
abbrev pub begun_by : Answer → Option Packet → Option ℕ
begun_by (Started n) (Some (Delivery d m)) = Some d
begun_by answer packet = None

-- the process whose job a call starts
abbrev pub job_of : World → Call → Answer → Option ℕ
job_of w (Arrive key) answer = begun_by answer (w.wire key)
job_of w (ReplayBegin p) answer = Some p
job_of w call answer = None

-- the job that is handed out is open and of this process; or there is none
abbrev pub Opened : TheMachine → Option ℕ → Option TheTask → Type 0
Opened m p None = p ≡ None
Opened m p (Some task) = (p ≡ Some task.who.me) × IsHandedOut m task

-- the answer that a journal keeps
abbrev pub answer_in : {J : Type 0} → Reply J → Answer
answer_in reply = reply.answer

-- the job that an arrival hands out
abbrev pub job_in : Arrival TheTask → Option TheTask
job_in (arrivals.Started task) = Some task
job_in other = None

-- an accepted call hands out the job that it starts
abbrev pub OpensJob : TheMachine → TheMachine → Call → Reply TheTask → Type 0
OpensJob old new call reply = (w : World) → Stands old w → Opened new (job_of w call reply.answer) reply.job
