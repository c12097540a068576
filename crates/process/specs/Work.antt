-- The next message of a process's handler, and its answer
use Rattle.std.specs.Prelude.{◌≡◌, ◌≢◌, ◌⊎◌, ℕ, List, [], ◌∷◌, ◌++◌, length, map, Option, Some, None, Bool, not, nat_lt, nat_le, ◌&&◌}
use Rattle.std.specs.Prelude.{◌==◌, if◌then◌else◌}
use Rattle.helpers.specs.declared.effects.Who.{Who}
use Rattle.helpers.specs.declared.effects.Sent.{Sent}
use Rattle.helpers.specs.Effects.{Emitted}
use Rattle.verifier.specs.declared.any_image.AnyImage.{AnyImage}
use Rattle.verifier.specs.AnyImage.{state_of as image_state}
use Rattle.interp.specs.Answer.{MayRunAs, answer_by}
use Rattle.interp.specs.HandlerCall.{Handled}
use Rattle.world.specs.History.{Payload}
use Rattle.node.specs.declared.job.OpenJob.{OpenJob}
use Rattle.node.specs.declared.job.Given.{Given}
use Rattle.node.specs.Node.{MaySend}
use Rattle.node.specs.Calls.{did_work}
use Rattle.recovery.specs.Own.{MayGive}
use Rattle.node.specs.Stands as up_owes
use Rattle.recovery.specs.Replays.{next_job, did_replay}
use Rattle.recovery.specs.StandsAtReplay as replaying_owes
use Rattle.recovery.specs.declared.lifecycle.Lifecycle.{Lifecycle}
use Rattle.recovery.specs.declared.lifecycle.Lifecycle.TheVariants.{Up, Replaying}
use Rattle.process.specs.Process.{TheProcess, state_of}
use Rattle.recovery.specs.Transitions.{Passes}

-- a message that the handler is to run on, and the identity that it is called with
abbrev pub job_as : ℕ → ℕ → Option OpenJob → Option (OpenJob × Who)
job_as me count None = None
job_as me count (Some j) = Some (j, record { me = me; from = j.sender; count = count })

-- the message of the open job, or the next one of the replay
abbrev pub job_at : Lifecycle → Option (OpenJob × Who)
job_at (Up n) = job_as n.me n.count n.working
job_at (Replaying n) = job_as n.own.me n.own.count (next_job n)
job_at other = None

-- another process
abbrev pub is_other : Who → ℕ → Bool
is_other who to = nat_lt 0 to && nat_le to who.count && not (to == who.me)

-- the messages that a handler sends to other processes
abbrev pub sent_by : Who → List Sent → List Given
sent_by who [] = []
sent_by who (s ∷ sends) = (if is_other who s.dst then record { to = s.dst; payload = s.payload } ∷ [] else []) ++ sent_by who sends

-- an output, for the gateway
abbrev pub shown_of : Payload → Given
shown_of x = record { to = 0; payload = x }

-- the outputs that a handler shows; the gateway sends itself none
abbrev pub shown_by : Who → List Payload → List Given
shown_by who outputs = if who.me == 0 then [] else map shown_of outputs

-- what a handler sends: its messages, and after them its outputs
abbrev pub given_of : Who → Emitted → List Given
given_of who e = sent_by who e.sends ++ shown_by who e.outputs

-- the handler left this state, and sent this
abbrev pub TakesIn : List ℕ → List Given → Lifecycle → Lifecycle → Type 0
TakesIn state given (Up old) (Up new) = (new ≡ did_work state given old.working old)
    × up_owes.Owes (up_owes.Handles state given old) old new
TakesIn state given (Replaying old) (Replaying new) =
    (new ≡ did_replay state given (next_job old) old) × replaying_owes.Owes (replaying_owes.Handles state given old) old new
TakesIn state given (Up old) new = ⊥
TakesIn state given (Replaying old) new = ⊥
TakesIn state given old new = new ≡ old

-- these may be sent
abbrev pub MayTakeIn : Lifecycle → List Given → Type 0
MayTakeIn (Up n) given = MaySend n given
MayTakeIn (Replaying n) given = MayGive n.own given
MayTakeIn other given = Unit {0}

-- a message is next, and the handler may not be run as this process, which can be only in form 3
abbrev pub IsNone : TheProcess → Type 0
IsNone p = (job : OpenJob) × (who : Who) × (job_at p.lifecycle ≡ Some (job, who)) × ¬ MayRunAs p.image who

-- there is nothing to run on, the state doesn't have the image's length, or the handler may not be run as this process
abbrev pub Rests : TheProcess → Type 0
Rests p = (job_at p.lifecycle ≡ None) ⊎ (length (state_of p.lifecycle) ≢ image_state p.image) ⊎ IsNone p

-- what the handler answers to a message, called with this identity on this state
abbrev pub answer_to : AnyImage → Who → List ℕ → OpenJob → Option Handled
answer_to image who state j = answer_by image who state j.payload

-- the handler ran on the next message, and its answer is taken; then the process goes on
pub record Works (old new : TheProcess) : Type 0 where
  pub job : OpenJob
  pub who : Who
  pub answer : Handled
  pub mid : Lifecycle
  pub image : new.image ≡ old.image
  pub next : job_at old.lifecycle ≡ Some (job, who)
  pub answers : answer_to old.image who (state_of old.lifecycle) job ≡ Some answer
  pub takes : TakesIn answer.state (given_of who answer.effects) old.lifecycle mid
  pub passes : Passes mid new.lifecycle
