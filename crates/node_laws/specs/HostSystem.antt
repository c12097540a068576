-- Calls of processes by their hosts, and of the gateway, one after another
use Rattle.std.specs.Prelude.{◌≡◌, ◌⊎◌, ℕ, ◌-◌, ◌<◌, List, [], ◌∷◌, ◌++◌, length, take, drop, Some}
use Rattle.world.specs.World.{put}
use Rattle.world.specs.Handlers.{Handlers}
use Rattle.packets.specs.declared.packet.NodePacket.{NodePacket}
use Rattle.packets.specs.Format.{IsPacket}
use Rattle.helpers.specs.declared.effects.Who.{Who}
use Rattle.helpers.specs.Effects.{Emitted}
use Rattle.verifier.specs.declared.any_image.AnyImage.{AnyImage}
use Rattle.interp.specs.HandlerCall.{Handled}
use Rattle.interp.specs.Image.{as_image}
use Rattle.node.specs.declared.limit.Limits.{Limits}
use Rattle.node.specs.declared.job.OpenJob.{OpenJob}
use Rattle.node.specs.Answering.{IsOne, handlers_of}
use Rattle.stores.specs.declared.change.Output.{Output}
use Rattle.stores.specs.Store.{IsOf}
use Rattle.gateway.specs.Gateway.{TheGateway, new_gateway, puts_in, hands_out, ticked}
use Rattle.gateway.specs.Calls as outside
use Rattle.gateway.specs.Stands as gateways
use Rattle.gateway.specs.Since.{revived, StandsFor}
use Rattle.process.specs.declared.call.HandlerTicket.{HandlerTicket}
use Rattle.process.specs.Process.{TheProcess, state_of}
use Rattle.process.specs.Job.{IsAnswered, WorksAs}
use Rattle.process.specs.Calls.{Calls, Stays, IsHanded, Ticks, Takes, Freezes, Thaws}
use Rattle.process.specs.Packets.{GivesBytes}
use Rattle.process.specs.Revival.{IsOpened, IsRevived}
use Rattle.process.specs.Checkpoints.{IsSavable, Keeps}
use Rattle.process.specs.Suspension.{Suspends, IsResumed}
use Rattle.process.specs.Work.{job_at, answer_to, Works}
use Rattle.node_laws.specs.HostProcess.{IsFirst, Absent, Pending, Durable, Hosted, Runs, Killed, Alive, Has, Asleep, goes_on, sleeps, keeps}
use Rattle.node_laws.specs.HostReplies.{answering}

-- the processes by number; for each the bytes that its host has stored, and the greatest incarnation; the gateway, and the gateway that its
-- store gives; the outputs that it gave without having stored so; and the packets that were given
pub record System : Type 0 where
  pub processes : ℕ → Hosted
  pub stored : ℕ → List ℕ
  pub lives : ℕ → ℕ
  pub gateway : TheGateway
  pub durable : TheGateway
  pub taken : List Output
  pub given : List NodePacket

-- the system at the start: each process is opened with its opening state, and its kept state stored; and the gateway
pub record Opens (n : ℕ) (images : ℕ → AnyImage) (limits : ℕ → Limits) (processes : ℕ → TheProcess)
    (states bytes : ℕ → List ℕ) : Type 0 where
  pub opened : (p : ℕ) → IsFirst n p → IsOpened (images p) (limits p) p n (states p) (processes p)
  pub stored : (p : ℕ) → IsFirst n p → Keeps (processes p).lifecycle (bytes p)

-- n processes and the gateway, before their first call
abbrev pub new_system : ℕ → (ℕ → TheProcess) → (ℕ → List ℕ) → ℕ → ℕ → System
new_system n processes bytes page tick =
    record {
      processes = λ p. Runs (processes p) Absent;
      stored = bytes;
      lives = λ _. 1;
      gateway = new_gateway n page tick;
      durable = new_gateway n page tick;
      taken = [];
      given = [];
    }

-- a call that isn't refused and changes a process, and the process after it; or something that its host does with it. Or a call of the
-- gateway, and the gateway after it; or something that happens to it
pub data HostCall : Type 0 where
  -- `take` gave this packet
  Gave : ℕ → NodePacket → TheProcess → HostCall
  -- `take_bytes` gave these bytes, which are those of this packet
  GaveBytes : ℕ → NodePacket → List ℕ → TheProcess → HostCall
  -- `receive`, with this packet
  Handed : ℕ → NodePacket → TheProcess → HostCall
  -- `receive_bytes`, with the bytes of this packet
  HandedBytes : ℕ → NodePacket → List ℕ → TheProcess → HostCall
  -- `work`, or `done`
  Worked : ℕ → TheProcess → HostCall
  -- `done_unchecked`, for this job with this state and these messages and outputs
  Answered : ℕ → HandlerTicket → List ℕ → Emitted → TheProcess → HostCall
  -- `tick`
  Ticked : ℕ → TheProcess → HostCall
  -- `checkpoint` gave these bytes; or `kept_bytes` did, and then `freeze` was called
  Froze : ℕ → List ℕ → TheProcess → HostCall
  -- `freeze` alone: the host has no bytes of that checkpoint, and the process waits until it is killed
  Paused : ℕ → TheProcess → HostCall
  -- the bytes that `checkpoint` gave are stored, in place of the earlier ones
  Stored : ℕ → List ℕ → HostCall
  -- `saved`
  Saved : ℕ → TheProcess → HostCall
  -- `suspend` gave these bytes, and the process ended
  Suspended : ℕ → List ℕ → HostCall
  -- `resume`, with these limits from those bytes
  Resumed : ℕ → Limits → TheProcess → HostCall
  -- the process was killed, or the bytes of one that was suspended were given up
  Died : ℕ → HostCall
  -- `revive`, with these limits in this incarnation
  Revived : ℕ → Limits → ℕ → TheProcess → HostCall
  -- the gateway gave this packet
  GaveOut : NodePacket → TheGateway → HostCall
  -- it was handed this packet
  HandedOut : NodePacket → TheGateway → HostCall
  -- it took an input, gave an output, sent again what isn't answered, or told its changes
  DidOut : TheGateway → HostCall
  -- all its changes are stored
  StoredOut : HostCall
  -- all its changes are stored, except that of the outputs that it gave only the first ones count as taken
  StoredBut : ℕ → HostCall
  -- it was killed, and came back from its store
  RevivedOut : TheGateway → HostCall

-- the outputs that the gateway gives in a call
abbrev pub handed_out : TheGateway → TheGateway → List Output
handed_out old new = take (length old.store.outputs - length new.store.outputs) old.store.outputs

-- the gateway as if these outputs, which it gave, were not taken
abbrev pub untaken : List Output → TheGateway → TheGateway
untaken outputs g = record g { store = record g.store { outputs = outputs ++ g.store.outputs } }

-- an input for a process came
abbrev pub PutIn : TheGateway → TheGateway → Type 0
PutIn g new = (p : ℕ) × ((x : List ℕ) × ((new ≡ puts_in p x g) × IsOf p g.store))

-- the gateway took an input, gave an output, sent again what isn't answered, or told its changes
abbrev pub Deals : TheGateway → TheGateway → Type 0
Deals g new = PutIn g new ⊎ ((new ≡ hands_out g) ⊎ ((new ≡ ticked g) ⊎ (new ≡ record g { changes = [] })))

-- on the next message the handler leaves exactly this state and sends exactly this: the host knows it of machine code
abbrev pub AnswersSo : List ℕ → Emitted → TheProcess → Type 0
AnswersSo state e p =
    (message : OpenJob) (who : Who) → job_at p.lifecycle ≡ Some (message, who) → (h : Handled)
    × ((answer_to p.image who (state_of p.lifecycle) message ≡ Some h) × ((h.state ≡ state) × (h.effects ≡ e)))

-- it comes back with an image of this form, with these instructions and this length of state
abbrev pub RevivesAs : AnyImage → Limits → List ℕ → ℕ → TheProcess → Type 0
RevivesAs image limits bytes life new = (same : AnyImage) × ((as_image same ≡ as_image image) × IsRevived same limits bytes life new)

-- it is resumed with such an image
abbrev pub ResumesAs : AnyImage → Limits → List ℕ → TheProcess → Type 0
ResumesAs image limits bytes new = (same : AnyImage) × ((as_image same ≡ as_image image) × IsResumed same limits bytes new)

-- each call does what the contract of its function says. A packet that is handed over was given, at any time, and may be handed over again.
-- A host stores the bytes of the checkpoint for which the process waits, and tells it once they are stored. A process comes back from its
-- stored bytes, with the same handler, in an incarnation above all that were stored. One that was suspended isn't called until it is
-- resumed or killed. So it is resumed at most once, and not if it came back from its stored bytes. What the gateway gives is sent once all
-- changes of its store are stored, except which outputs were taken
abbrev pub DoesIt : (ℕ → AnyImage) → ℕ → System → HostCall → Type 0
DoesIt images n s (Gave p x new) = IsFirst n p × Alive (λ old. Stays (Takes (Some x)) old new) (s.processes p)
DoesIt images n s (GaveBytes p x bytes new) = IsFirst n p × (IsPacket x bytes × Alive (λ old. GivesBytes bytes old new) (s.processes p))
DoesIt images n s (Handed p x new) = IsFirst n p × (IsOne x s.given × Alive (λ old. Calls (IsHanded x) old new) (s.processes p))
DoesIt images n s (HandedBytes p x bytes new) =
    IsFirst n p × (IsOne x s.given
    × (IsPacket x bytes × Alive (λ old. (y : NodePacket) → IsPacket y bytes → Calls (IsHanded y) old new) (s.processes p)))
DoesIt images n s (Worked p new) = IsFirst n p × Alive (λ old. Works old new) (s.processes p)
DoesIt images n s (Answered p ticket state e new) =
    IsFirst n p × Alive (λ old. AnswersSo state e old × (IsAnswered ticket state e old new × WorksAs state e old new)) (s.processes p)
DoesIt images n s (Ticked p new) = IsFirst n p × Alive (λ old. Calls Ticks old new) (s.processes p)
DoesIt images n s (Froze p bytes new) =
    IsFirst n p × Alive (λ old. IsSavable old.lifecycle × (Keeps old.lifecycle bytes × Stays Freezes old new)) (s.processes p)
DoesIt images n s (Paused p new) = IsFirst n p × Alive (λ old. Stays Freezes old new) (s.processes p)
DoesIt images n s (Stored p bytes) = IsFirst n p × Has (λ checkpoint. checkpoint ≡ Pending bytes) (s.processes p)
DoesIt images n s (Saved p new) = IsFirst n p
    × (Has (λ checkpoint. checkpoint ≡ Durable) (s.processes p) × Alive (λ old. Stays Thaws old new) (s.processes p))
DoesIt images n s (Suspended p bytes) = IsFirst n p × Alive (λ old. Suspends old.lifecycle bytes) (s.processes p)
DoesIt images n s (Resumed p limits new) = IsFirst n p × Asleep (λ bytes. ResumesAs (images p) limits bytes new) (s.processes p)
DoesIt images n s (Died p) = IsFirst n p
DoesIt images n s (Revived p limits life new) = IsFirst n p
    × ((s.processes p ≡ Killed) × ((s.lives p < life) × RevivesAs (images p) limits (s.stored p) life new))
DoesIt images n s (GaveOut x new) = (s.durable.store ≡ (untaken s.taken s.gateway).store) × gateways.Takes (Some x) s.gateway new
DoesIt images n s (HandedOut x new) = IsOne x s.given × ((new ≡ outside.handed x s.gateway) × gateways.IsHanded x s.gateway new)
DoesIt images n s (DidOut new) = Deals s.gateway new × gateways.Acts s.gateway new
DoesIt images n s StoredOut = Unit {0}
DoesIt images n s (StoredBut k) = Unit {0}
DoesIt images n s (RevivedOut new) = (new ≡ revived new.page new.tick s.durable.store) × StandsFor s.durable.store new

-- the system after a call
abbrev pub after_call : System → HostCall → System
after_call s (Gave p x new) = record s { processes = put s.processes p (goes_on new (s.processes p)); given = x ∷ s.given }
after_call s (GaveBytes p x bytes new) = record s { processes = put s.processes p (goes_on new (s.processes p)); given = x ∷ s.given }
after_call s (Handed p x new) = record s { processes = put s.processes p (goes_on new (s.processes p)) }
after_call s (HandedBytes p x bytes new) = record s { processes = put s.processes p (goes_on new (s.processes p)) }
after_call s (Worked p new) = record s { processes = put s.processes p (goes_on new (s.processes p)) }
after_call s (Answered p ticket state e new) = record s { processes = put s.processes p (goes_on new (s.processes p)) }
after_call s (Ticked p new) = record s { processes = put s.processes p (goes_on new (s.processes p)) }
after_call s (Froze p bytes new) = record s { processes = put s.processes p (Runs new (Pending bytes)) }
after_call s (Paused p new) = record s { processes = put s.processes p (goes_on new (s.processes p)) }
after_call s (Stored p bytes) = record s { processes = put s.processes p (keeps (s.processes p)); stored = put s.stored p bytes }
after_call s (Saved p new) = record s { processes = put s.processes p (Runs new Absent) }
after_call s (Suspended p bytes) = record s { processes = put s.processes p (sleeps bytes (s.processes p)) }
after_call s (Resumed p limits new) = record s { processes = put s.processes p (Runs new Absent) }
after_call s (Died p) = record s { processes = put s.processes p Killed }
after_call s (Revived p limits life new) = record s { processes = put s.processes p (Runs new Absent); lives = put s.lives p life }
after_call s (GaveOut x new) = record s { gateway = new; given = x ∷ s.given }
after_call s (HandedOut x new) = record s { gateway = new }
after_call s (DidOut new) = record s { gateway = new; taken = s.taken ++ handed_out s.gateway new }
after_call s StoredOut = record s { durable = s.gateway; taken = [] }
after_call s (StoredBut k) = record s { durable = untaken (drop k s.taken) s.gateway; taken = drop k s.taken }
after_call s (RevivedOut new) = record s { gateway = new; durable = new; taken = [] }

-- calls, one after another
abbrev pub AreCalls : (ℕ → AnyImage) → ℕ → System → List HostCall → Type 0
AreCalls images n s [] = Unit {0}
AreCalls images n s (k ∷ ks) = DoesIt images n s k × AreCalls images n (after_call s k) ks

-- the system after these calls
abbrev pub after_calls : System → List HostCall → System
after_calls s [] = s
after_calls s (k ∷ ks) = after_calls (after_call s k) ks

-- ---- from the opening on

-- so many processes with their images, limits and opening states, as they are opened, with the bytes that are stored of them; and the
-- greatest size of a page of the gateway, and its messages by tick
pub record Hosting : Type 0 where
  pub n : ℕ
  pub images : ℕ → AnyImage
  pub limits : ℕ → Limits
  pub states : ℕ → List ℕ
  pub processes : ℕ → TheProcess
  pub bytes : ℕ → List ℕ
  pub page : ℕ
  pub tick : ℕ
  pub opens : Opens n images limits processes states bytes

-- before the first call
abbrev pub start : Hosting → System
start h = new_system h.n h.processes h.bytes h.page h.tick

-- after these calls
abbrev pub after : Hosting → List HostCall → System
after h calls = after_calls (start h) calls

-- these are calls of its hosts and of the gateway, in any order: packets may come late, twice or never, and processes and the gateway may
-- be killed and brought back at any moment
abbrev pub Makes : Hosting → List HostCall → Type 0
Makes h calls = AreCalls h.images h.n (start h) calls

-- the handlers of its images, with its opening states
abbrev pub handlers : Hosting → Handlers
handlers h = handlers_of (answering h.n h.images) h.states
