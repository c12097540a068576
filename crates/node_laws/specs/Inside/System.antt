-- Calls of processes in any stage, and of the gateway, one after another
use Rattle.std.specs.Prelude.{◌≡◌, ◌≢◌, ℕ, ◌<◌, List, [], ◌∷◌, ◌++◌, drop, Some, true}
use Rattle.world.specs.World.{put}
use Rattle.packets.specs.declared.packet.NodePacket.{NodePacket}
use Rattle.packets.specs.declared.kept.Kept.{Kept}
use Rattle.packets.specs.Kept.{IsKept}
use Rattle.cluster.specs.Cluster.{Cluster}
use Rattle.node.specs.declared.limit.Limits.{Limits}
use Rattle.node.specs.Answering.{Answer, Answering, IsOne}
use Rattle.recovery.specs.Collection.{TheCollecting}
use Rattle.stores.specs.declared.change.Output.{Output}
use Rattle.gateway.specs.Gateway.{TheGateway}
use Rattle.gateway.specs.Calls as outside
use Rattle.gateway.specs.Stands as gateways
use Rattle.gateway.specs.Since.{revived, StandsFor}
use Rattle.node_laws.specs.HostProcess.{IsFirst}
use Rattle.node_laws.specs.HostSystem as hosts
use Rattle.node_laws.specs.HostSystem.{handed_out, untaken, Deals}
use Rattle.node_laws.specs.Inside.Process.{Process, Collects, Killed, as_process, is_up, IsStoredOf, is_exact, Gives, Hears, Works}
use Rattle.node_laws.specs.Inside.Process.{Acts, WaitsFor, covered, IsTold, Wakes, IsKilled, ComesFrom}

-- the processes by number; for each the bytes that are stored, and the greatest incarnation; the gateway, and the gateway that its store
-- gives; the outputs that it gave without having stored so; and the packets that were given
pub record System : Type 0 where
  pub processes : ℕ → Process
  pub stored : ℕ → List ℕ
  pub lives : ℕ → ℕ
  pub gateway : TheGateway
  pub durable : TheGateway
  pub taken : List Output
  pub given : List NodePacket

-- a system of hosts, with its processes in their stages
abbrev pub view : hosts.System → System
view s =
    record {
      processes = λ p. as_process (s.processes p);
      stored = s.stored;
      lives = s.lives;
      gateway = s.gateway;
      durable = s.durable;
      taken = s.taken;
      given = s.given;
    }

-- a call that isn't refused, and the process or the gateway after it; or something that happens to one of them
pub data Call : Type 0 where
  -- a process gave this packet
  Gave : ℕ → NodePacket → Process → Call
  -- a process was handed this packet
  Handed : ℕ → NodePacket → Process → Call
  -- the handler of a process answered
  Worked : ℕ → Answer → Process → Call
  -- a process sent again what isn't answered, made a checkpoint, or went on to its next stage
  Did : ℕ → Process → Call
  -- these bytes, which a process gave, are stored in place of the earlier ones
  Stored : ℕ → List ℕ → Call
  -- a process was told that its checkpoint is durable
  Saved : ℕ → Process → Call
  -- a process that was suspended is resumed, with these limits. It makes no call between the two, so both are one call
  Resumed : ℕ → Limits → Process → Call
  -- a process was killed
  Died : ℕ → Call
  -- a process came back in this incarnation
  Revived : ℕ → ℕ → TheCollecting → Call
  -- the gateway gave this packet
  GaveOut : NodePacket → TheGateway → Call
  -- the gateway was handed this packet
  HandedOut : NodePacket → TheGateway → Call
  -- the gateway took an input, gave an output, sent again what isn't answered, or told its changes
  DidOut : TheGateway → Call
  -- all changes of the gateway are stored
  StoredOut : Call
  -- all changes are stored, except that of the outputs that it gave only the first ones count as taken
  StoredBut : ℕ → Call
  -- the gateway was killed, and came back from its store
  RevivedOut : TheGateway → Call

-- each call does what the contract of its function says. A packet that is handed over was given, at any time, and may be handed over again.
-- A process comes back from its stored bytes, in an incarnation above all that were stored. What the gateway gives is sent once all changes
-- of its store are stored, except which outputs were taken
abbrev pub DoesIt : Answering → ℕ → System → Call → Type 0
DoesIt f n s (Gave p x new) = IsFirst n p × Gives x (s.processes p) new
DoesIt f n s (Handed p x new) = IsFirst n p × (IsOne x s.given × Hears x (s.processes p) new)
DoesIt f n s (Worked p a new) = IsFirst n p × Works f p a (s.processes p) new
DoesIt f n s (Did p new) = IsFirst n p × Acts (s.processes p) new
DoesIt f n s (Stored p bytes) = IsFirst n p × WaitsFor bytes (s.processes p)
DoesIt f n s (Saved p new) = IsFirst n p × IsTold (s.processes p) new
DoesIt f n s (Resumed p limits new) = IsFirst n p × Wakes limits (s.processes p) new
DoesIt f n s (Died p) = IsFirst n p
DoesIt f n s (Revived p life new) = IsFirst n p × (IsKilled (s.processes p) × ((s.lives p < life) × ComesFrom (s.stored p) life new))
DoesIt f n s (GaveOut x new) = (s.durable.store ≡ (untaken s.taken s.gateway).store) × gateways.Takes (Some x) s.gateway new
DoesIt f n s (HandedOut x new) = IsOne x s.given × ((new ≡ outside.handed x s.gateway) × gateways.IsHanded x s.gateway new)
DoesIt f n s (DidOut new) = Deals s.gateway new × gateways.Acts s.gateway new
DoesIt f n s StoredOut = Unit {0}
DoesIt f n s (StoredBut k) = Unit {0}
DoesIt f n s (RevivedOut new) = (new ≡ revived new.page new.tick s.durable.store) × StandsFor s.durable.store new

-- the system after a call
abbrev pub after_call : System → Call → System
after_call s (Gave p x new) = record s { processes = put s.processes p new; given = x ∷ s.given }
after_call s (Handed p x new) = record s { processes = put s.processes p new }
after_call s (Worked p a new) = record s { processes = put s.processes p new }
after_call s (Did p new) = record s { processes = put s.processes p new }
after_call s (Stored p bytes) = record s { processes = put s.processes p (covered (s.processes p)); stored = put s.stored p bytes }
after_call s (Saved p new) = record s { processes = put s.processes p new }
after_call s (Resumed p limits new) = record s { processes = put s.processes p new }
after_call s (Died p) = record s { processes = put s.processes p Killed }
after_call s (Revived p life new) = record s { processes = put s.processes p (Collects new); lives = put s.lives p life }
after_call s (GaveOut x new) = record s { gateway = new; given = x ∷ s.given }
after_call s (HandedOut x new) = record s { gateway = new }
after_call s (DidOut new) = record s { gateway = new; taken = s.taken ++ handed_out s.gateway new }
after_call s StoredOut = record s { durable = s.gateway; taken = [] }
after_call s (StoredBut k) = record s { durable = untaken (drop k s.taken) s.gateway; taken = drop k s.taken }
after_call s (RevivedOut new) = record s { gateway = new; durable = new; taken = [] }

-- the system after these calls
abbrev pub after_calls : System → List Call → System
after_calls s [] = s
after_calls s (k ∷ ks) = after_calls (after_call s k) ks

-- this holds of each of these calls, and of the system before it
abbrev pub Along : (System → Call → Type 0) → System → List Call → Type 0
Along P s [] = Unit {0}
Along P s (k ∷ ks) = P s k × Along P (after_call s k) ks

-- ---- what holds of a system, or of a call

-- each process that is alive is exact
abbrev pub AreExact : ℕ → System → Type 0
AreExact n s = (p : ℕ) → IsFirst n p → is_exact (s.processes p) ≡ true

-- a process is killed only while all others are up
abbrev pub FailsAlone : ℕ → System → Call → Type 0
FailsAlone n s (Died p) = (q : ℕ) → IsFirst n q → q ≢ p → is_up (s.processes q) ≡ true
FailsAlone n s call = Unit {0}

-- if p comes back or is resumed by this call, it is durable then
abbrev pub KeepsDurable : ℕ → Call → Type 0
KeepsDurable p (Revived q life new) = p ≡ q → new.own.limits.durable ≡ true
KeepsDurable p (Resumed q limits new) = p ≡ q → limits.durable ≡ true
KeepsDurable p call = Unit {0}

-- these bytes of a process are what its checkpoint covers
abbrev pub AreStoredOf : List ℕ → Process → Cluster → ℕ → Type 0
AreStoredOf bytes process c p = (k : Kept) × (IsKept k bytes × IsStoredOf k process c p)
