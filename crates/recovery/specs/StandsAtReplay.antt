-- When a process that replays agrees with a cluster, and what its calls owe
use Rattle.std.specs.Prelude.{◌≡◌, ℕ, suc, ◌+◌, ◌≤◌, List, [], ◌∷◌, ◌++◌, length, map, take, drop, Option, Some, None, true, false}
use Rattle.std.specs.Prelude.{if◌then◌else◌, slice_get}
use Rattle.world.specs.declared.message.Message.{Message}
use Rattle.world.specs.History.{count_of}
use Rattle.world.specs.Handlers.{Handlers}
use Rattle.world.specs.Phases.{Phase, Replaying}
use Rattle.world.specs.Logs.{sent_in_all}
use Rattle.world.specs.Calls.{phase_with, peers}
use Rattle.cluster.specs.Parcels.{Resume}
use Rattle.cluster.specs.Cluster.{Cluster, Live}
use Rattle.cluster.specs.Rules.{Act, Replays, Puts, Dies, May}
use Rattle.packets.specs.declared.packet.NodePacket.{NodePacket}
use Rattle.node.specs.declared.job.OpenJob.{OpenJob}
use Rattle.node.specs.declared.job.Given.{Given}
use Rattle.node.specs.Stands.{HasReceived, actor, job_of, payloads_to}
use Rattle.recovery.specs.Collection.{TheCollecting}
use Rattle.recovery.specs.Stands.{HasOwn, IsSaid, IsSent, StandsCollecting, GoesTo}
use Rattle.recovery.specs.Replays.{TheReplaying, receipts_of, next_job, is_over}
use Rattle.recovery.specs.Replayed.{TheReplayed, StandsReplayed}

-- its phase: it replays, and when all is replayed, it restores its RSNs from these peers
abbrev pub phase_of : TheReplaying → List ℕ → Phase
phase_of n ps = if is_over n then phase_with ps else Replaying n.done false false

-- it agrees with a cluster in which p recovered and has replayed as many messages: its state and its logs are those after these; all that
-- it keeps is acknowledged; it has no RSNs from its peers; and nothing is released, unless all is replayed and there is no peer
pub record StandsReplaying (n : TheReplaying) (c : Cluster) (p : ℕ) : Type 0 where
  pub stage : c.stage p ≡ Live
  pub greeted : c.greeted p ≡ false
  pub phase : c.world.phase p ≡ phase_of n (peers c.world p false)
  pub life : c.world.incarnation p ≡ n.own.life
  pub own : HasOwn n.own c p (take (n.own.base + n.done) (c.world.history p)) (c.world.trims p) (c.world.numbers p)
  pub behind : drop n.own.base (c.world.history p) ≡ map job_of n.plan
  pub received : HasReceived n.own.count n.own.base n.own.covered (receipts_of n.plan) (c.world.history p) (c.world.acknowledged p)
  pub acknowledged : (k : ℕ) → k ≤ length (c.world.history p) → c.world.acknowledged p k ≡ true
  pub numbers : (d ssn : ℕ) → c.world.numbers p d ssn ≡ None
  pub resumed : (q : ℕ) → c.resumed p q ≡ true
  pub restoring : (q : ℕ) → c.restoring p q ≡ 0
  pub shut : is_over n ≡ false → (d : ℕ) → c.world.released p d ≡ 0
  pub released : is_over n ≡ true → peers c.world p false ≡ [] → (d : ℕ) → c.world.released p d ≡ sent_in_all c.world p d

-- each message that p received was the next of its sender, as in every run
abbrev pub IsInOrder : Cluster → ℕ → Type 0
IsInOrder c p = (k : ℕ) (m : Message) → slice_get (c.world.history p) k ≡ Some m
    → m.ssn ≡ suc (count_of m.sender (take k (c.world.history p)))

-- what a process owes that recovers: from each cluster in which it collects, to one in which it replays
abbrev pub ComesBack : TheCollecting → TheReplaying → Type 0
ComesBack n r = (c : Cluster) → StandsCollecting n c n.own.me → IsInOrder c n.own.me
    → GoesTo true n.own.me (λ d. StandsReplaying r d n.own.me) c

-- what a call owes of a process that replays: from each cluster with which it agreed, and for which `given` holds, to one with which it
-- agrees
abbrev pub Owes : (Cluster → Type 0) → TheReplaying → TheReplaying → Type 0
Owes given old new = (c : Cluster) → StandsReplaying old c old.own.me → given c
    → GoesTo new.own.exact old.own.me (λ d. StandsReplaying new d old.own.me) c

-- after the messages h, on the message m the handler of p leaves this state, and sends these messages
pub record AnswersAfter (f : Handlers) (p : ℕ) (h : List Message) (m : Message) (state : List ℕ) (given : List Given) : Type 0 where
  pub state_is : f.state p (h ++ m ∷ []) ≡ state
  pub sends_are : (d : ℕ) → f.sends p (h ++ m ∷ []) d ≡ f.sends p h d ++ payloads_to d given

-- so does it on the next message
abbrev pub Handles : List ℕ → List Given → TheReplaying → Cluster → Type 0
Handles state given n c = (j : OpenJob) → next_job n ≡ Some j
    → AnswersAfter c.world.handlers n.own.me (take (n.own.base + n.done) (c.world.history n.own.me)) (job_of j) state given

-- what `take` owes: it gives the first packet that waited, which was sent, and the process no longer has it
abbrev pub Takes : Option NodePacket → TheReplaying → TheReplaying → Type 0
Takes None old new = (old.own.out ≡ []) × (new ≡ old)
Takes (Some x) old new = (old ≡ record new { own = record new.own { out = x ∷ new.own.out } })
    × ((c : Cluster) → StandsReplaying old c old.own.me → IsSent c old.own.me x × StandsReplaying new c old.own.me)

-- what a call owes that is handed a packet, if that was sent
abbrev pub IsHanded : NodePacket → TheReplaying → TheReplaying → Type 0
IsHanded x old new = Owes (λ c. IsSaid c x.from x.to x.body) old new

-- the process after its replay, with the receipts of these messages
abbrev pub replayed_of : TheReplaying → TheReplayed
replayed_of n = record { own = n.own; receipts = receipts_of n.plan }

-- it still agrees
abbrev pub Ends : TheReplaying → TheReplayed → Type 0
Ends n r = (c : Cluster) (p : ℕ) → StandsReplaying n c p → StandsReplayed r c p

-- the next replay, a Resume that is sent, or a death
abbrev pub IsReplay : TheReplaying → Act → Type 0
IsReplay n (Replays p j) = j ≡ n.done
IsReplay n (Puts p d (Resume i k s)) = Unit {0}
IsReplay n (Dies p) = Unit {0}
IsReplay n act = ⊥

-- while messages are left the rules allow nothing else: it may take no packet
abbrev pub OnlyReplays : Type 0
OnlyReplays = (n : TheReplaying) (c : Cluster) (p : ℕ) (a : Act) → StandsReplaying n c p → is_over n ≡ false → May c a → actor a ≡ p
    → IsReplay n a
