-- When a node agrees with a cluster, and what a call owes
use Rattle.std.specs.Prelude.{◌≡◌, ◌≢◌, ℕ, suc, ◌+◌, ◌<◌, ◌≤◌, max, List, [], ◌∷◌, ◌++◌, length, map, take, Option, Some, None, Bool}
use Rattle.std.specs.Prelude.{true, false, slice_index_or, ◌==◌, if◌then◌else◌}
use Rattle.rsn.specs.Receipts.{Received}
use Rattle.world.specs.declared.message.Message.{Message}
use Rattle.world.specs.History.{Payload, count_of}
use Rattle.world.specs.Phases.{Phase, Up, Busy}
use Rattle.world.specs.Handlers.{Handlers}
use Rattle.world.specs.World.{put}
use Rattle.world.specs.Logs.{run_to}
use Rattle.cluster.specs.Parcels.{Body, parcel, In}
use Rattle.cluster.specs.Cluster.{Cluster, Stage, Live, Frozen, durable_opening, waiting}
use Rattle.cluster.specs.Rules.{Keeps, May, does, IsNode, message}
use Rattle.packets.specs.declared.packet.NodePacket.{NodePacket}
use Rattle.node.specs.declared.job.OpenJob.{OpenJob}
use Rattle.node.specs.declared.job.Given.{Given}
use Rattle.node.specs.Queue.{TheQueue, leading}
use Rattle.node.specs.Node.{TheNode, log_at}
use Rattle.packets.specs.Says.{WasSaid}
pub use Rattle.packets.specs.Says.{PutOut}
pub use Rattle.cluster.specs.Goes.{Each, actor, doer, own_act, own_event, IsAct, GoesTo}

-- the message of a job
abbrev pub job_of : OpenJob → Message
job_of j = message j.sender j.ssn j.payload

-- the phase of a node with this open job
abbrev pub phase_of : Option OpenJob → Phase
phase_of None = Up
phase_of (Some j) = Busy (job_of j)

-- its stage: it runs, or waits until its checkpoint is durable
abbrev pub stage_of : Bool → Stage
stage_of false = Live
stage_of true = Frozen

-- each message is the next of its sender, if this many of each sender came before
abbrev pub InOrderFrom : (ℕ → ℕ) → List Message → Type 0
InOrderFrom c [] = Unit {0}
InOrderFrom c (m ∷ ms) = (m.ssn ≡ suc (c m.sender)) × InOrderFrom (put c m.sender (suc (c m.sender))) ms

-- the message of the open job is the next of its sender
abbrev pub IsNextAfter : List Message → Option OpenJob → Type 0
IsNextAfter h None = Unit {0}
IsNextAfter h (Some j) = j.ssn ≡ suc (count_of j.sender h)

-- in the history each message is the next of its sender; of the first `base` messages the count by sender is known, and of those after them
-- the sender of each
pub record HasReceived (count base : ℕ) (covered : List ℕ) (receipts : Received) (history : List Message) (acknowledged : ℕ
    → Bool) : Type 0 where
  pub before : List Message
  pub behind : List Message
  pub joined : before ++ behind ≡ history
  pub ordered : InOrderFrom (λ q. 0) before
  pub many : length before ≡ base
  pub covered_is : (q : ℕ) → q ≤ count → slice_index_or covered q 0 ≡ count_of q before
  pub senders : receipts.senders ≡ map (λ (m : Message). m.sender) behind
  pub in_order : InOrderFrom (λ q. count_of q before) behind
  pub flags : length receipts.acknowledged ≡ length receipts.senders
  pub acknowledged_is : (k : ℕ) → k < length receipts.senders → slice_index_or receipts.acknowledged k false ≡ acknowledged (suc (base + k))
  pub below : (k : ℕ) → k < base → acknowledged (suc k) ≡ true
  pub above : (k : ℕ) → length history < k → acknowledged k ≡ false

-- of these messages the first ones are dropped, and the queue keeps the others, with their RSNs by SSN; what isn't sent yet has no RSN
pub record KeepsOf (q : TheQueue) (dropped : ℕ) (payloads : List Payload) (numbers : ℕ → Option ℕ) : Type 0 where
  pub before : List Payload
  pub many : length before ≡ q.dropped
  pub joined : before ++ q.payloads ≡ payloads
  pub dropped_is : dropped ≡ q.dropped
  pub as_many : length q.numbers ≡ length q.payloads
  pub numbers_are : (i : ℕ) → i < length q.payloads → slice_index_or q.numbers i None ≡ numbers (suc (q.dropped + i))
  pub beyond : (i : ℕ) → q.dropped + length q.payloads < i → numbers i ≡ None

-- how many messages the first k of a history send to d
abbrev pub sent_by : Handlers → ℕ → List Message → ℕ → ℕ → ℕ
sent_by f p h d k = length (f.sends p (take k h) d)

-- the RSN up to which messages release what they sent: of a durable node those that its checkpoint covers, of another those that are
-- acknowledged without a gap
abbrev pub freed_in : Bool → Cluster → ℕ → ℕ
freed_in durable c p = if durable then c.world.saved p else run_to (c.world.acknowledged p) (length (c.world.history p))

-- how many messages to d it may have released: a durable node those that the messages covered by its checkpoint sent, whatever else is
-- acknowledged
abbrev pub most_released : Bool → Cluster → ℕ → ℕ → ℕ
most_released durable c p d = if durable then sent_by c.world.handlers p (c.world.history p) d (c.world.saved p) else c.world.released p d

-- if a queue also releases all that waits for RSNs up to k, it has released no more than the cluster has, or than the first k messages sent
pub record IsShut (q : TheQueue) (n released : ℕ) (sent : ℕ → ℕ) : Type 0 where
  pub within : q.released + length q.held ≤ q.dropped + length q.payloads
  pub waits : (k : ℕ) → k ≤ n → q.released + leading k q.held ≤ max released (sent k)

-- what a node holds is what the cluster has of the process p. Nothing is said of other processes
pub record Stands (n : TheNode) (c : Cluster) (p : ℕ) : Type 0 where
  pub me : n.me ≡ p
  pub count : n.count ≡ c.world.count
  pub inside : IsNode c p
  pub stage : c.stage p ≡ stage_of n.frozen
  pub greeted : c.greeted p ≡ true
  pub phase : c.world.phase p ≡ phase_of n.working
  pub works : IsNextAfter (c.world.history p) n.working
  pub life : c.world.incarnation p ≡ n.life
  pub state : c.world.handlers.state p (c.world.history p) ≡ n.state
  pub saved : c.world.saved p ≡ n.base
  -- a durable process of the cluster has a durable node
  pub durable : c.durable p ≡ true → n.limits.durable ≡ true
  pub exact : c.exact p ≡ n.exact
  pub received : HasReceived n.count n.base n.covered n.receipts (c.world.history p) (c.world.acknowledged p)
  pub waits : waiting c p ≡ n.waiting
  pub logs : (d : ℕ) → d ≤ c.world.count → d ≢ p
      → KeepsOf (log_at n.logs d) (c.world.trims p d) (c.world.handlers.sends p (c.world.history p) d) (c.world.numbers p d)
  pub gates : (d : ℕ) → d ≤ c.world.count → d ≢ p
      → IsShut (log_at n.logs d) (length (c.world.history p)) (most_released n.limits.durable c p d)
      (sent_by c.world.handlers p (c.world.history p) d)
  -- what the node may release is released in the cluster
  pub free : (d : ℕ) → sent_by c.world.handlers p (c.world.history p) d (freed_in n.limits.durable c p) ≤ c.world.released p d
  pub heard : (q : ℕ) → q ≤ c.world.count → c.heard p q ≡ slice_index_or n.heard q 0
  pub resumed : (q : ℕ) → q ≤ c.world.count → c.resumed p q ≡ slice_index_or n.resumed q true
  -- the packets that wait were sent in the cluster
  pub out : Each (PutOut c p) n.out

-- the process goes to a cluster with which the new node agrees, by acts alone: a node that is up meets no recovery
abbrev pub GoesOn : ℕ → TheNode → Cluster → Type 0
GoesOn p new c = GoesTo true p (λ d. Stands new d p) c

-- what a call owes, in each cluster with which the node agrees and for which `given` holds
abbrev pub Owes : (Cluster → Type 0) → TheNode → TheNode → Type 0
Owes given old new = (c : Cluster) → Stands old c old.me → given c → GoesOn old.me new c

-- what a call owes that is handed a packet that says this
abbrev pub Receives : ℕ → Body → TheNode → TheNode → Type 0
Receives from body old new = Owes (λ c. In (parcel from old.me body) c.parcels) old new

-- what a call owes that is handed nothing
abbrev pub Acts : TheNode → TheNode → Type 0
Acts old new = Owes (λ c. Unit {0}) old new

-- what a call owes that is told that its checkpoint is durable: if the node waits for it, it may become durable, and the node goes on from
-- there
abbrev pub Saves : TheNode → TheNode → Type 0
Saves old new = (old.frozen ≡ false → new ≡ old)
    × (old.frozen ≡ true → (c : Cluster) → Stands old c old.me → May c (Keeps old.me) × GoesOn old.me new (does c (Keeps old.me)))

-- the payloads that a handler sends to d
abbrev pub payloads_to : ℕ → List Given → List Payload
payloads_to d [] = []
payloads_to d (s ∷ given) = (if d == s.to then s.payload ∷ [] else []) ++ payloads_to d given

-- on the message m the handler of p leaves this state, and sends these messages
pub record Answers (c : Cluster) (p : ℕ) (m : Message) (state : List ℕ) (given : List Given) : Type 0 where
  pub state_is : c.world.handlers.state p (c.world.history p ++ m ∷ []) ≡ state
  pub sends_are : (d : ℕ)
      → c.world.handlers.sends p (c.world.history p ++ m ∷ []) d ≡ c.world.handlers.sends p (c.world.history p) d ++ payloads_to d given

-- so does it on the message of the open job
abbrev pub Handles : List ℕ → List Given → TheNode → Cluster → Type 0
Handles state given n c = (j : OpenJob) → n.working ≡ Some j → Answers c n.me (job_of j) state given

-- handlers that begin with this opening state, and have sent nothing then
pub record BeginsWith (f : Handlers) (p : ℕ) (state : List ℕ) : Type 0 where
  pub state_is : f.state p [] ≡ state
  pub sends_are : (d : ℕ) → f.sends p [] d ≡ []

-- a node with this opening state agrees with each opening in which its handler begins so
abbrev pub StandsFirst : TheNode → ℕ → ℕ → List ℕ → Type 0
StandsFirst n me count state = (f : Handlers) (durable : ℕ → Bool) → (durable me ≡ true → n.limits.durable ≡ true) → BeginsWith f me state
    → Stands n (durable_opening count f durable) me

-- what a call owes that is handed a packet, if that says what was sent
abbrev pub IsHanded : NodePacket → TheNode → TheNode → Type 0
IsHanded x old new = Owes (λ c. WasSaid c x.from x.to x.body) old new

-- what `take` owes: it gives the first packet that waited, which was sent, and the node no longer has it
abbrev pub Takes : Option NodePacket → TheNode → TheNode → Type 0
Takes None old new = (old.out ≡ []) × (new ≡ old)
Takes (Some x) old new = (old ≡ record new { out = x ∷ new.out })
    × ((c : Cluster) → Stands old c old.me → PutOut c old.me x × Stands new c old.me)
