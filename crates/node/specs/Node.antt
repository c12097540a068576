-- A node as clauses see it
use Rattle.std.specs.Prelude.{◌≡◌, ◌≢◌, ℕ, suc, ◌+◌, ◌-◌, ◌*◌, ◌<◌, ◌≤◌, List, [], ◌∷◌, length, Option, Some, None, is_some, Bool}
use Rattle.std.specs.Prelude.{true, false, slice_get, slice_index_or, slice_set, replicate, sum}
use Rattle.std.specs.List.{AllByRecursion}
use Rattle.limits.specs.declared.TheConstants.{PROCESSES}
use Rattle.rsn.specs.Receipts.{Received, accepted, acknowledged, numbers_of}
use Rattle.rsn.specs.declared.receipts.TheConstants.{LIMIT}
use Rattle.packets.specs.declared.packet.Body.{Body}
use Rattle.packets.specs.declared.packet.Body.TheVariants.{Number}
use Rattle.packets.specs.declared.packet.NodePacket.{NodePacket}
use Rattle.packets.specs.Packet.{in_range}
use Rattle.packets.specs.Format.{HasRoom, Fits}
use Rattle.node.specs.Queue.{TheQueue, no_queue, appended, recorded}
use Rattle.packets.specs.Outbox.{pushed}
use Rattle.node.specs.declared.limit.Limits.{Limits}
use Rattle.node.specs.Limit.{AreAllowed}
use Rattle.node.specs.declared.job.OpenJob.{OpenJob}
use Rattle.node.specs.declared.job.Given.{Given}
use Rattle.node.specs.declared.node.TheConstants.{MOST_GIVEN, MOST_RECEIVED}
pub use Rattle.packets.specs.Packet.{IsPositive}

-- the job is on a message of a peer
abbrev pub OfPeer : ℕ → ℕ → Option OpenJob → Type 0
OfPeer me count None = Unit {0}
OfPeer me count (Some j) = (j.sender ≤ count) × (j.sender ≢ me)

-- another process, or the gateway
abbrev pub IsPeer : ℕ → ℕ → ℕ → Type 0
IsPeer me count q = (q ≤ count) × (q ≢ me)

-- its message has an SSN
abbrev pub HasSsn : Option OpenJob → Type 0
HasSsn None = Unit {0}
HasSsn (Some j) = IsPositive j.ssn

-- what it received is from its peers: all that its checkpoint covers, and each message since
pub record FromPeers (me count base : ℕ) (covered senders : List ℕ) : Type 0 where
  pub total : sum covered ≡ base
  pub none_own : slice_index_or covered me 0 ≡ 0
  pub behind : AllByRecursion (IsPeer me count) senders

-- its limits; its number, and how many processes there are; its incarnation; its state; how many messages its checkpoint covers, and how
-- many of these came from each sender; what it received since; by destination the messages that it keeps; how many of its RSNs aren't
-- acknowledged; by peer the greatest incarnation that it heard, and whether it obeyed the Resume of that one; whether failures came one at
-- a time, as far as it knows; the open job; whether it waits until its checkpoint is durable; the packets that wait
pub record TheNode : Type 0 where
  pub limits : Limits
  pub me : ℕ
  pub count : ℕ
  pub life : ℕ
  pub state : List ℕ
  pub base : ℕ
  pub covered : List ℕ
  pub receipts : Received
  pub logs : List TheQueue
  pub waiting : ℕ
  pub heard : List ℕ
  pub resumed : List Bool
  pub exact : Bool
  pub working : Option OpenJob
  pub frozen : Bool
  pub out : List NodePacket

-- the messages to a destination that it keeps
abbrev pub log_at : List TheQueue → ℕ → TheQueue
log_at logs d = slice_index_or logs d no_queue

-- what always holds of a node's own numbers, whatever the cluster is: for each received message at most sixteen were sent to each
-- destination; and no job is open while it is frozen
pub record IsWithin (limits : Limits)
    (me count base : ℕ) (covered heard : List ℕ)
    (resumed : List Bool)
    (receipts : Received)
    (logs : List TheQueue) (working : Option OpenJob) (frozen : Bool) (waiting life : ℕ) (out : List NodePacket) : Type 0 where
  pub allowed : AreAllowed limits
  pub inside : 1 ≤ me
  pub within : me ≤ count
  pub few : count ≤ PROCESSES
  pub wide : length covered ≡ suc count
  pub heard_wide : length heard ≡ suc count
  pub resumed_wide : length resumed ≡ suc count
  pub logs_wide : length logs ≡ suc count
  pub counts : (q : ℕ) → slice_index_or covered q 0 ≤ base
  pub peers : FromPeers me count base covered receipts.senders
  pub young : base + length receipts.senders ≤ MOST_RECEIVED
  pub bound : length receipts.senders ≤ LIMIT
  pub room : is_some working ≡ true → (length receipts.senders < LIMIT) × (base + length receipts.senders < MOST_RECEIVED)
  pub waits : waiting ≤ length receipts.senders
  pub own : OfPeer me count working
  pub numbered : HasSsn working
  pub rests : frozen ≡ true → is_some working ≡ false
  pub short : (d : ℕ) → (log_at logs d).dropped + length (log_at logs d).payloads ≤ MOST_GIVEN * (base + length receipts.senders)
  pub alive : IsPositive life
  -- each packet that waits can be written
  pub fit : AllByRecursion Fits out

-- this holds of the node's numbers
abbrev pub Within : TheNode → Type 0
Within n = IsWithin n.limits n.me n.count n.base n.covered n.heard n.resumed n.receipts n.logs n.working n.frozen n.waiting n.life n.out

-- how many messages of a peer its checkpoint covers
abbrev pub covered_of : ℕ → TheNode → ℕ
covered_of q n = slice_index_or n.covered q 0

-- a packet from the node
abbrev pub packet_of : TheNode → ℕ → Body → NodePacket
packet_of n to body = record { count = n.count; from = n.me; to = to; body = body }

-- the node may say this to a peer, and each field is in range
pub record CanSay (n : TheNode) (to : ℕ) (body : Body) : Type 0 where
  pub peer : IsPeer n.me n.count to
  pub room : HasRoom body
  pub range : in_range body ≡ true

-- puts one more packet into the outbox, if there is room
abbrev pub posts : ℕ → Body → TheNode → TheNode
posts to body n = record n { out = pushed (packet_of n to body) n.out }

-- a handler may send these: there aren't too many, and each is to a peer
pub record MaySend (n : TheNode) (given : List Given) : Type 0 where
  pub few : length given ≤ MOST_GIVEN
  pub others : (i : ℕ) (s : Given) → slice_get given i ≡ Some s → (s.to ≤ n.count) × (s.to ≢ n.me)

-- logs one message, which waits for the RSN k
abbrev pub logged : ℕ → Given → List TheQueue → List TheQueue
logged k s logs = slice_set logs s.to (appended s.payload k (log_at logs s.to))

-- logs these, one after another
abbrev pub given_to : ℕ → List Given → List TheQueue → List TheQueue
given_to k [] logs = logs
given_to k (s ∷ given) logs = given_to k given (logged k s logs)

-- the RSN that the message of a job gets
abbrev pub next_number : TheNode → ℕ
next_number n = n.base + (length n.receipts.senders + 1)

-- the handler ran on the message of this job
abbrev pub worked : OpenJob → List ℕ → List Given → TheNode → TheNode
worked j state given n = record n {
  state = state;
  receipts = accepted j.sender n.receipts;
  logs = given_to (next_number n) given n.logs;
  waiting = n.waiting + 1;
  working = None;
}

-- what the sender is told then
abbrev pub number_of : OpenJob → TheNode → Body
number_of j n = Number n.life j.ssn (next_number n)

-- tells a sender the RSN of its message, which came after the checkpoint
abbrev pub tells : ℕ → ℕ → TheNode → TheNode
tells to ssn n = posts to (Number n.life ssn (n.base + slice_index_or (numbers_of to n.receipts) (ssn - covered_of to n - 1) 0)) n

-- the message to d with this SSN gets an RSN
abbrev pub numbered : ℕ → ℕ → ℕ → TheNode → TheNode
numbered d ssn k n = record n { logs = slice_set n.logs d (recorded ssn k (log_at n.logs d)) }

-- acknowledges the RSN at this distance from the checkpoint
abbrev pub counted : ℕ → TheNode → TheNode
counted k n = record n { receipts = acknowledged k n.receipts; waiting = n.waiting - 1 }

-- a node with these limits that received nothing, with this opening state
abbrev pub new_node : Limits → ℕ → ℕ → List ℕ → TheNode
new_node limits me count state =
    record {
      limits = limits;
      me = me;
      count = count;
      life = 1;
      state = state;
      base = 0;
      covered = replicate (count + 1) 0;
      receipts = record { senders = []; acknowledged = [] };
      logs = replicate (count + 1) no_queue;
      waiting = 0;
      heard = replicate (count + 1) 1;
      resumed = replicate (count + 1) true;
      exact = true;
      working = None;
      frozen = false;
      out = [];
    }
