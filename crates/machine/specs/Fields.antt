-- The fields of a machine, which clauses don't see
use Rattle.std.specs.Prelude.{◌≡◌, ◌≢◌, ℕ, suc, ◌+◌, ◌<◌, ◌≤◌, List, length, map, Option, Some, None, is_some, true, false, slice_index_or}
use Rattle.std.specs.List.{list_all}
use Rattle.limits.specs.declared.TheConstants.{ENTRIES, PACKETS, PROCESSES, STATE_BYTES}
use Rattle.sender_log.specs.Log.{TheLog, queue_of}
use Rattle.world.specs.declared.packet.Packet.{Packet}
use Rattle.world.specs.declared.packet.Packet.TheVariants.{Delivery, Number, Acknowledgement}
use Rattle.world.specs.Refusals.{one_if}
use Rattle.rsn.specs.Receipts.{run_of}
use Rattle.checkpoint.specs.Saved.{is_sender}
use Rattle.session_process.specs.Process.{TheProcess, received}
use Rattle.session_process.specs.Mode.{is_live, is_lost}
use Rattle.machine.specs.Work.{IsInPlan}
use Rattle.machine.specs.Simulation.{TheMachine}
use Rattle.machine.specs.declared.machine.Machine.TheInside.{Inside}

-- a machine as clauses see it: without capacities
abbrev pub view_of : Inside → TheMachine
view_of m = record {
  lengths = m.lengths.items;
  processes = m.processes.items;
  outside = m.outside;
  slots = m.wire;
  started = m.started;
  calls = m.calls;
}

-- a packet that n processes may have on the wire: a message from one, or the outside, to another; an RSN that a process gave to a
-- message of another, or of the outside; or the acknowledgement of such an RSN
abbrev pub IsCarried : ℕ → Packet → Type 0
IsCarried n (Delivery d m) = (d ≤ n) × (m.sender ≤ n) × (m.sender ≢ d) × (0 < m.ssn)
IsCarried n (Number r s i k incarnation) = (0 < r) × (r ≤ n) × (s ≤ n) × (s ≢ r) × (0 < k)
IsCarried n (Acknowledgement s r k incarnation) = (0 < r) × (r ≤ n) × (0 < k)

-- each packet on the wire is one that n processes may have there
abbrev pub AreCarried : List (Option Packet) → ℕ → Type 0
AreCarried slots n = (key : ℕ) (k : Packet) → slice_index_or slots key None ≡ Some k → IsCarried n k

-- this is the log of the number me among n processes
pub record IsLogOf (n me : ℕ) (l : TheLog) : Type 0 where
  pub owner : l.owner ≡ me
  pub width : length l.queues ≡ suc n

-- how many messages it received, with the one that it works on
abbrev pub begun : TheProcess → ℕ
begun x = received x + one_if (is_some x.working)

-- one of n processes, with this number, with an image of this state length, after this many calls
pub record IsSoundAt (n me len calls : ℕ) (x : TheProcess) : Type 0 where
  pub short : len ≤ STATE_BYTES
  pub state : is_lost x.mode ≡ false → length x.state ≡ len
  pub log : IsLogOf n me x.outbox.log
  pub senders : list_all (is_sender me n) x.receipts.senders ≡ true
  pub whole : is_live x.mode ≡ false → run_of x.receipts.acknowledged ≡ received x
  pub planned : IsInPlan x.mode x.working (received x)
  pub begun_by : begun x ≤ calls
  pub incarnation : x.incarnation ≤ calls + 1
  pub own : x.saved.me ≡ me
  pub count : x.saved.count ≡ n
  pub saved_state : length x.saved.state ≡ len
  pub saved_by : length x.saved.senders ≤ calls

-- sizes are within their limits, and packets name processes that exist
pub record IsSound (m : Inside) : Type 0 where
  pub some : 0 < length m.processes.items
  pub few : length m.processes.items ≤ PROCESSES
  pub lengths : length m.lengths.items ≡ length m.processes.items
  pub processes : (p : ℕ) (d : TheProcess) (e : ℕ) → p < length m.processes.items
      → IsSoundAt (length m.processes.items)
      (suc p) (slice_index_or m.lengths.items p e) m.calls (slice_index_or m.processes.items p d)
  pub outside : IsLogOf (length m.processes.items) 0 m.outside.log
  pub calls : m.calls ≤ ENTRIES + 1
  pub started : m.started ≤ m.calls
  pub inputs : (d : ℕ) → (queue_of d m.outside.log).first + length (queue_of d m.outside.log).payloads ≤ m.calls + 1
  pub shown : length m.outside.shown ≤ m.calls
  pub wire : AreCarried m.wire (length m.processes.items)
  pub keys : (key : ℕ) → PACKETS ≤ key → slice_index_or m.wire key None ≡ None
