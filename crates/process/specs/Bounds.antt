-- How much memory a process needs at most, in any stage, however long it runs
use Rattle.std.specs.Prelude.{◌≡◌, ℕ, suc, ◌+◌, ◌*◌, ◌<◌, ◌≤◌, List, [], ◌∷◌, length, is_some, Bool, true, false}
use Rattle.rsn.specs.Receipts.{Received}
use Rattle.rsn.specs.declared.receipts.TheConstants.{LIMIT}
use Rattle.packets.specs.declared.outbox.TheConstants.{OUTBOX}
use Rattle.node.specs.declared.kept.TheConstants.{MOST_KEPT}
use Rattle.node.specs.declared.node.TheConstants.{MOST_GIVEN, WINDOW}
use Rattle.node.specs.declared.status.Standing.{Standing}
use Rattle.node.specs.Limit.{AreAllowed}
use Rattle.node.specs.Node.{TheNode}
use Rattle.node.specs.Status.{entries_kept}
use Rattle.recovery.specs.Own.{TheOwn}
use Rattle.recovery.specs.declared.lifecycle.Lifecycle.{Lifecycle}
use Rattle.recovery.specs.declared.lifecycle.Lifecycle.TheVariants.{Up, Collecting, Replaying, Replayed, Restoring, Passing}
use Rattle.process.specs.declared.queries.TheConstants.{MOST_STORED, MOST_ENTRIES}
use Rattle.process.specs.Process.{is_settled}
use Rattle.process.specs.Packets.{Writes}

-- ---- what a host reads

-- its messages since its checkpoint, with those that it has still to replay; the messages in its logs; the packets that wait
pub record IsBounded (s : Standing) : Type 0 where
  pub receipts : s.receipts + s.replays ≤ LIMIT
  pub entries : s.entries ≤ MOST_STORED + MOST_GIVEN * s.receipts
  pub most : s.entries ≤ MOST_ENTRIES
  pub packets : s.packets ≤ OUTBOX

-- how many of these aren't acknowledged
abbrev pub unacknowledged : List Bool → ℕ
unacknowledged [] = 0
unacknowledged (true ∷ flags) = unacknowledged flags
unacknowledged (false ∷ flags) = suc (unacknowledged flags)

-- how many of its RSNs since its checkpoint aren't. A process that collects has none, and one that replays waits for none
abbrev pub waiting_of : Lifecycle → ℕ
waiting_of (Up n) = unacknowledged n.receipts.acknowledged
waiting_of (Replayed n) = unacknowledged n.receipts.acknowledged
waiting_of (Restoring n) = unacknowledged n.receipts.acknowledged
waiting_of other = 0

-- ---- limits that its type keeps

-- of a node that is up: its receipts, with one more for its job; its RSNs that wait, and their count; and its packets
pub record NodeNumbers (n : TheNode) : Type 0 where
  pub allowed : AreAllowed n.limits
  pub receipts : length n.receipts.senders ≤ LIMIT
  pub flags : length n.receipts.acknowledged ≡ length n.receipts.senders
  pub waits : n.waiting ≤ WINDOW
  pub counted : unacknowledged n.receipts.acknowledged ≡ n.waiting
  pub room : is_some n.working ≡ true → (length n.receipts.senders < LIMIT) × (n.waiting < WINDOW)
  pub rests : n.frozen ≡ true → is_some n.working ≡ false
  pub packets : length n.out ≤ OUTBOX

-- logs keep at most what is stored of a process and what its messages since then sent
abbrev pub LogsHold : ℕ → ℕ → Type 0
LogsHold entries receipts = entries ≤ MOST_STORED + MOST_GIVEN * receipts

-- the logs of a node do so, and have room in a checkpoint while it waits for one
pub record NodeHolds (n : TheNode) : Type 0 where
  pub numbers : NodeNumbers n
  pub logs : LogsHold (entries_kept n.logs) (length n.receipts.senders)
  pub stored : n.frozen ≡ true → entries_kept n.logs < MOST_KEPT

-- the logs of a recovering process do so, which received this many messages since its checkpoint
pub record OwnHolds (o : TheOwn) (receipts : ℕ) : Type 0 where
  pub allowed : AreAllowed o.limits
  pub logs : LogsHold (entries_kept o.logs) receipts
  pub packets : length o.out ≤ OUTBOX

-- its receipts are all acknowledged
pub record ReceiptsHold (r : Received) : Type 0 where
  pub few : length r.senders ≤ LIMIT
  pub flags : length r.acknowledged ≡ length r.senders
  pub none : unacknowledged r.acknowledged ≡ 0

-- in each stage
abbrev pub Holds : Lifecycle → Type 0
Holds (Up n) = NodeHolds n
Holds (Collecting n) = OwnHolds n.own 0
Holds (Replaying n) = OwnHolds n.own n.done × ((n.done ≤ length n.plan) × (length n.plan ≤ LIMIT))
Holds (Replayed n) = OwnHolds n.own (length n.receipts.senders) × ReceiptsHold n.receipts
Holds (Restoring n) = OwnHolds n.own (length n.receipts.senders) × ReceiptsHold n.receipts
Holds Passing = Unit {0}

-- it isn't between two stages, keeps these limits, and its packets can be written
pub record IsWithin (c : Lifecycle) : Type 0 where
  pub settled : is_settled c ≡ true
  pub holds : Holds c
  pub writes : Writes c
