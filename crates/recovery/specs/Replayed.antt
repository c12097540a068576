-- A process that has finished its replay, and when it agrees with a cluster
use Rattle.std.specs.Prelude.{◌≡◌, ℕ, ◌+◌, ◌≤◌, [], length, None, true, false}
use Rattle.std.specs.List.{AllByRecursion}
use Rattle.rsn.specs.Receipts.{Received}
use Rattle.world.specs.Logs.{sent_in_all}
use Rattle.world.specs.Calls.{phase_with, peers}
use Rattle.cluster.specs.Cluster.{Cluster, Live}
use Rattle.packets.specs.declared.packet.NodePacket.{NodePacket}
use Rattle.node.specs.declared.node.TheConstants.{MOST_RECEIVED}
use Rattle.node.specs.Node.{IsPeer}
use Rattle.node.specs.Stands.{HasReceived}
use Rattle.recovery.specs.Own.{TheOwn, IsShort}
use Rattle.recovery.specs.Stands.{HasOwn, IsSaid, GoesTo}

-- the process, and what it received after its checkpoint
pub record TheReplayed : Type 0 where
  pub own : TheOwn
  pub receipts : Received

-- what always holds of its numbers: it received no more than a process may, all of it from its peers, and for each at most sixteen messages
-- were sent to each destination
pub record IsReplayed (own : TheOwn) (receipts : Received) : Type 0 where
  pub young : own.base + length receipts.senders ≤ MOST_RECEIVED
  pub short : IsShort own.logs (own.base + length receipts.senders)
  -- each is from a peer
  pub peers : AllByRecursion (IsPeer own.me own.count) receipts.senders

-- it agrees with a cluster in which p recovered and replayed: all that it keeps is acknowledged, it has no RSNs from its peers, and waits
-- for those of all; if there are none, all that it sent is released
pub record StandsReplayed (n : TheReplayed) (c : Cluster) (p : ℕ) : Type 0 where
  pub stage : c.stage p ≡ Live
  pub greeted : c.greeted p ≡ false
  pub phase : c.world.phase p ≡ phase_with (peers c.world p false)
  pub life : c.world.incarnation p ≡ n.own.life
  pub own : HasOwn n.own c p (c.world.history p) (c.world.trims p) (c.world.numbers p)
  pub received : HasReceived n.own.count n.own.base n.own.covered n.receipts (c.world.history p) (c.world.acknowledged p)
  pub acknowledged : (k : ℕ) → k ≤ length (c.world.history p) → c.world.acknowledged p k ≡ true
  pub numbers : (d ssn : ℕ) → c.world.numbers p d ssn ≡ None
  pub resumed : (q : ℕ) → c.resumed p q ≡ true
  pub restoring : (q : ℕ) → c.restoring p q ≡ 0
  pub released : peers c.world p false ≡ [] → (d : ℕ) → c.world.released p d ≡ sent_in_all c.world p d

-- what a call owes that is handed a packet, if that was sent
abbrev pub IsHanded : NodePacket → TheReplayed → TheReplayed → Type 0
IsHanded x old new = (c : Cluster) → StandsReplayed old c old.own.me → IsSaid c x.from x.to x.body
    → GoesTo new.own.exact old.own.me (λ d. StandsReplayed new d old.own.me) c
