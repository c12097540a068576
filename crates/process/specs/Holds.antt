-- How many messages a process keeps, and how many more after each call
use Rattle.std.specs.Prelude.{◌≡◌, ◌+◌, ◌-◌, ◌≤◌, ℕ, List, length, Option, true}
use Rattle.packets.specs.declared.packet.Body.TheVariants.{Saved}
use Rattle.packets.specs.declared.packet.NodePacket.{NodePacket}
use Rattle.node.specs.declared.job.Given.{Given}
use Rattle.node.specs.Queue.{TheQueue}
use Rattle.node.specs.Node.{TheNode, log_at}
use Rattle.node.specs.Calls.{is_for}
use Rattle.recovery.specs.declared.lifecycle.Lifecycle.TheVariants.{Up}
use Rattle.process.specs.Process.{TheProcess}
use Rattle.process.specs.Calls.{Calls, Stays, IsHanded, Ticks, Takes, Freezes, Thaws, is_frozen, standing_at}
use Rattle.process.specs.Bounds.{waiting_of}
use Rattle.process.specs.Job.{TakesBack}

-- how many messages its logs keep, as a host reads it
abbrev pub entries_of : TheProcess → ℕ
entries_of p = (standing_at p.lifecycle).entries

-- the process keeps no more after a call
abbrev pub KeepsNoMore : TheProcess → TheProcess → Type 0
KeepsNoMore old new = entries_of new ≤ entries_of old

-- a process keeps more messages only if its handler runs on one, also in a replay: then at most as many more as that sends. This includes
-- all stages that the call goes through
pub record EntriesAreGiven : Type 0 where
  pub received : (x : NodePacket) (old new : TheProcess) → Calls (IsHanded x) old new → KeepsNoMore old new
  pub ticked : (old new : TheProcess) → Calls Ticks old new → KeepsNoMore old new
  pub taken : (o : Option NodePacket) (old new : TheProcess) → Stays (Takes o) old new → KeepsNoMore old new
  pub frozen : (old new : TheProcess) → Stays Freezes old new → KeepsNoMore old new
  pub saved : (old new : TheProcess) → Stays Thaws old new → KeepsNoMore old new
  pub worked : (state : List ℕ) (given : List Given) (old new : TheProcess) → TakesBack state given old new
      → entries_of new ≤ entries_of old + length given

-- how many messages a log has, with those that it dropped
abbrev pub sent_in : TheQueue → ℕ
sent_in q = q.dropped + length q.payloads

-- a node that is up is told that the first messages to a receiver are covered for good: its log for that one keeps none of these
pub record CoveredAreDropped : Type 0 where
  pub dropped : (x : NodePacket) (k : ℕ) (n : TheNode) (old new : TheProcess) → old.lifecycle ≡ Up n → x.body ≡ Saved k → is_for n x ≡ true
      → Calls (IsHanded x) old new
      → (m : TheNode) × (new.lifecycle ≡ Up m) × (length (log_at m.logs x.from).payloads ≤ sent_in (log_at n.logs x.from) - k)

-- the checkpoint for which a process waits is durable: it covers all that the process received, so it keeps no receipt, and no RSN waits
pub record SavedDrops : Type 0 where
  pub none : (old new : TheProcess) → is_frozen old.lifecycle ≡ true → Stays Thaws old new
      → ((standing_at new.lifecycle).receipts ≡ 0)
      × (((standing_at new.lifecycle).base ≡ (standing_at old.lifecycle).length) × (waiting_of new.lifecycle ≡ 0))
