-- What always holds of a node's numbers holds still when a few of them change
use Rattle.std.proofs.Common.{◌≡◌, ℕ, suc, ◌+◌, ◌*◌, ◌<◌, ◌≤◌, List, length, Bool, true, false}
use Rattle.std.specs.Prelude.{Option, is_some}
use Rattle.rsn.specs.Receipts.{Received}
use Rattle.rsn.specs.declared.receipts.TheConstants.{LIMIT}
use Rattle.packets.specs.declared.packet.NodePacket.{NodePacket}
use Rattle.node.specs.declared.job.OpenJob.{OpenJob}
use Rattle.node.specs.declared.limit.Limits.{Limits}
use Rattle.node.specs.declared.node.TheConstants.{MOST_GIVEN, MOST_RECEIVED}
use Rattle.node.specs.Queue.{TheQueue}
use Rattle.node.specs.Node.{IsWithin, OfPeer, HasSsn, log_at}

-- with other logs, another job, and other marks of its peers
pub within-with : {limits : Limits} {me count base : ℕ} {covered heard marks : List ℕ} {resumed obeyed : List Bool} {receipts : Received} {logs queues : List TheQueue} {working job : Option OpenJob} {frozen : Bool} {waiting life : ℕ} {out : List NodePacket}
    → IsWithin limits me count base covered heard resumed receipts logs working frozen waiting life out → length marks ≡ suc count → length obeyed ≡ suc count → length queues ≡ suc count
    → (is_some job ≡ true → (length receipts.senders < LIMIT) × (base + length receipts.senders < MOST_RECEIVED)) → OfPeer me count job → HasSsn job → (frozen ≡ true → is_some job ≡ false)
    → ((d : ℕ) → (log_at queues d).dropped + length (log_at queues d).payloads ≤ MOST_GIVEN * (base + length receipts.senders))
    → IsWithin limits me count base covered marks obeyed receipts queues job frozen waiting life out
within-with w heard_wide resumed_wide logs_wide room own numbered rests short =
    record {
      allowed = w.allowed;
      inside = w.inside;
      within = w.within;
      few = w.few;
      wide = w.wide;
      heard_wide = heard_wide;
      resumed_wide = resumed_wide;
      logs_wide = logs_wide;
      counts = w.counts;
      peers = w.peers;
      young = w.young;
      bound = w.bound;
      room = room;
      waits = w.waits;
      own = own;
      numbered = numbered;
      rests = rests;
      short = short;
      alive = w.alive;
      fit = w.fit;
    }
