-- The kept state of a process: what a node gives, what a process can come back from, and what it is in a cluster
use Rattle.std.specs.Prelude.{◌≡◌, ◌≢◌, ℕ, suc, ◌+◌, ◌*◌, ◌≤◌, List, [], ◌∷◌, ◌++◌, length, map, take, drop, slice_index_or, None, Bool}
use Rattle.std.specs.Prelude.{true, ◌&&◌, ◌==◌, nat_lt, nat_le}
use Rattle.std.specs.List.{list_all}
use Rattle.limits.specs.declared.TheConstants.{PROCESSES}
use Rattle.world.specs.History.{count_of}
use Rattle.cluster.specs.Cluster.{Cluster}
use Rattle.cluster.specs.Rules.{Act, Keeps, May, does, after_run}
use Rattle.packets.specs.declared.kept.Kept.{Kept}
use Rattle.packets.specs.declared.kept.KeptLog.{KeptLog}
use Rattle.packets.specs.Kept.{kept_in_range}
use Rattle.node.specs.declared.node.TheConstants.{MOST_GIVEN, MOST_RECEIVED}
use Rattle.node.specs.Queue.{TheQueue, no_queue, kept_queue}
use Rattle.node.specs.Node.{TheNode, log_at}
use Rattle.node.specs.Checkpoints.{counts_from}
use Rattle.node.specs.Stands.{Each, Stands, KeepsOf}

-- ---- by peer

-- a list by peer, with an item for the process itself
abbrev pub with_own : {X : Type 0} → X → ℕ → List X → List X
with_own x me xs = take me xs ++ x ∷ drop me xs

-- the list without that item
abbrev pub without_own : {X : Type 0} → ℕ → List X → List X
without_own me xs = take me xs ++ drop (suc me) xs

-- ---- what a node gives

-- the SSN of the first message of a log, and the payloads
abbrev pub log_of : TheQueue → KeptLog
log_of q = record { first = q.dropped + 1; payloads = q.payloads }

-- its state, how many messages it received by peer, and its logs
abbrev pub kept_of : TheNode → Kept
kept_of n =
    record {
      me = n.me;
      count = n.count;
      state = n.state;
      length = n.base + length n.receipts.senders;
      counts = without_own n.me (counts_from 0 n.receipts n.covered);
      logs = without_own n.me (map log_of n.logs);
    }

-- ---- what a process can come back from

-- its SSNs are below this
abbrev pub is_short : ℕ → KeptLog → Bool
is_short most l = nat_lt (l.first + length l.payloads) most

-- the state is that of a process of a cluster, with counts and logs for each peer
abbrev pub is_process : Kept → Bool
is_process k =
    nat_lt 0 k.me && nat_le k.me k.count && nat_le k.count PROCESSES && (length k.counts == k.count) && (length k.logs == k.count)

-- its numbers are in range, and for each received message at most sixteen were sent to each destination
abbrev pub comes_back : Kept → Bool
comes_back k = is_process k && kept_in_range k && nat_le k.length MOST_RECEIVED && list_all (is_short (MOST_GIVEN * k.length + 2)) k.logs

-- ---- what it is in a cluster

-- the queue of a checkpoint's log
abbrev pub queue_of : KeptLog → TheQueue
queue_of l = kept_queue l.first l.payloads

-- the kept state of the process p is what its checkpoint covers: its state, how many messages came from each sender, and by destination
-- what they sent, without the entries that the log had dropped by then
pub record IsKeptOf (k : Kept) (c : Cluster) (p : ℕ) : Type 0 where
  pub me : k.me ≡ p
  pub count : k.count ≡ c.world.count
  pub saved : c.world.saved p ≡ k.length
  pub many : k.length ≤ length (c.world.history p)
  pub state : c.world.handlers.state p (take k.length (c.world.history p)) ≡ k.state
  pub counts : (q : ℕ) → q ≤ c.world.count → slice_index_or (with_own 0 k.me k.counts) q 0 ≡ count_of q (take k.length (c.world.history p))
  pub logs : (d : ℕ) → d ≤ c.world.count → d ≢ p
      → KeepsOf (log_at (with_own no_queue k.me (map queue_of k.logs)) d)
      (c.world.saved_trims p d) (c.world.handlers.sends p (take k.length (c.world.history p)) d) (λ _. None)

-- the node while it waits for its checkpoint, whatever it has still to send
abbrev pub resting : TheNode → TheNode
resting n = record n { frozen = true; out = [] }

-- this is the node's kept state: in each cluster with which it agrees while it waits for its checkpoint, that checkpoint may become
-- durable, and this is what it then covers
abbrev pub Covers : Kept → TheNode → Type 0
Covers k n = (c : Cluster) → Stands (resting n) c n.me → May c (Keeps n.me) × IsKeptOf k (does c (Keeps n.me)) n.me

-- what is kept of p stays what it is, whatever happens except that a newer checkpoint of p becomes durable: also what happens at p, and if
-- p dies
abbrev pub KeptStays : Type 0
KeptStays = (k : Kept) (p : ℕ) (acts : List Act) (c : Cluster) → Each (λ (a : Act). a ≢ Keeps p) acts → IsKeptOf k c p
    → IsKeptOf k (after_run c acts) p
