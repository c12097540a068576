-- Checkpoints of a node
use Rattle.std.specs.Prelude.{ℕ, zero, suc, ◌+◌, List, [], ◌∷◌, length, is_none, Bool, false, true, not, ◌&&◌, ◌==◌, nat_lt, if◌then◌else◌}
use Rattle.rsn.specs.Receipts.{Received, numbers_of}
use Rattle.packets.specs.declared.packet.Body.TheVariants.{Saved}
use Rattle.node.specs.Node.{TheNode, posts, covered_of}
use Rattle.node.specs.Transmission.{released}

-- it can make a checkpoint: no job is open, and it doesn't wait for an earlier one
abbrev pub may_freeze : TheNode → Bool
may_freeze n = not n.frozen && is_none n.working

-- makes one if it can, and waits
abbrev pub froze : TheNode → TheNode
froze n = if may_freeze n then record n { frozen = true } else n

-- how many messages it received from each peer, from q on, if the checkpoint covers this many
abbrev pub counts_from : ℕ → Received → List ℕ → List ℕ
counts_from q r [] = []
counts_from q r (k ∷ ks) = (k + length (numbers_of q r)) ∷ counts_from (suc q) r ks

-- the checkpoint covers all that it received
abbrev pub thawed : TheNode → TheNode
thawed n =
    record n {
      base = n.base + length n.receipts.senders;
      covered = counts_from 0 n.receipts n.covered;
      receipts = record { senders = []; acknowledged = [] };
      waiting = 0;
      frozen = false;
    }

-- tells a peer how many of its messages the checkpoint covers, if it covers any
abbrev pub says_covered : ℕ → TheNode → TheNode
says_covered to n = if nat_lt 0 (covered_of to n) then posts to (Saved (covered_of to n)) n else n

-- tells each peer below d
abbrev pub says_below : ℕ → ℕ → TheNode → TheNode
says_below me zero n = n
says_below me (suc d) n = if d == me then says_below me d n else says_covered d (says_below me d n)

-- the checkpoint for which it waits is durable: releases what waited, sends the first of it, and tells all peers
abbrev pub thaws : TheNode → TheNode
thaws n = let m = released (thawed n) in says_below m.me (m.count + 1) m

-- a checkpoint is durable: if the node waits for one, it goes on
abbrev pub saved : TheNode → TheNode
saved n = if n.frozen then thaws n else n
