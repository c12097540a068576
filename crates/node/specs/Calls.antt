-- A node after each of its calls
use Rattle.std.specs.Prelude.{ℕ, ◌+◌, ◌-◌, List, length, Option, Some, None, is_some, Bool, false, not, ◌&&◌, ◌||◌, ◌==◌, nat_lt, nat_le}
use Rattle.std.specs.Prelude.{if◌then◌else◌, slice_index_or, slice_set}
use Rattle.rsn.specs.Receipts.{numbers_of}
use Rattle.packets.specs.declared.packet.Body.{Body}
use Rattle.packets.specs.declared.packet.Body.TheVariants.{Delivery, Number, Acknowledgement, Ask, Resume, Saved}
use Rattle.packets.specs.declared.packet.NodePacket.{NodePacket}
use Rattle.packets.specs.Packet.{in_range}
use Rattle.node.specs.declared.node.TheConstants.{MOST_RECEIVED}
use Rattle.node.specs.declared.job.OpenJob.{OpenJob}
use Rattle.node.specs.declared.job.Given.{Given}
use Rattle.node.specs.Queue.{is_kept, dropped_to}
use Rattle.node.specs.Node.{TheNode, log_at, posts, worked, number_of, numbered, counted, tells, covered_of}
use Rattle.node.specs.Transmission.{released}
use Rattle.node.specs.Answers.{asked_by, resumed_by}

-- whether the limits allow one message more
abbrev pub takes_more : TheNode → Bool
takes_more n = nat_lt n.waiting n.limits.numbers && nat_lt (length n.receipts.senders) n.limits.receipts
    && nat_lt (n.base + length n.receipts.senders) MOST_RECEIVED

-- takes a message of a sender: drops it, answers it if it was received before, or opens a job
abbrev pub delivered : ℕ → ℕ → ℕ → List ℕ → TheNode → TheNode
delivered from life ssn x n =
    let place = ssn - covered_of from n - 1 in
    let known = length (numbers_of from n.receipts) in
    if is_some n.working || not (life == slice_index_or n.heard from 0) then n
    else if nat_le ssn (covered_of from n) then posts from (Saved (covered_of from n)) n
    else if nat_lt place known then tells from ssn n
    else if (place == known) && takes_more n then record n { working = Some (record { sender = from; ssn = ssn; payload = x }) }
    else n

-- takes an RSN: if it is of an entry and of the incarnation that was heard, records and acknowledges it
abbrev pub recorded_by : ℕ → ℕ → ℕ → ℕ → TheNode → TheNode
recorded_by from life ssn k n =
    if (life == slice_index_or n.heard from 0)
    && is_kept ssn (log_at n.logs from) then posts from (Acknowledgement life k) (numbered from ssn k n) else n

-- takes an acknowledgement: if it is of this incarnation and of an RSN after the checkpoint, counts it, and releases what waited for it
abbrev pub acknowledged_by : ℕ → ℕ → TheNode → TheNode
acknowledged_by life k n =
    if (life == n.life) && nat_lt n.base k && nat_le k (n.base + length n.receipts.senders)
    && not (slice_index_or n.receipts.acknowledged (k - n.base - 1) false)
    then released (counted (k - n.base) n)
    else n

-- the first messages to a receiver are covered for good: drops them from the log
abbrev pub dropped_by : ℕ → ℕ → TheNode → TheNode
dropped_by from k n = record n { logs = slice_set n.logs from (dropped_to k (log_at n.logs from)) }

-- the handler ran
abbrev pub did_work : List ℕ → List Given → Option OpenJob → TheNode → TheNode
did_work state given None n = n
did_work state given (Some j) n = posts j.sender (number_of j n) (worked j state given n)

-- takes what another node says; a body that isn't named here is dropped
abbrev pub told : ℕ → Body → TheNode → TheNode
told from (Delivery i ssn x) n = delivered from i ssn x n
told from (Number i ssn k) n = recorded_by from i ssn k n
told from (Acknowledgement i k) n = acknowledged_by i k n
told from (Saved k) n = dropped_by from k n
told from (Ask i k) n = asked_by from i k n
told from (Resume i k s) n = resumed_by from i k s n
told from body n = n

-- a packet is from another node of this cluster to this one, each field is in range, and the node takes what arrives
abbrev pub is_for : TheNode → NodePacket → Bool
is_for n x = not n.frozen && (x.count == n.count) && (x.to == n.me) && nat_le x.from n.count && not (x.from == n.me) && in_range x.body

-- takes a packet
abbrev pub handed : NodePacket → TheNode → TheNode
handed x n = if is_for n x then told x.from x.body n else n
