-- What a node sends, and sends again
use Rattle.std.specs.Prelude.{ℕ, zero, suc, ◌+◌, ◌-◌, length, is_none, max, min, Bool, false, ◌==◌, if◌then◌else◌, slice_index_or}
use Rattle.std.specs.Prelude.{slice_set}
use Rattle.rsn.specs.Receipts.{numbers_of, acknowledged_of, run_of}
use Rattle.packets.specs.declared.packet.Body.TheVariants.{Delivery}
use Rattle.node.specs.Queue.{TheQueue, payload_of, number_of, released_by}
use Rattle.node.specs.Node.{TheNode, log_at, posts, tells, covered_of}

-- sends a message that is kept
abbrev pub delivers : ℕ → ℕ → TheNode → TheNode
delivers to ssn n = posts to (Delivery n.life ssn (payload_of ssn (log_at n.logs to))) n

-- sends the k messages after this SSN
abbrev pub sends : ℕ → ℕ → ℕ → TheNode → TheNode
sends to first zero n = n
sends to first (suc k) n = delivers to (first + k + 1) (sends to first k n)

-- the SSN after which the kept messages above an SSN begin
abbrev pub first_to_send : ℕ → TheQueue → ℕ
first_to_send above q = max q.dropped above

-- how many of them are released, at most as many as one call sends
abbrev pub many_to_send : ℕ → ℕ → TheQueue → ℕ
many_to_send tick above q = min (q.released - first_to_send above q) tick

-- sends these
abbrev pub sends_on : ℕ → ℕ → TheNode → TheNode
sends_on to above n = sends to (first_to_send above (log_at n.logs to)) (many_to_send n.limits.tick above (log_at n.logs to)) n

-- all RSNs up to this one are acknowledged
abbrev pub run_at : TheNode → ℕ
run_at n = n.base + run_of n.receipts.acknowledged

-- the RSN up to which messages release what they sent: of a durable node those that its checkpoint covers, of another those whose RSNs are
-- acknowledged
abbrev pub freed : TheNode → ℕ
freed n = if n.limits.durable then n.base else run_at n

-- releases what waits for these
abbrev pub unlocked : ℕ → TheNode → TheNode
unlocked to n = record n { logs = slice_set n.logs to (released_by (freed n) (log_at n.logs to)) }

-- and sends the first of it
abbrev pub released_to : ℕ → TheNode → TheNode
released_to to n = sends_on to (log_at n.logs to).released (unlocked to n)

-- does so for each destination below d except the node itself
abbrev pub released_below : ℕ → ℕ → TheNode → TheNode
released_below me zero n = n
released_below me (suc d) n = if d == me then released_below me d n else released_to d (released_below me d n)

-- releases what waited, to each peer
abbrev pub released : TheNode → TheNode
released n = released_below n.me (n.count + 1) n

-- of the k messages after SSN s sends the first without an RSN, as many as are left
abbrev pub resends : ℕ → ℕ → ℕ → ℕ → TheNode → TheNode
resends to s zero left n = n
resends to s (suc k) zero n = n
resends to s (suc k) (suc left) n =
    if is_none (number_of (s + 1)
    (log_at n.logs to)) then resends to (s + 1) k left (delivers to (s + 1) n) else resends to (s + 1) k (suc left) n

-- sends those that are released again
abbrev pub resent : ℕ → TheNode → TheNode
resent to n = resends to (log_at n.logs to).dropped ((log_at n.logs to).released - (log_at n.logs to).dropped) n.limits.tick n

-- whether the RSN of a peer's message is acknowledged
abbrev pub is_told_at : ℕ → ℕ → TheNode → Bool
is_told_at to place n = slice_index_or n.receipts.acknowledged (slice_index_or (numbers_of to n.receipts) place 0 - 1) false

-- of the RSNs of k messages of a peer, from this place on, tells the first that aren't acknowledged, as many as are left
abbrev pub renumbers : ℕ → ℕ → ℕ → ℕ → TheNode → TheNode
renumbers to place zero left n = n
renumbers to place (suc k) zero n = n
renumbers to place (suc k) (suc left) n =
    if is_told_at to place n then renumbers to (place + 1) k (suc left) n
    else renumbers to (place + 1) k left (tells to (covered_of to n + place + 1) n)

-- tells a peer's RSNs again
abbrev pub renumbered : ℕ → TheNode → TheNode
renumbered to n = renumbers to (run_of (acknowledged_of to n.receipts))
    (length (numbers_of to n.receipts) - run_of (acknowledged_of to n.receipts)) n.limits.tick n

-- sends again what isn't answered, to each peer below d
abbrev pub ticked_below : ℕ → ℕ → TheNode → TheNode
ticked_below me zero n = n
ticked_below me (suc d) n = if d == me then ticked_below me d n else renumbered d (resent d (ticked_below me d n))

-- a node that waits until its checkpoint is durable sends nothing
abbrev pub ticked : TheNode → TheNode
ticked n = if n.frozen then n else ticked_below n.me (n.count + 1) n
