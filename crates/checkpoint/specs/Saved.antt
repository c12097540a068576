-- What clauses see of a saved process
use Rattle.std.specs.Prelude.{◌≡◌, ℕ, ◌+◌, ◌≤◌, List, [], length, map, replicate, slice_index_or, Bool, true, not, ◌==◌, ◌&&◌, nat_le, None}
use Rattle.std.specs.List.{AllByRecursion, list_all}
use Rattle.limits.specs.declared.TheConstants.{PAYLOAD_BYTES, PROCESSES, RECEIPTS, SENDS, STATE_BYTES}
use Rattle.rsn.specs.Receipts.{Received}
use Rattle.sender_log.specs.Queue.{TheQueue}
use Rattle.sender_log.specs.Log.{TheLog}
use Rattle.checkpoint.specs.declared.form.CheckpointForm.{CheckpointForm}
use Rattle.checkpoint.specs.declared.form.CheckpointForm.TheVariants.{First, Second}

-- ---- values

-- what is kept for one destination: the SSN of the first message, and the payloads from there on
pub record TheKept : Type 0 where
  pub first : ℕ
  pub payloads : List (List ℕ)

-- nothing kept, nothing trimmed
abbrev pub nothing_kept : TheKept
nothing_kept = record { first = 1; payloads = [] }

-- the process, the number of processes, its state, the senders of what it received, and what it keeps for 0, 1, .. count. It keeps
-- nothing for itself
pub record TheSaved : Type 0 where
  pub me : ℕ
  pub count : ℕ
  pub state : List ℕ
  pub senders : List ℕ
  pub queues : List TheKept

-- ---- ranges

-- the length that a payload of a form may have
abbrev pub PayloadFits : CheckpointForm → List ℕ → Type 0
PayloadFits First payload = length payload ≡ 64
PayloadFits Second payload = length payload ≤ PAYLOAD_BYTES

-- SSNs are from 1 to SENDS
pub record KeptFits (form : CheckpointForm) (kept : TheKept) : Type 0 where
  pub least : 1 ≤ kept.first
  pub bound : kept.first + length kept.payloads ≤ SENDS + 1
  pub payloads : AllByRecursion (PayloadFits form) kept.payloads

-- whether s can have sent to me: it is 0, the outside, or another process
abbrev pub is_sender : ℕ → ℕ → ℕ → Bool
is_sender me count s = nat_le s count && not (s == me)

-- what can be saved in a form
pub record Fits (form : CheckpointForm) (s : TheSaved) : Type 0 where
  pub some : 1 ≤ s.count
  pub few : s.count ≤ PROCESSES
  pub least : 1 ≤ s.me
  pub own : s.me ≤ s.count
  pub state : length s.state ≤ STATE_BYTES
  pub received : length s.senders ≤ RECEIPTS
  pub senders : list_all (is_sender s.me s.count) s.senders ≡ true
  pub queues : length s.queues ≡ s.count + 1
  pub nothing : slice_index_or s.queues s.me nothing_kept ≡ nothing_kept
  pub kept : AllByRecursion (KeptFits form) s.queues

-- ---- from receipts and a log, and back

-- what is saved of a queue. Its RSNs are not
abbrev pub kept_of : TheQueue → TheKept
kept_of q = record { first = q.first; payloads = q.payloads }

-- the queue of what was saved. No message has an RSN
abbrev pub queue_again : TheKept → TheQueue
queue_again kept = record { first = kept.first; payloads = kept.payloads; numbers = replicate (length kept.payloads) None }

-- a process with this state, these receipts and this log
abbrev pub saved_of : ℕ → ℕ → List ℕ → Received → TheLog → TheSaved
saved_of me count state receipts log =
    record { me = me; count = count; state = state; senders = receipts.senders; queues = map kept_of log.queues }

-- the receipts of what was saved. All count as acknowledged
abbrev pub receipts_again : TheSaved → Received
receipts_again s = record { senders = s.senders; acknowledged = replicate (length s.senders) true }

-- the log of what was saved. No message has an RSN
abbrev pub log_again : TheSaved → TheLog
log_again s = record { owner = s.me; queues = map queue_again s.queues }
