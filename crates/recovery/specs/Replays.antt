-- A process that replays as clauses see it, and after each of its calls
use Rattle.std.specs.Prelude.{◌≡◌, ℕ, ◌+◌, ◌≤◌, List, length, map, replicate, Option, Some, None, Bool, true, nat_le, slice_get}
use Rattle.rsn.specs.Receipts.{Received}
use Rattle.rsn.specs.declared.receipts.TheConstants.{LIMIT}
use Rattle.node.specs.declared.job.OpenJob.{OpenJob}
use Rattle.node.specs.declared.job.Given.{Given}
use Rattle.node.specs.declared.node.TheConstants.{MOST_RECEIVED}
use Rattle.node.specs.Node.{IsPeer}
use Rattle.node.specs.Stands.{Each}
use Rattle.recovery.specs.Own.{TheOwn, IsShort, ran}

-- the process; the messages that it keeps after its checkpoint, and how many of these are replayed
pub record TheReplaying : Type 0 where
  pub own : TheOwn
  pub plan : List OpenJob
  pub done : ℕ

-- the receipts of these messages, all of them acknowledged
abbrev pub receipts_of : List OpenJob → Received
receipts_of jobs = record { senders = map (λ (j : OpenJob). j.sender) jobs; acknowledged = replicate (length jobs) true }

-- what always holds of its numbers, whatever the cluster is
pub record IsReplaying (own : TheOwn) (plan : List OpenJob) (done : ℕ) (receipts : Received) : Type 0 where
  pub within : done ≤ length plan
  pub few : length plan ≤ LIMIT
  pub young : own.base + length plan ≤ MOST_RECEIVED
  pub short : IsShort own.logs (own.base + done)
  pub received : receipts ≡ receipts_of plan
  -- each is from a peer
  pub peers : Each (λ (j : OpenJob). IsPeer own.me own.count j.sender) plan

-- the message that the handler is to run on
abbrev pub next_job : TheReplaying → Option OpenJob
next_job n = slice_get n.plan n.done

-- whether all of the plan is replayed
abbrev pub is_over : TheReplaying → Bool
is_over n = nat_le (length n.plan) n.done

-- the RSN of the next message
abbrev pub next_number : TheReplaying → ℕ
next_number n = n.own.base + n.done + 1

-- the handler ran on it
abbrev pub did_replay : List ℕ → List Given → Option OpenJob → TheReplaying → TheReplaying
did_replay state given None n = n
did_replay state given (Some j) n = record n { own = ran (next_number n) state given n.own; done = n.done + 1 }
