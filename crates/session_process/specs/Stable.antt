-- What outlives a crash
use Rattle.std.specs.Prelude.{◌≡◌, ℕ, ◌+◌, ◌*◌, ◌<◌, ◌≤◌, ◌==◌, List, length, count_by, replicate, [], slice_index_or}
use Rattle.limits.specs.declared.TheConstants.{EFFECTS, PARTIES}
use Rattle.checkpoint.specs.Saved.{TheSaved, nothing_kept}

-- the counts are those of its senders, and it sent at most 8 messages to a destination for each that it received
pub record IsStable (s : TheSaved) (counts : List ℕ) : Type 0 where
  pub counts_are : (x : ℕ) → x < PARTIES → slice_index_or counts x 0 ≡ count_by (λ y. y == x) s.senders
  pub sent : (d : ℕ) → (slice_index_or s.queues d nothing_kept).first + length (slice_index_or s.queues d nothing_kept).payloads
      ≤ EFFECTS * length s.senders + 1

-- the checkpoint of a process that received nothing, with a state of len zeros
abbrev pub idle_saved : ℕ → ℕ → ℕ → TheSaved
idle_saved me n len = record { me = me; count = n; state = replicate len 0; senders = []; queues = replicate (n + 1) nothing_kept }
