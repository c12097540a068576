-- Below `sender` the counts are those of the senders, and above it they are 0
use Rattle.std.proofs.Common.{◌≡◌, ℕ, ◌<◌, ◌≤◌}
use Rattle.std.specs.Prelude.{◌==◌, count_by, length, slice_index_or}
use Rattle.limits.specs.declared.TheConstants.{PARTIES}
use Rattle.session_process.proofs.stable.Stable.of.Given as goal

abbrev pub invariant-loop-sender : goal.invariant-loop-sender
invariant-loop-sender l = record {
  wide : length l.counts ≡ PARTIES;
  counted : (x : ℕ) → x < l.sender → slice_index_or l.counts x 0 ≡ count_by (λ y. y == x) l.receipts.senders;
  zero : (x : ℕ) → x < PARTIES → l.sender ≤ x → slice_index_or l.counts x 0 ≡ 0;
}
