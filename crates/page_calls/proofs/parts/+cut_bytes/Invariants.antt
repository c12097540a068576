use Rattle.std.proofs.Common.{length}
use Rattle.page_calls.proofs.parts.+cut_bytes.Given as goal

abbrev pub decreases-cut_bytes : goal.decreases-cut_bytes
decreases-cut_bytes l = length l.lengths.now
