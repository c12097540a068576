use Rattle.std.proofs.Common.{length}
use Rattle.page_calls.proofs.parts.+cut_texts.Given as goal

abbrev pub decreases-cut_texts : goal.decreases-cut_texts
decreases-cut_texts l = length l.lengths.now
