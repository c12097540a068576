use Rattle.std.proofs.Common.{◌≡◌}
use Rattle.spans.specs.Frame.{kind_at}
use Rattle.listing.specs.Flaw.{first_word}
use Rattle.listing.proofs.flaw.first_word.Given as goal

abbrev pub invariant-loop-word : goal.invariant-loop-word
invariant-loop-word l = l.found ≡ first_word l.word l.flaw (kind_at l.frame.kinds) l.reach l.fn.offset l.bytes
