use Rattle.std.proofs.Common.{◌≡◌}
use Rattle.spans.specs.Frame.{kind_at}
use Rattle.verifier.specs.Span.Rules.{words_rule}
use Rattle.verifier.proofs.span.access.words_rule.Given as goal

abbrev pub invariant-loop-word : goal.invariant-loop-word
invariant-loop-word l = l.rule ≡ words_rule l.word (kind_at l.frame.kinds) l.reach l.fn.offset l.bytes
