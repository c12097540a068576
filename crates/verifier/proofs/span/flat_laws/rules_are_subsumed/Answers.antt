use Rattle.verifier.proofs.Spans.FlatRules.{rules_subsumed}
use Rattle.verifier.proofs.span.flat_laws.rules_are_subsumed.Goals as goal

pub returns : goal.returns
returns c = rules_subsumed
