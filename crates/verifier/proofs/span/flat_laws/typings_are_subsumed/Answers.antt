use Rattle.verifier.proofs.Spans.FlatTypings.{typings_subsumed}
use Rattle.verifier.proofs.span.flat_laws.typings_are_subsumed.Goals as goal

pub returns : goal.returns
returns c = typings_subsumed
