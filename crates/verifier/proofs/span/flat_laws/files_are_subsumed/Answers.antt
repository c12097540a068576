use Rattle.verifier.proofs.Spans.FlatFiles.{files_subsumed}
use Rattle.verifier.proofs.span.flat_laws.files_are_subsumed.Goals as goal

pub returns : goal.returns
returns c = files_subsumed
