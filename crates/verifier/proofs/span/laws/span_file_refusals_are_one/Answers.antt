use Rattle.verifier.specs.declared.header.Forms.TheVariants.{Span}
use Rattle.verifier.proofs.Files.{one_file_refusal}
use Rattle.verifier.proofs.span.laws.span_file_refusals_are_one.Goals as goal

pub returns : goal.returns
returns c = one_file_refusal Span
