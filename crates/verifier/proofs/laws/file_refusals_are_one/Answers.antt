use Rattle.verifier.specs.declared.header.Forms.TheVariants.{Flat}
use Rattle.verifier.proofs.Files.{one_file_refusal}
use Rattle.verifier.proofs.laws.file_refusals_are_one.Goals as goal

pub returns : goal.returns
returns c = one_file_refusal Flat
