use Rattle.verifier.specs.declared.file_form.FileForm.TheVariants.{Sbi3}
use Rattle.verifier.proofs.Files.{short_code}
use Rattle.verifier.proofs.loader.span_image.Goals as goal

pub verified-requires-clause-slots : goal.verified-requires-clause-slots
verified-requires-clause-slots c = short_code Sbi3 c.args.code.items c.args.state_len c.args.bytes.now c.requires

pub verified-requires-clause-bytes : goal.verified-requires-clause-bytes
verified-requires-clause-bytes c = c.in_ok-encoded.ensures.found Sbi3 c.args.code.items c.args.state_len c.requires
