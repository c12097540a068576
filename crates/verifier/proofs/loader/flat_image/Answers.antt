use Rattle.std.proofs.Common.{subst}
use Rattle.verifier.specs.declared.fault.VerifyError.{VerifyError}
use Rattle.verifier.specs.FileForm.{file_form_of}
use Rattle.verifier.specs.Verdict.{IsWhy}
use Rattle.verifier.proofs.Files.{flat_fault, short_code}
use Rattle.verifier.proofs.loader.flat_image.Goals as goal

pub verify_encoded-requires-clause-slots : goal.verify_encoded-requires-clause-slots
verify_encoded-requires-clause-slots c = short_code (file_form_of c.args.form) c.args.code.items c.args.state_len c.args.bytes.now c.requires

pub returns-in-Err-Fault-clause-refused : goal.returns-in-Err-Fault-clause-refused
returns-in-Err-Fault-clause-refused c = λ forms taken.
    let a = c.args in
    let why = subst (λ (e : VerifyError). IsWhy a.form a.code.items a.state_len e) c.in-Err-Fault.field-0-is c.in-Err-Fault.ensures in
    (file_form_of a.form, a.code.items, a.state_len, c.requires, flat_fault a.form a.code.items a.state_len c.in-Err-Fault.rule c.in-Err-Fault.slot why, taken)
