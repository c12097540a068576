use Rattle.std.proofs.Common.{subst}
use Rattle.checkpoint.specs.declared.form.CheckpointForm.TheVariants.{Second}
use Rattle.checkpoint.specs.Reader.{Fails, reading}
use Rattle.checkpoint.specs.Inside.Stored.{saved_in}
use Rattle.checkpoint.proofs.FileLemmas.{reading_again}
use Rattle.checkpoint.proofs.PayloadLemmas.{no_fault}
use Rattle.checkpoint.proofs.stored.Stored.restore.Goals as goal

pub unreachable-requires : goal.unreachable-requires
unreachable-requires c =
    let bytes = c.self.inside.bytes.items in
    let fails : Fails c.in-Err-Fault.field-0 (reading bytes) = subst (λ b. Fails c.in-Err-Fault.field-0 (reading b)) c.deref.ensures.value c.in-Err-Fault.ensures.exact in
    no_fault c.in-Err-Fault.field-0-0 (reading bytes) (saved_in bytes) (reading_again Second (saved_in bytes) bytes c.self.invariant.is) (subst (λ e. Fails e (reading bytes)) c.in-Err-Fault.field-0-is fails)
