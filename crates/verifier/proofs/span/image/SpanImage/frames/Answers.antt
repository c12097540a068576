use Rattle.std.proofs.Common.{List, subst}
use Rattle.decode.specs.declared.insn.Insn.{Insn}
use Rattle.verifier.specs.declared.span.fault.SpanVerifyError.{SpanVerifyError}
use Rattle.verifier.specs.declared.span.fault.SpanVerifyError.TheVariants.{Fault}
use Rattle.verifier.specs.Span.Verdict.{IsWhy}
use Rattle.verifier.proofs.span.image.SpanImage.frames.Goals as goal

pub unreachable-requires : goal.unreachable-requires
unreachable-requires c =
    let why = subst (λ (e : SpanVerifyError). IsWhy c.deref.result.now c.self.inside.state_len e) c.in-Err-Fault.field-0-is c.in-Err-Fault.ensures in
    let w = subst (λ (l : List Insn). IsWhy l c.self.inside.state_len (Fault c.in-Err-Fault.field-0-0 c.in-Err-Fault.field-0-1)) c.deref.ensures.value why in
    w.1 c.self.invariant.0.0 c.self.invariant.0.1
