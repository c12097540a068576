use Rattle.std.proofs.Common.{◌≡◌, ℕ, List, refl, subst}
use Rattle.decode.specs.declared.insn.Insn.{Insn}
use Rattle.verifier.specs.declared.span.pass.SpanFrames.{SpanFrames}
use Rattle.verifier.specs.Span.Typing.{table_of}
use Rattle.verifier.specs.Span.Verdict.{IsFramesOf}
use Rattle.verifier.specs.Span.Typed.{IsTypable}
use Rattle.verifier.proofs.span.image.verified.Goals as goal

-- code that has frames is typable
typable : (code code' : List Insn) (len : ℕ) (frames : SpanFrames) → code ≡ code' → IsFramesOf code len frames → IsTypable code' len
typable code code' len frames e h = subst (λ (l : List Insn). IsTypable l len) e (table_of frames.table.items, h.typing.types)

pub invariant_of-result : goal.invariant_of-result
invariant_of-result c = (typable c.deref.result.now c.args.code.items c.args.state_len c.in-Ok.field-0 c.deref.ensures.value c.in-Ok.ensures, c.requires.slots, c.requires.state, c.requires.fits, c.requires.bytes)

pub returns-in-Ok : goal.returns-in-Ok
returns-in-Ok c = record {
  code_is = refl;
  len_is = refl;
  typable = typable c.deref.result.now c.args.code.items c.args.state_len c.in-Ok.field-0 c.deref.ensures.value c.in-Ok.ensures;
}
