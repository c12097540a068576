use Rattle.std.proofs.Common.{◌≡◌, ◌<◌, ◌==◌, false, List, [], ◌∷◌, length, sym, ◌∙◌, subst, arith}
use Rattle.decode.specs.declared.insn.Insn.{Insn}
use Rattle.verifier.specs.Span.Typing.{table_of}
use Rattle.verifier.specs.Span.Verdict.{IsJudged}
use Rattle.verifier.proofs.span.verification.span_verify.Goals as goal

some_code : (code : List Insn) → (length code == 0) ≡ false → 0 < length code
some_code [] h = cc
some_code (i ∷ is) h = omega arith

pub span_frames_of-requires-clause-some : goal.span_frames_of-requires-clause-some
span_frames_of-requires-clause-some c = some_code c.args.code.now (sym c.is_empty.ensures ∙ c.if-is_empty.false)

pub returns-in-Some : goal.returns-in-Some
returns-in-Some c = (subst (IsJudged c.args.code.now c.args.state_len (table_of c.in-Ok.frames.table.items)) c.in-Some.is c.in-Ok.ensures.judged).1

pub returns-in-None : goal.returns-in-None
returns-in-None c = record {
  slots_are = c.in-Ok.ensures.slots;
  typing = subst (IsJudged c.args.code.now c.args.state_len (table_of c.in-Ok.frames.table.items)) c.in-None.is c.in-Ok.ensures.judged;
  unrefused = c.in-None.is;
}
