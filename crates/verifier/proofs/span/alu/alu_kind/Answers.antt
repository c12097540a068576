use Rattle.std.proofs.Common.{◌≡◌, sym, ap, ◌∙◌}
use Rattle.std.specs.Result.{result_unwrap_or}
use Rattle.decode.specs.declared.insn.AluOp.{AluOp}
use Rattle.decode.specs.declared.insn.Width.{Width}
use Rattle.decode.specs.declared.insn.Operand.{Operand}
use Rattle.decode.specs.declared.insn.Operand.TheVariants as operand
use Rattle.spans.specs.declared.kind.SpanKind.{SpanKind}
use Rattle.spans.specs.declared.kind.SpanKind.TheVariants.{Unset}
use Rattle.spans.specs.Ways.{AluForm, Computes, alu_form, result_kind}
use Rattle.verifier.proofs.Spans.AluForms.{half_sum, other_imm, other_reg}
use Rattle.verifier.proofs.span.alu.alu_kind.Goals as goal
use Rattle.verifier.proofs.span.alu.alu_kind.Goals.{in_default-2-via-in-Add+in_default, in_default-2-via-in_default}

-- the form of an operation says what it gives
by_form : (op : AluOp) (width : Width) (o p : Operand) (a b k : SpanKind) → k ≡ result_unwrap_or (result_kind (Computes op width) a b) Unset → Computes op width ≡ alu_form op width p → o ≡ p → k ≡ result_unwrap_or (result_kind (alu_form op width o) a b) Unset
by_form op width o p a b k e f q = e ∙ ap (λ (form : AluForm). result_unwrap_or (result_kind form a b) Unset) (f ∙ ap (alu_form op width) (sym q))

pub returns-in_default : goal.returns-in_default
returns-in_default c =
    by_form c.args.op c.args.width c.args.operand (operand.Imm c.in-Imm.n) c.args.a c.args.b _ c.computed.ensures (other_imm c.args.op c.args.width c.in-Imm.n c.in_default.not-Mov c.in_default.not-Add c.in_default.not-Sub) c.in-Imm.is

pub returns-in_default-2 : goal.returns-in_default-2
returns-in_default-2 c =
    let r = c.in-Reg.field-0 in
    elim c.in_default-2.branch [
      | in_default-2-via-in-Add+in_default w ↦ by_form c.args.op c.args.width c.args.operand (operand.Reg r) c.args.a c.args.b _ c.computed-in_default-2.ensures (half_sum c.args.op c.args.width r w.in_default-2.is-0 w.in_default-2.is-1) c.in-Reg.is
      | in_default-2-via-in_default w ↦ by_form c.args.op c.args.width c.args.operand (operand.Reg r) c.args.a c.args.b _ c.computed-in_default-2.ensures (other_reg c.args.op c.args.width r w.in_default-2.not-Mov-0 w.in_default-2.not-Add-0) c.in-Reg.is
    ]
