use Rattle.std.proofs.Common.{◌≡◌, refl, sym, ap, ◌∙◌}
use Rattle.std.specs.Result.{result_err}
use Rattle.std.specs.Prelude.{Option}
use Rattle.decode.specs.declared.insn.AluOp.{AluOp}
use Rattle.decode.specs.declared.insn.Width.{Width}
use Rattle.decode.specs.declared.insn.Operand.{Operand}
use Rattle.decode.specs.declared.insn.Operand.TheVariants as operand
use Rattle.regtypes.specs.declared.rule.Rule.{Rule}
use Rattle.spans.specs.declared.kind.SpanKind.{SpanKind}
use Rattle.spans.specs.declared.kind.SpanKind.TheVariants.{Unset, Num, Place}
use Rattle.spans.specs.declared.span.Span.{Span}
use Rattle.spans.specs.Span.{result_span}
use Rattle.operations.specs.Words.{bits_of}
use Rattle.spans.specs.Ways.{AluForm, Computes, alu_form, from_spans, low_span, result_kind}
use Rattle.verifier.specs.Span.Rules.{lesser, number_rule}
use Rattle.verifier.proofs.Spans.AluForms.{half_sum, other_imm, other_reg}
use Rattle.verifier.proofs.span.alu.alu_rule.Goals as goal
use Rattle.verifier.proofs.span.alu.alu_rule.Goals.{in_default-2-via-in-Add+in_default, in_default-2-via-in_default}

-- a word of two is computed unless one of them is no number
two_numbers : (make : Span → Span → Span) (a b : SpanKind) → lesser (number_rule a) (number_rule b) ≡ result_err (from_spans make a b)
two_numbers make Unset Unset = refl
two_numbers make Unset (Num t) = refl
two_numbers make Unset (Place q t) = refl
two_numbers make (Num s) Unset = refl
two_numbers make (Num s) (Num t) = refl
two_numbers make (Num s) (Place q t) = refl
two_numbers make (Place r s) Unset = refl
two_numbers make (Place r s) (Num t) = refl
two_numbers make (Place r s) (Place q t) = refl

-- the form of an operation that computes a word says what it breaks
by_form : (op : AluOp) (width : Width) (o p : Operand) (a b : SpanKind) (x y r : Option Rule) → r ≡ lesser x y → x ≡ number_rule a → y ≡ number_rule b → Computes op width ≡ alu_form op width p → o ≡ p → r ≡ result_err (result_kind (alu_form op width o) a b)
by_form op width o p a b x y r e ex ey f q =
    e ∙ ap (λ (z : Option Rule). lesser z y) ex ∙ ap (lesser (number_rule a)) ey ∙ two_numbers (λ s t. result_span op (bits_of width) (low_span width s) (low_span width t)) a b ∙ ap (λ (form : AluForm). result_err (result_kind form a b)) (f ∙ ap (alu_form op width) (sym q))

pub returns-in_default : goal.returns-in_default
returns-in_default c =
    by_form c.args.op c.args.width c.args.operand (operand.Imm c.in-Imm.n) c.args.a c.args.b _ _ _ c.lesser.ensures c.number_rule-in_default.ensures c.number_rule-in_default-2.ensures (other_imm c.args.op c.args.width c.in-Imm.n c.in_default.not-Mov c.in_default.not-Add c.in_default.not-Sub) c.in-Imm.is

pub returns-in_default-2 : goal.returns-in_default-2
returns-in_default-2 c =
    let r = c.in-Reg.field-0 in
    elim c.in_default-2.branch [
      | in_default-2-via-in-Add+in_default w ↦ by_form c.args.op c.args.width c.args.operand (operand.Reg r) c.args.a c.args.b _ _ _ c.lesser-in_default-2.ensures c.number_rule-in_default-2-2.ensures c.number_rule-in_default-2-3.ensures (half_sum c.args.op c.args.width r w.in_default-2.is-0 w.in_default-2.is-1) c.in-Reg.is
      | in_default-2-via-in_default w ↦ by_form c.args.op c.args.width c.args.operand (operand.Reg r) c.args.a c.args.b _ _ _ c.lesser-in_default-2.ensures c.number_rule-in_default-2-2.ensures c.number_rule-in_default-2-3.ensures (other_reg c.args.op c.args.width r w.in_default-2.not-Mov-0 w.in_default-2.not-Add-0) c.in-Reg.is
    ]
