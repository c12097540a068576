-- The frames that leave an instruction that breaks no rule.
use Rattle.std.specs.Prelude.{◌≡◌, ℕ, ◌%◌, ◌^◌, ℤ, ◌≤ℤ◌, true, None, Some, Result}
use Rattle.std.specs.Result.{result_unwrap_or}
use Rattle.decode.specs.declared.insn.Reg.{Reg}
use Rattle.decode.specs.declared.insn.Width.{Width}
use Rattle.decode.specs.declared.insn.Width.TheVariants.{W64}
use Rattle.decode.specs.declared.insn.Condition.{Condition}
use Rattle.decode.specs.declared.insn.Operand.{Operand}
use Rattle.decode.specs.declared.insn.Operand.TheVariants as operand
use Rattle.decode.specs.declared.insn.Insn.{Insn}
use Rattle.decode.specs.declared.insn.Insn.TheVariants.{Alu, MovSx, Neg, End, Jump, JumpLong, JumpIf, Call, Exit, Load, LoadSx, StoreReg}
use Rattle.decode.specs.declared.insn.Insn.TheVariants.{StoreImm, Wide}
use Rattle.decode.specs.Encoding.{bytes_in, extension_offset, extension_width}
use Rattle.operations.specs.Words.{bits_of}
use Rattle.regtypes.specs.declared.frame.Region.TheVariants.{Stack}
use Rattle.regtypes.specs.declared.rule.Rule.{Rule}
use Rattle.spans.specs.declared.kind.SpanKind.{SpanKind}
use Rattle.spans.specs.declared.kind.SpanKind.TheVariants.{Unset, Num, Place}
use Rattle.spans.specs.Span.{whole, one}
use Rattle.spans.specs.Narrowing.{opposite}
use Rattle.spans.specs.Frame.{Frame, with_kind}
use Rattle.spans.specs.Access.{is_inside, loaded_kind, stored_frame}
use Rattle.spans.specs.Ways.{Ways, alu_form, operand_kind, result_kind, from_span, extended_span, way, behind_helper}

-- dst gets this kind; if there is none, a rule is broken
abbrev pub gives : Result SpanKind Rule → Frame → Reg → Frame
gives k f dst = with_kind f dst.number (result_unwrap_or k Unset)

-- a jump compares two numbers
abbrev pub compares : SpanKind → SpanKind → Condition → Width → Reg → Operand → Frame → Ways
compares (Num a) (Num b) condition width dst o f = (way (opposite condition) width dst o f a b, way (Some condition) width dst o f a b)
compares a b condition width dst o f = (None, None)

-- the frame that leaves to the next instruction, and the one that leaves by a jump, if no rule is broken
abbrev pub ways : Insn → Frame → Ways
ways (Alu op width dst o) f = (Some (gives (result_kind (alu_form op width o) (f dst.number) (operand_kind width o f)) f dst), None)
ways (MovSx x dst src) f =
    (Some (gives (from_span (extended_span (extension_offset x) (bits_of (extension_width x))) (f src.number)) f dst), None)
ways (Neg width dst) f = (Some (gives (from_span (λ s. whole 64) (f dst.number)) f dst), None)
ways (End order bits dst) f = (Some (gives (from_span (λ s. whole 64) (f dst.number)) f dst), None)
ways (Wide dst value) f = (Some (with_kind f dst.number (Num (one (value % 2 ^ 64)))), None)
ways (Jump offset) f = (None, Some f)
ways (JumpLong distance) f = (None, Some f)
ways (JumpIf condition width dst o offset) f = compares (f dst.number) (operand_kind width o f) condition width dst o f
ways (Call helper) f = (Some (behind_helper f), None)
ways Exit f = (None, None)
ways (Load size dst src offset) f = (Some (with_kind f dst.number (loaded_kind f (f src.number) offset (bytes_in size))), None)
ways (LoadSx size dst src offset) f = (Some (with_kind f dst.number (Num (whole 64))), None)
ways (StoreReg size dst src offset) f = (Some (stored_frame f (f src.number) (f dst.number) offset (bytes_in size)), None)
ways (StoreImm size dst offset imm) f =
    (Some (stored_frame f (operand_kind W64 (operand.Imm imm) f) (f dst.number) offset (bytes_in size)), None)

-- if the base is a place in the stack, an access through it is inside the stack
abbrev pub StaysInside : SpanKind → ℤ → ℕ → Type 0
StaysInside (Place Stack s) o n = (s.lo ≤ℤ s.hi) × (is_inside 512 s o n ≡ true)
StaysInside k o n = Unit {0}
