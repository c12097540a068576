-- The least rule that an instruction breaks under a frame (docs/FORMATS.md, "Rules of the verifier"); None if it breaks
-- none of V3 to V10.
use Rattle.std.specs.Prelude.{ℕ, zero, suc, ◌+◌, nat_le, ℤ, pos, Bool, Option, Some, None, false, if◌then◌else◌, min}
use Rattle.std.specs.Option.{option_map, option_map_or}
use Rattle.std.specs.Result.{result_err}
use Rattle.decode.specs.declared.insn.Width.TheVariants.{W64}
use Rattle.decode.specs.declared.insn.Operand.TheVariants as operand
use Rattle.decode.specs.declared.insn.Insn.{Insn}
use Rattle.decode.specs.declared.insn.Insn.TheVariants.{Alu, MovSx, Neg, End, Jump, JumpLong, JumpIf, Call, Exit, Load, LoadSx, StoreReg}
use Rattle.decode.specs.declared.insn.Insn.TheVariants.{StoreImm, Wide}
use Rattle.decode.specs.Encoding.{bytes_in, loaded}
use Rattle.regtypes.specs.declared.frame.Region.TheVariants.{Message, State, Stack}
use Rattle.regtypes.specs.declared.rule.Rule.{Rule}
use Rattle.regtypes.specs.declared.rule.Rule.TheVariants.{V3, V4, V5, V6, V7, V8, V9, V10}
use Rattle.decode.specs.Attributes.{attributes_of}
use Rattle.regtypes.specs.Rules.{rule_number, is_frame_pointer}
use Rattle.spans.specs.declared.kind.Reach.{Reach}
use Rattle.spans.specs.declared.kind.SpanKind.{SpanKind}
use Rattle.spans.specs.declared.kind.SpanKind.TheVariants.{Unset, Num, Place}
use Rattle.spans.specs.Frame.{Frame}
use Rattle.spans.specs.Access.{region_size, is_inside, whole_word, is_reached}
use Rattle.spans.specs.Ways.{alu_form, operand_kind, from_span, set_kind, result_kind}

-- the lesser of two rules, if both are broken
abbrev pub lesser : Option Rule → Option Rule → Option Rule
lesser None b = b
lesser (Some r) None = Some r
lesser (Some r) (Some q) = Some (if nat_le (rule_number r) (rule_number q) then r else q)

-- the rule, if a test fails
abbrev pub unless : Bool → Rule → Option Rule
unless holds rule = if holds then None else Some rule

-- ---- kinds

-- the rule for what is read as a number: broken if nothing is known of it, or if it is a place
abbrev pub number_rule : SpanKind → Option Rule
number_rule k = result_err (from_span (λ s. s) k)

-- the rule for what is copied, also a place: broken if nothing is known of it
abbrev pub value_rule : SpanKind → Option Rule
value_rule k = result_err (set_kind k)

-- ---- memory

-- among the first w words of the stack, those that an access may reach are read as numbers
unfoldable pub words_rule : ℕ → Frame → Reach → ℤ → ℕ → Option Rule
words_rule zero f s o n = None
words_rule (suc w) f s o n =
    lesser (words_rule w f s o n) (if is_reached s o n (11 + w) then number_rule (f (11 + w)) else None)

-- a load inside the stack: of a whole word, or else of numbers
abbrev pub read_rule : Option ℕ → Frame → Reach → ℤ → ℕ → Option Rule
read_rule word f s o n = option_map_or (λ c. value_rule (f c)) word (words_rule 64 f s o n)

-- a load of n bytes, o bytes from a base of this kind; the stack's words are judged only if it is inside
abbrev pub load_rule : ℕ → Frame → SpanKind → ℤ → ℕ → Option Rule
load_rule state f Unset o n = Some V3
load_rule state f (Num s) o n = Some V5
load_rule state f (Place Stack s) o n = if is_inside 512 s o n then read_rule (whole_word s o n) f s o n else Some V6
load_rule state f (Place r s) o n = unless (is_inside (region_size state r) s o n) V6

-- a store of a kind inside the stack: into a whole word, also a place; else a number, over numbers
abbrev pub write_rule : Option ℕ → Frame → SpanKind → Reach → ℤ → ℕ → Option Rule
write_rule word f k s o n = option_map_or (λ c. value_rule k) word (lesser (number_rule k) (words_rule 64 f s o n))

-- a store of a kind through a base of another; a place that isn't stored into a whole word breaks V5, wherever it is
-- stored
abbrev pub store_rule : ℕ → Frame → SpanKind → SpanKind → ℤ → ℕ → Option Rule
store_rule state f k Unset o n = Some V3
store_rule state f k (Num s) o n = lesser (value_rule k) (Some V5)
store_rule state f k (Place Message s) o n = lesser (number_rule k) (Some (if is_inside 512 s o n then V7 else V6))
store_rule state f k (Place State s) o n = lesser (number_rule k) (unless (is_inside state s o n) V6)
store_rule state f k (Place Stack s) o n =
    if is_inside 512 s o n then write_rule (whole_word s o n) f k s o n else lesser (number_rule k) (Some V6)

-- ---- helpers

-- an argument that isn't what a helper takes, whatever is wrong with it
abbrev pub argument_rule : Option Rule → Option Rule
argument_rule r = option_map (λ _. V9) r

-- a place whose n bytes are in its region for each of its distances, and in the stack are numbers
abbrev pub payload_rule : ℕ → Frame → SpanKind → ℕ → Option Rule
payload_rule state f (Place Stack s) n =
    if is_inside 512 s (pos 0) n then argument_rule (words_rule 64 f s (pos 0) n) else Some V9
payload_rule state f (Place r s) n = unless (is_inside (region_size state r) s (pos 0) n) V9
payload_rule state f k n = Some V9

-- the same for as many bytes as a number says, and for 256 if it may be greater
abbrev pub sized_rule : ℕ → Frame → SpanKind → SpanKind → Option Rule
sized_rule state f p (Num s) = payload_rule state f p (min s.hi 256)
sized_rule state f p k = Some V9

-- the call of a helper (docs/FORMATS.md, "Helpers")
abbrev pub call_rule : ℕ → Frame → ℤ → Option Rule
call_rule state f (pos (suc zero)) = lesser (argument_rule (number_rule (f 1))) (payload_rule state f (f 2) 64)
call_rule state f (pos (suc (suc zero))) = payload_rule state f (f 1) 64
call_rule state f (pos (suc (suc (suc zero)))) = None
call_rule state f (pos (suc (suc (suc (suc zero))))) = None
call_rule state f (pos (suc (suc (suc (suc (suc zero)))))) = lesser (argument_rule (number_rule (f 1))) (sized_rule state f (f 2) (f 3))
call_rule state f (pos (suc (suc (suc (suc (suc (suc zero))))))) = sized_rule state f (f 1) (f 2)
call_rule state f z = Some V8

-- r0 at EXIT
abbrev pub exit_rule : SpanKind → Option Rule
exit_rule k = option_map (λ _. V10) (number_rule k)

-- ---- instructions

-- the rule of V3 and V5 to V10 that an instruction breaks under a frame; the state has `state` bytes
abbrev pub frame_rule : ℕ → Insn → Frame → Option Rule
frame_rule state (Alu op width dst o) f = result_err (result_kind (alu_form op width o) (f dst.number) (operand_kind width o f))
frame_rule state (MovSx x dst src) f = number_rule (f src.number)
frame_rule state (Neg width dst) f = number_rule (f dst.number)
frame_rule state (End order bits dst) f = number_rule (f dst.number)
frame_rule state (Wide dst value) f = None
frame_rule state (Jump offset) f = None
frame_rule state (JumpLong distance) f = None
frame_rule state (JumpIf condition width dst o offset) f = lesser (number_rule (f dst.number)) (number_rule (operand_kind width o f))
frame_rule state (Call helper) f = call_rule state f helper
frame_rule state Exit f = exit_rule (f 0)
frame_rule state (Load size dst src offset) f = load_rule state f (f src.number) offset (bytes_in size)
frame_rule state (LoadSx size dst src offset) f = load_rule state f (f src.number) offset (bytes_in (loaded size))
frame_rule state (StoreReg size dst src offset) f = store_rule state f (f src.number) (f dst.number) offset (bytes_in size)
frame_rule state (StoreImm size dst offset imm) f =
    store_rule state f (operand_kind W64 (operand.Imm imm) f) (f dst.number) offset (bytes_in size)

-- V4: r10 is written
abbrev pub frame_pointer_rule : Insn → Option Rule
frame_pointer_rule i = if option_map_or is_frame_pointer (attributes_of i).written false then Some V4 else None

-- the least of the rules V3 to V10 that an instruction breaks
abbrev pub broken_rule : ℕ → Insn → Frame → Option Rule
broken_rule state i f = lesser (frame_pointer_rule i) (frame_rule state i f)
