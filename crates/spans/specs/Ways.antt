-- What an instruction needs of a frame, and the frames that leave it. The rules V1, V2 and V4 (docs/FORMATS.md) need no
-- frame, and are not here.
use Rattle.std.specs.Prelude.{◌≡◌, ℕ, zero, suc, ◌+◌, ◌-◌, ◌%◌, ◌^◌, ◌==◌, ◌&&◌, nat_lt, nat_le, int_le, ℤ, pos, negsuc, neg_ℤ, ◌+ℤ◌}
use Rattle.std.specs.Prelude.{true, Option, Some, None, Result, Ok, Err, if◌then◌else◌, min}
use Rattle.std.specs.Option.{option_map}
use Rattle.decode.specs.declared.insn.Reg.{Reg}
use Rattle.decode.specs.declared.insn.AluOp.{AluOp}
use Rattle.decode.specs.declared.insn.AluOp.TheVariants as alu
use Rattle.decode.specs.declared.insn.Width.{Width}
use Rattle.decode.specs.declared.insn.Width.TheVariants.{W32, W64}
use Rattle.decode.specs.declared.insn.Condition.{Condition}
use Rattle.decode.specs.declared.insn.Operand.{Operand}
use Rattle.decode.specs.declared.insn.Operand.TheVariants as operand
use Rattle.decode.specs.declared.insn.Insn.{Insn}
use Rattle.decode.specs.declared.insn.Insn.TheVariants.{Alu, MovSx, Neg, End, Jump, JumpLong, JumpIf, Call, Exit, Load, LoadSx, StoreReg}
use Rattle.decode.specs.declared.insn.Insn.TheVariants.{StoreImm, Wide}
use Rattle.decode.specs.Encoding.{bytes_in, loaded, extension_offset, extension_width}
use Rattle.operations.specs.Words.{bits_of, word_of}
use Rattle.regtypes.specs.declared.frame.Region.{Region}
use Rattle.regtypes.specs.declared.frame.Region.TheVariants.{Stack}
use Rattle.regtypes.specs.declared.rule.Rule.{Rule}
use Rattle.regtypes.specs.declared.rule.Rule.TheVariants.{V3, V5, V6}
use Rattle.spans.specs.Span.{Span, span, whole, one, bounded, result_span}
use Rattle.spans.specs.Narrowing.{SpanPair, opposite, shown}
use Rattle.spans.specs.Frame.{Reach, SpanKind, Unset, Num, Place, Frame, Leq, is_num, with_kind}
use Rattle.spans.specs.Access.{region_size, is_inside, AreNumbers, MayLoad, loaded_kind, MayStore, stored_frame}

-- ---- arithmetic: the kind that is left, or the least rule that is broken

-- what arithmetic does with dst and its operand: it copies the operand, also a place; it adds two registers, one of
-- which may be a place; it moves dst by a whole number, also a place; it sets dst to the operand as a word; or it
-- computes a word
pub data AluForm : Type 0 where
  Copies : AluForm
  Sums : AluForm
  Moves : Width → ℤ → AluForm
  Sets : Width → AluForm
  Computes : AluOp → Width → AluForm

-- a difference with an immediate is the sum with its negation
abbrev pub alu_form : AluOp → Width → Operand → AluForm
alu_form alu.Mov W64 (operand.Reg src) = Copies
alu_form alu.Add W64 (operand.Reg src) = Sums
alu_form alu.Add width (operand.Imm z) = Moves width z
alu_form alu.Sub width (operand.Imm z) = Moves width (neg_ℤ z)
alu_form alu.Mov width o = Sets width
alu_form op width o = Computes op width

-- the low bits of a register that an operation of this width uses
abbrev pub low_span : Width → Span → Span
low_span W32 s = bounded 32 s.lo s.hi
low_span W64 s = s

-- the kind of an operand; of an immediate it is the one word
abbrev pub operand_kind : Width → Operand → Frame → SpanKind
operand_kind width (operand.Imm z) f = Num (one (word_of z % 2 ^ bits_of width))
operand_kind width (operand.Reg r) f = f r.number

-- applies to a span; V3 is broken if nothing is known, V5 if it is a place
abbrev pub from_span : (Span → Span) → SpanKind → Result SpanKind Rule
from_span make Unset = Err V3
from_span make (Num s) = Ok (Num (make s))
from_span make (Place r s) = Err V5

-- applies to two spans; of two broken rules V3 is the lesser
abbrev pub from_spans : (Span → Span → Span) → SpanKind → SpanKind → Result SpanKind Rule
from_spans make (Num s) b = from_span (make s) b
from_spans make (Place r s) Unset = Err V3
from_spans make a b = from_span (λ s. s) a

-- any kind that is set
abbrev pub set_kind : SpanKind → Result SpanKind Rule
set_kind Unset = Err V3
set_kind k = Ok k

-- places with distances from their region's first byte that fit 16 bits and a sign
abbrev pub near_place : Region → Reach → Result SpanKind Rule
near_place r s = if int_le (negsuc 32767) s.lo && int_le s.hi (pos 32767) then Ok (Place r s) else Err V6

-- each distance, after a number from lo to hi is added
abbrev pub moved_reach : Reach → ℤ → ℤ → Reach
moved_reach s lo hi = record { lo = s.lo +ℤ lo; hi = s.hi +ℤ hi }

-- a sum of two registers: of two numbers, or of a place and a number, which is read as unsigned
abbrev pub summed_kind : SpanKind → SpanKind → Result SpanKind Rule
summed_kind (Place r s) (Num t) = near_place r (moved_reach s (pos t.lo) (pos t.hi))
summed_kind (Num s) (Place r t) = near_place r (moved_reach t (pos s.lo) (pos s.hi))
summed_kind a b = from_spans (result_span alu.Add 64) a b

-- words of n bits after a whole number is added
abbrev pub moved_span : ℕ → ℤ → Span → Span
moved_span n (pos m) s = bounded n (s.lo + m) (s.hi + m)
moved_span n (negsuc m) s = if nat_le (suc m) s.lo then span (s.lo - suc m) (s.hi - suc m) else whole n

-- dst after a whole number is added; a place only by a 64-bit operation
abbrev pub moved_kind : Width → ℤ → SpanKind → Result SpanKind Rule
moved_kind width z (Num s) = Ok (Num (moved_span (bits_of width) z (low_span width s)))
moved_kind W64 z (Place r s) = near_place r (moved_reach s z z)
moved_kind width z a = from_span (λ s. s) a

-- what arithmetic leaves in dst, whose kind is a, with an operand of kind b
abbrev pub result_kind : AluForm → SpanKind → SpanKind → Result SpanKind Rule
result_kind Copies a b = set_kind b
result_kind Sums a b = summed_kind a b
result_kind (Moves width z) a b = moved_kind width z a
result_kind (Sets width) a b = from_span (low_span width) b
result_kind (Computes op width) a b =
    from_spans (λ s t. result_span op (bits_of width) (low_span width s) (low_span width t)) a b

-- the low k bits as signed, in a word of n bits: the same number if none of them is negative
abbrev pub extended_span : ℕ → ℕ → Span → Span
extended_span k n s = if nat_lt s.hi (2 ^ (k - 1)) then s else whole n

-- ---- jumps

-- dst and a source register with these spans; for a register that is compared with itself nothing more is known
abbrev pub narrowed_frame : Frame → Reg → Operand → SpanPair → Frame
narrowed_frame f dst (operand.Imm z) p = with_kind f dst.number (Num p.0)
narrowed_frame f dst (operand.Reg r) p =
    if dst.number == r.number then f else with_kind (with_kind f dst.number (Num p.0)) r.number (Num p.1)

-- the frame that leaves if the condition is met; None if no numbers of these spans meet it
abbrev pub way : Option Condition → Width → Reg → Operand → Frame → Span → Span → Option Frame
way condition width dst o f a b = option_map (narrowed_frame f dst o) (shown condition (bits_of width) a b)

-- ---- helpers

-- n bytes from a place on are in its region, for each of its distances; in the stack they are numbers
abbrev pub HasPayload : ℕ → Frame → SpanKind → ℕ → Type 0
HasPayload state f (Place r s) n = (is_inside (region_size state r) s (pos 0) n ≡ true) × (r ≡ Stack → AreNumbers f s (pos 0) n)
HasPayload state f k n = ⊥

-- the same for as many bytes as a number says, and for 256 if it may be greater
abbrev pub HasSized : ℕ → Frame → SpanKind → SpanKind → Type 0
HasSized state f p (Num s) = HasPayload state f p (min s.hi 256)
HasSized state f p k = ⊥

-- there is a helper of this number, and the registers hold what it takes (docs/FORMATS.md, "Helpers")
abbrev pub HasArguments : ℕ → Frame → ℤ → Type 0
HasArguments state f (pos (suc zero)) = (is_num (f 1) ≡ true) × HasPayload state f (f 2) 64
HasArguments state f (pos (suc (suc zero))) = HasPayload state f (f 1) 64
HasArguments state f (pos (suc (suc (suc zero)))) = Unit {0}
HasArguments state f (pos (suc (suc (suc (suc zero))))) = Unit {0}
HasArguments state f (pos (suc (suc (suc (suc (suc zero)))))) = (is_num (f 1) ≡ true) × HasSized state f (f 2) (f 3)
HasArguments state f (pos (suc (suc (suc (suc (suc (suc zero))))))) = HasSized state f (f 1) (f 2)
HasArguments state f z = ⊥

-- r0 is the answer, at most 15, and r1 to r5 are unset (the BPF calling convention); the stack's words stay
abbrev pub behind_helper : Frame → Frame
behind_helper f c = if c == 0 then Num (span 0 15) else if nat_lt c 6 then Unset else f c

-- ---- instructions

-- the frame that leaves to the next instruction, and the one that leaves by a jump; None if no step goes that way
abbrev pub Ways : Type 0
Ways = Option Frame × Option Frame

-- dst gets this kind if there is one, and then no rule is broken
abbrev pub Gives : Result SpanKind Rule → Frame → Reg → Ways → Type 0
Gives k f dst w = (h : SpanKind) × (k ≡ Ok h) × (w ≡ (Some (with_kind f dst.number h), None))

-- an instruction breaks none of the rules V3 and V5 to V10 under a frame, and these frames leave; the state has `state`
-- bytes
abbrev pub Leaves : ℕ → Insn → Frame → Ways → Type 0
Leaves state (Alu op width dst o) f w = Gives (result_kind (alu_form op width o) (f dst.number) (operand_kind width o f)) f dst w
Leaves state (MovSx x dst src) f w =
    Gives (from_span (extended_span (extension_offset x) (bits_of (extension_width x))) (f src.number)) f dst w
Leaves state (Neg width dst) f w = Gives (from_span (λ s. whole 64) (f dst.number)) f dst w
Leaves state (End order bits dst) f w = Gives (from_span (λ s. whole 64) (f dst.number)) f dst w
Leaves state (Wide dst value) f w = Gives (Ok (Num (one (value % 2 ^ 64)))) f dst w
Leaves state (Jump offset) f w = w ≡ (None, Some f)
Leaves state (JumpLong distance) f w = w ≡ (None, Some f)
Leaves state (JumpIf condition width dst o offset) f w =
    (a b : Span) × (f dst.number ≡ Num a) × (operand_kind width o f ≡ Num b)
    × (w ≡ (way (opposite condition) width dst o f a b, way (Some condition) width dst o f a b))
Leaves state (Call helper) f w = HasArguments state f helper × (w ≡ (Some (behind_helper f), None))
Leaves state Exit f w = (is_num (f 0) ≡ true) × (w ≡ (None, None))
Leaves state (Load size dst src offset) f w =
    MayLoad state f (f src.number) offset (bytes_in size)
    × (w ≡ (Some (with_kind f dst.number (loaded_kind f (f src.number) offset (bytes_in size))), None))
Leaves state (LoadSx size dst src offset) f w =
    MayLoad state f (f src.number) offset (bytes_in (loaded size)) × (w ≡ (Some (with_kind f dst.number (Num (whole 64))), None))
Leaves state (StoreReg size dst src offset) f w =
    MayStore state f (f src.number) (f dst.number) offset (bytes_in size)
    × (w ≡ (Some (stored_frame f (f src.number) (f dst.number) offset (bytes_in size)), None))
Leaves state (StoreImm size dst offset imm) f w =
    MayStore state f (operand_kind W64 (operand.Imm imm) f) (f dst.number) offset (bytes_in size)
    × (w ≡ (Some (stored_frame f (operand_kind W64 (operand.Imm imm) f) (f dst.number) offset (bytes_in size)), None))

-- a way that no step takes says the most
abbrev pub LeqWay : Option Frame → Option Frame → Type 0
LeqWay None w = Unit {0}
LeqWay (Some f) None = ⊥
LeqWay (Some f) (Some g) = Leq f g
