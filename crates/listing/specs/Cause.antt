-- What breaks a rule at a slot.
use Rattle.std.specs.Prelude.{ℕ, [], ◌∷◌, List, Option, Some, None, ℤ, pos, ◌+ℤ◌, min, unwrap_or, if◌then◌else◌}
use Rattle.decode.specs.declared.insn.Reg.{Reg}
use Rattle.decode.specs.declared.insn.AluOp.TheVariants as alu
use Rattle.decode.specs.declared.insn.Width.TheVariants.{W64}
use Rattle.decode.specs.declared.insn.Operand.TheVariants as operand
use Rattle.decode.specs.declared.insn.Insn.{Insn}
use Rattle.decode.specs.declared.insn.Insn.TheVariants.{Alu, Call}
use Rattle.decode.specs.declared.attributes.Access.{Access}
use Rattle.decode.specs.declared.attributes.Attributes.{Attributes}
use Rattle.decode.specs.declared.flow.Flow.{Flow}
use Rattle.decode.specs.declared.flow.Flow.TheVariants.{Leaps, Forks}
use Rattle.regtypes.specs.declared.frame.Region.TheVariants.{Stack}
use Rattle.regtypes.specs.declared.image_form.ImageForm.{ImageForm}
use Rattle.regtypes.specs.declared.rule.Rule.{Rule}
use Rattle.regtypes.specs.declared.rule.Rule.TheVariants.{V1, V2, V3, V4, V5, V6, V7, V8, V9, V10}
use Rattle.decode.specs.Attributes.{attributes_of}
use Rattle.decode.specs.Flow.{flow_of}
use Rattle.regtypes.specs.Rules.{Argument, Number, Payload, Sized, arguments_of, base_of, moved_of, region_len}
use Rattle.spans.specs.declared.kind.SpanKind.{SpanKind}
use Rattle.spans.specs.declared.kind.SpanKind.TheVariants.{Unset, Num, Place}
use Rattle.spans.specs.Access.{is_inside}
use Rattle.spans.specs.Frame.{Frame, is_num, kind_at}
use Rattle.listing.specs.declared.cause.RefusalCause.{RefusalCause}
use Rattle.listing.specs.declared.cause.RefusalCause.TheVariants.{Nothing, Jump, NothingFollows, FramePointer, NoAnswer, OfRegister, OfWord}
use Rattle.listing.specs.declared.cause.RefusalCause.TheVariants.{SumOfPlaces, Outside, MovedBy, ShiftedBy, NoHelper, NoCount}
use Rattle.listing.specs.declared.cause.RefusalCause.TheVariants.{NoPayload, NoSized}
use Rattle.listing.specs.declared.cause.RegisterFault.TheVariants as register
use Rattle.listing.specs.declared.cause.WordFault.{WordFault}
use Rattle.listing.specs.declared.cause.WordFault.TheVariants as word
use Rattle.listing.specs.declared.flaw.Flaw.TheVariants.{Missing, Pointing, NotNumber}
use Rattle.listing.specs.declared.view.View.{View}
use Rattle.listing.specs.declared.view.View.TheVariants.{Flat, Spans}
use Rattle.listing.specs.Flaw.{first_flawed, flawed_word, reached_word}
use Rattle.listing.specs.View.{known, low_of}

-- V1: the jump of an instruction. An instruction that doesn't jump breaks another rule
abbrev pub jump_of : Flow → RefusalCause
jump_of (Leaps d) = Jump d
jump_of (Forks d) = Jump d
jump_of other = Nothing

-- what is wrong with a word of the stack, if there is one
abbrev pub word_cause : WordFault → Option ℕ → RefusalCause
word_cause fault None = Nothing
word_cause fault (Some c) = OfWord c fault

-- V3: a register that is read but not set, or else a word of the stack
abbrev pub by_missing : Option Reg → Option ℕ → RefusalCause
by_missing (Some r) w = OfRegister r register.Unset
by_missing None w = word_cause word.Unset w

-- V3: the first word that is read but not set. Forms 1 and 2 know nothing of words
abbrev pub missing_word : View → Option Access → Option ℕ
missing_word (Flat f) x = None
missing_word (Spans c) x = reached_word Missing (kind_at c.kinds) x

-- V3: the first register or word that is read and isn't set
abbrev pub unset_cause : View → Attributes → RefusalCause
unset_cause v a = by_missing (first_flawed Missing (known v) (a.number ∷ a.operand ∷ a.copied ∷ base_of a.access ∷ moved_of a.moved ∷ []))
    (missing_word v a.access)

-- V5: the first register that is read as a number but holds a place
abbrev pub first_place : View → Attributes → Option Reg
first_place v a = first_flawed Pointing (known v) (a.number ∷ a.operand ∷ [])

-- V5 in forms 1 and 2: that register, or else the base of the access, which holds a number
abbrev pub flat_mixed : Option Access → Option Reg → RefusalCause
flat_mixed x (Some r) = OfRegister r register.PlaceAsNumber
flat_mixed (Some x) None = OfRegister x.base register.NumberAsBase
flat_mixed None None = Nothing

-- V5: an access through a base of this kind. stored is the register whose place it stores, if there is one; or else a word of the
-- stack may hold a place, of which bytes are read or written
abbrev pub access_cause : Frame → Access → Option Reg → SpanKind → RefusalCause
access_cause f x stored Unset = Nothing
access_cause f x stored (Num s) = OfRegister x.base register.NumberAsBase
access_cause f x (Some r) (Place q s) = OfRegister r register.PlaceStored
access_cause f x None (Place q s) =
    word_cause (if x.stores then word.Written x.bytes else word.Read x.bytes) (flawed_word Pointing f (Place q s) x.offset x.bytes)

-- V5: the first register that is read as a number but holds a place, or else what is wrong with the access
abbrev pub mixed_by : Frame → Option Access → Option Reg → RefusalCause
mixed_by f None stored = flat_mixed None stored
mixed_by f (Some x) stored = access_cause f x stored (f x.base.number)

-- V5: a sum of two registers, or else another cause
abbrev pub sum_or : Insn → RefusalCause → RefusalCause
sum_or (Alu alu.Add W64 dst (operand.Reg src)) other = SumOfPlaces dst src
sum_or i other = other

-- V5: a sum of places in form 3, or else a cause by the registers and the access
abbrev pub mixed_cause : Insn → Attributes → View → RefusalCause
mixed_cause i a (Flat f) = flat_mixed a.access (first_place (Flat f) a)
mixed_cause i a (Spans c) = sum_or i (mixed_by (kind_at c.kinds) a.access (first_place (Spans c) a))

-- V6: a register that holds places, and the numbers by which another moves it
abbrev pub moved_cause : Reg → Reg → SpanKind → SpanKind → RefusalCause
moved_cause dst src (Place r s) (Num t) = MovedBy dst t
moved_cause dst src (Num s) (Place r t) = MovedBy src s
moved_cause dst src a b = Nothing

-- V6: which bytes an access reaches through a base of this kind
abbrev pub reach_cause : ℕ → View → Access → SpanKind → RefusalCause
reach_cause state v x (Place r s) = Outside x.bytes r (s.lo +ℤ x.offset) (s.hi +ℤ x.offset) (region_len (low_of v) state r)
reach_cause state v x k = Nothing

-- V6: which bytes an access reaches, or else the register that an immediate moves
abbrev pub out_by : ℕ → View → Option Access → Option (Reg × ℤ) → RefusalCause
out_by state v (Some x) moved = reach_cause state v x (known v x.base.number)
out_by state v None (Some m) = ShiftedBy m.0 m.1
out_by state v None None = Nothing

-- V6: a register that moves another to which it is added, or else another cause
abbrev pub moved_or : Insn → View → RefusalCause → RefusalCause
moved_or (Alu alu.Add W64 dst (operand.Reg src)) v other = moved_cause dst src (known v dst.number) (known v src.number)
moved_or i v other = other

-- V7: the base of the access
abbrev pub message_cause : Option Access → RefusalCause
message_cause None = Nothing
message_cause (Some x) = OfRegister x.base register.Message

-- V8: the number of the helper
abbrev pub helper_cause : Insn → RefusalCause
helper_cause (Call helper) = NoHelper helper
helper_cause i = Nothing

-- V9: the register r, of this kind, which has to be a place with n bytes, each of them known to be of a number
abbrev pub payload_by : Frame → ℕ → ℕ → SpanKind → RefusalCause
payload_by f r n (Place Stack s) =
    if is_inside 512 s (pos 0) n then word_cause word.NoNumber (flawed_word NotNumber f (Place Stack s) (pos 0) n) else NoPayload r n
payload_by f r n k = NoPayload r n

-- V9: the same with as many bytes as the register r', of this kind, says
abbrev pub sized_by : Frame → ℕ → ℕ → SpanKind → RefusalCause
sized_by f r r' (Num s) = payload_by f r (min s.hi 256) (f r)
sized_by f r r' k = NoCount r'

-- V9: a register that has to be a place with 64 bytes
abbrev pub payload_cause : View → ℕ → RefusalCause
payload_cause (Flat f) r = NoPayload r 64
payload_cause (Spans c) r = payload_by (kind_at c.kinds) r 64 (kind_at c.kinds r)

-- V9: registers that have to be a place and a length
abbrev pub sized_cause : View → ℕ → ℕ → RefusalCause
sized_cause (Flat f) r r' = NoSized r r'
sized_cause (Spans c) r r' = sized_by (kind_at c.kinds) r r' (kind_at c.kinds r')

-- V9: the first argument that has to be a number and isn't, or else the place
abbrev pub argument_cause : View → List Argument → RefusalCause
argument_cause v [] = Nothing
argument_cause v (Number r ∷ xs) = if is_num (known v r) then argument_cause v xs else NoCount r
argument_cause v (Payload r ∷ xs) = payload_cause v r
argument_cause v (Sized r r' ∷ xs) = sized_cause v r r'

-- V9: the argument that isn't what a helper takes. Form 3 has the helpers of form 2
abbrev pub call_cause : ImageForm → View → Insn → RefusalCause
call_cause form v (Call helper) = argument_cause v (unwrap_or (arguments_of form helper) [])
call_cause form v i = Nothing

-- what breaks a rule at a slot where this is known
abbrev pub cause_of : ImageForm → ℕ → Insn → View → Rule → RefusalCause
cause_of form state i v V1 = jump_of (flow_of i)
cause_of form state i v V2 = NothingFollows
cause_of form state i v V3 = unset_cause v (attributes_of i)
cause_of form state i v V4 = FramePointer
cause_of form state i v V5 = mixed_cause i (attributes_of i) v
cause_of form state i v V6 = moved_or i v (out_by state v (attributes_of i).access (attributes_of i).moved)
cause_of form state i v V7 = message_cause (attributes_of i).access
cause_of form state i v V8 = helper_cause i
cause_of form state i v V9 = call_cause form v i
cause_of form state i v V10 = NoAnswer
