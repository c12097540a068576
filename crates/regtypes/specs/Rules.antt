-- The rules V3 to V10, each by an instruction's attributes.
use Rattle.std.specs.Prelude.{ℕ, zero, suc, ◌+◌, ◌==◌, ◌||◌, ◌&&◌, not, Bool, true, false, List, [], ◌∷◌, Option, Some, None, is_none, ℤ}
use Rattle.std.specs.Prelude.{pos, negsuc, ◌+ℤ◌, nat_le, nat_lt, if◌then◌else◌, ◌^◌}
use Rattle.std.specs.Option.{option_map, option_map_or, option_and_then}
use Rattle.std.specs.List.{list_any, list_all}
use Rattle.limits.specs.declared.TheConstants.{FORM_1_BYTES, PAYLOAD_BYTES, STACK_BYTES}
use Rattle.decode.specs.declared.insn.Reg.{Reg}
use Rattle.decode.specs.declared.insn.Insn.{Insn}
use Rattle.decode.specs.declared.insn.Insn.TheVariants.{Call, Exit}
use Rattle.regtypes.specs.declared.image_form.ImageForm.{ImageForm}
use Rattle.regtypes.specs.declared.image_form.ImageForm.TheVariants.{Sbi2}
use Rattle.regtypes.specs.declared.frame.Region.{Region}
use Rattle.regtypes.specs.declared.frame.Region.TheVariants.{Message, State, Stack}
use Rattle.regtypes.specs.declared.frame.Kind.{Kind}
use Rattle.regtypes.specs.declared.frame.Kind.TheVariants.{Unset, Num, Len, Place}
use Rattle.regtypes.specs.declared.frame.Frame.{Frame}
use Rattle.decode.specs.declared.attributes.Access.{Access}
use Rattle.decode.specs.declared.attributes.Attributes.{Attributes}
use Rattle.regtypes.specs.declared.rule.Rule.{Rule}
use Rattle.regtypes.specs.declared.rule.Rule.TheVariants.{V1, V2, V3, V4, V5, V6, V7, V8, V9, V10}
use Rattle.regtypes.specs.Frame.{kind_at, is_num}
use Rattle.decode.specs.Attributes.{attributes_of}

-- ---- kinds

-- nothing is known: it was never set, a helper has unset it, or the paths that meet here leave different kinds in it
abbrev pub is_unset : Kind → Bool
is_unset Unset = true
is_unset k = false

-- it is known to hold the message's length, as r3 of form 2 and its copies do
abbrev pub is_len : Kind → Bool
is_len Len = true
is_len k = false

-- a place in any of the three regions, even if it is outside the region's bytes
abbrev pub is_place : Kind → Bool
is_place (Place r z) = true
is_place k = false

-- a place in the message, which no handler may write
abbrev pub is_in_message : Kind → Bool
is_in_message (Place Message z) = true
is_in_message k = false

-- the least size of a region: the message has at least `low` bytes, the state has `len`
abbrev pub region_len : ℕ → ℕ → Region → ℕ
region_len low len Message = low
region_len low len State = len
region_len low len Stack = STACK_BYTES

-- where a region begins in the array of a call, which has the message, then a state of `len` bytes, then the stack
abbrev pub region_start : ℕ → Region → ℕ
region_start len Message = 0
region_start len State = PAYLOAD_BYTES
region_start len Stack = PAYLOAD_BYTES + len

-- the n bytes from a place on are in the region
abbrev pub lie_inside : ℕ → ℕ → ℤ → Bool
lie_inside size n (pos a) = nat_le (a + n) size
lie_inside size n (negsuc a) = false

-- the n bytes from a place on are in its region; false for a kind that is no place
abbrev pub has_bytes : ℕ → ℕ → ℕ → Kind → Bool
has_bytes low len n (Place r z) = lie_inside (region_len low len r) n z
has_bytes low len n k = false

-- the kind after z is added: a place moved by z bytes, or else a number
abbrev pub moved : ℤ → Kind → Kind
moved z (Place r y) = Place r (y +ℤ z)
moved z k = Num

-- a place that a frame can name: 16 bits and a sign hold its distance from its region's first byte
abbrev pub is_near : Kind → Bool
is_near (Place r (pos n)) = nat_lt n (2 ^ 15)
is_near (Place r (negsuc n)) = nat_lt n (2 ^ 15)
is_near k = true

-- the first byte of the message
abbrev pub is_message : Kind → Bool
is_message (Place Message (pos zero)) = true
is_message k = false

-- ---- helpers

-- an argument of a helper, by its registers: a number, the place of 64 bytes, or a place and the number of bytes there
pub data Argument : Type 0 where
  Number : ℕ → Argument
  Payload : ℕ → Argument
  Sized : ℕ → ℕ → Argument

-- 1 sends r2's bytes to r1, 2 outputs r1's bytes, 3 and 4 take nothing; form 2 has 5, which sends r3 bytes of r2 to r1,
-- and 6, which outputs r2 bytes of r1
abbrev pub arguments_of : ImageForm → ℤ → Option (List Argument)
arguments_of form (pos (suc zero)) = Some (Number 1 ∷ Payload 2 ∷ [])
arguments_of form (pos (suc (suc zero))) = Some (Payload 1 ∷ [])
arguments_of form (pos (suc (suc (suc zero)))) = Some []
arguments_of form (pos (suc (suc (suc (suc zero))))) = Some []
arguments_of Sbi2 (pos (suc (suc (suc (suc (suc zero)))))) = Some (Number 1 ∷ Sized 2 3 ∷ [])
arguments_of Sbi2 (pos (suc (suc (suc (suc (suc (suc zero))))))) = Some (Sized 1 2 ∷ [])
arguments_of form z = None

-- a place and a length: 256 bytes lie there, or they are the whole message
abbrev pub is_sized : ℕ → ℕ → Kind → Kind → Bool
is_sized low len place count = is_num count && (has_bytes low len PAYLOAD_BYTES place || (is_message place && is_len count))

-- the registers hold what an argument needs; len is the state's length
abbrev pub takes : ℕ → Frame → Argument → Bool
takes len f (Number r) = is_num (kind_at f.kinds r)
takes len f (Payload r) = has_bytes f.low len FORM_1_BYTES (kind_at f.kinds r)
takes len f (Sized r n) = is_sized f.low len (kind_at f.kinds r) (kind_at f.kinds n)

-- ---- the terms of the rules

-- the register, if there is one, has such a kind
abbrev pub has : (Kind → Bool) → List Kind → Option Reg → Bool
has p f r = option_map_or (λ (x : Reg). p (kind_at f x.number)) r false

-- the register that holds the place of an access; None if no bytes are reached
abbrev pub base_of : Option Access → Option Reg
base_of access = option_map (λ (a : Access). a.base) access

-- the register that an immediate moves; None if none is moved
abbrev pub moved_of : Option (Reg × ℤ) → Option Reg
moved_of moved = option_map (λ (m : Reg × ℤ). m.0) moved

-- r10, the end of the stack
abbrev pub is_frame_pointer : Reg → Bool
is_frame_pointer r = r.number == 10

-- an access leaves its region
abbrev pub reaches_out : ℕ → Frame → Option Access → Bool
reaches_out len f access =
    option_map_or (λ (a : Access). not (has_bytes f.low len a.bytes (moved a.offset (kind_at f.kinds a.base.number))))
    access false

-- an immediate moves a place out of -32,768 to 32,767
abbrev pub moves_out : List Kind → Option (Reg × ℤ) → Bool
moves_out f moves = option_map_or (λ (m : Reg × ℤ). not (is_near (moved m.1 (kind_at f m.0.number)))) moves false

-- the number of the called helper; None if none is called
abbrev pub called : Insn → Option ℤ
called (Call helper) = Some helper
called i = None

-- whether the call ends there
abbrev pub is_end : Insn → Bool
is_end Exit = true
is_end i = false

-- EXIT, and r0 isn't a number
abbrev pub ends_without : Insn → List Kind → Bool
ends_without i f = is_end i && not (is_num (kind_at f 0))

-- the number N of a rule in `verify refused VN` (docs/FORMATS.md, "Rules of the verifier")
abbrev pub rule_number : Rule → ℕ
rule_number V1 = 1
rule_number V2 = 2
rule_number V3 = 3
rule_number V4 = 4
rule_number V5 = 5
rule_number V6 = 6
rule_number V7 = 7
rule_number V8 = 8
rule_number V9 = 9
rule_number V10 = 10

-- tests, each with the rule that is broken if it holds
abbrev pub Tests : Type 0
Tests = List (Bool × Rule)

-- what stands beside the first test that holds, such as the rule that is broken; None if none holds
abbrev pub first_broken : {A : Type 0} → List (Bool × A) → Option A
first_broken [] = None
first_broken (t ∷ ts) = if t.0 then Some t.1 else first_broken ts

-- the tests of V3 to V10 for an instruction with these attributes, one row for each rule, as in docs/FORMATS.md ("Rules
-- of the verifier"), the least rule first; len is the state's length
abbrev pub tests_by : Attributes → ImageForm → ℕ → Insn → Frame → Tests
tests_by a form len i f =
    -- an unset register is read
    (list_any (has is_unset f.kinds) (a.number ∷ a.operand ∷ a.copied ∷ base_of a.access ∷ moved_of a.moved ∷ []), V3)
    -- r10 is written
    ∷ (option_map_or is_frame_pointer a.written false, V4)
    -- a place is read as a number, or a number is the base of a load or store
    ∷ (has is_place f.kinds a.number || (has is_place f.kinds a.operand || has is_num f.kinds (base_of a.access)), V5)
    -- an access leaves its region, or an immediate moves a place too far
    ∷ (reaches_out len f a.access || moves_out f.kinds a.moved, V6)
    -- a store goes through a place of the message
    ∷ (option_map_or (λ (x : Access). x.stores && is_in_message (kind_at f.kinds x.base.number)) a.access false, V7)
    -- this form has no helper of this number
    ∷ (option_map_or (λ h. is_none (arguments_of form h)) (called i) false, V8)
    -- a helper's argument is not what the helper takes
    ∷ (option_map_or (λ xs. not (list_all (takes len f) xs)) (option_and_then (arguments_of form) (called i)) false, V9)
    -- r0 is not a number at EXIT
    ∷ (ends_without i f.kinds, V10)
    ∷ []

-- the same for an instruction
abbrev pub tests_of : ImageForm → ℕ → Insn → Frame → Tests
tests_of form len i f = tests_by (attributes_of i) form len i f
