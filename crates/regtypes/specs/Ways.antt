-- What is known after an instruction, on each of its two ways.
use Rattle.std.specs.Prelude.{◌≡◌, length, ℕ, Bool, true, false, ◌&&◌, List, ◌∷◌, Option, Some, None, Result, Ok, Err, ℤ, pos, ◌+ℤ◌}
use Rattle.std.specs.Prelude.{nat_le, slice_set, drop, if◌then◌else◌}
use Rattle.std.specs.Option.{option_map_or}
use Rattle.limits.specs.declared.TheConstants.{PAYLOAD_BYTES}
use Rattle.decode.specs.declared.insn.Reg.{Reg}
use Rattle.decode.specs.declared.insn.Width.TheVariants.{W64}
use Rattle.decode.specs.declared.insn.Condition.{Condition}
use Rattle.decode.specs.declared.insn.Condition.TheVariants.{Equal, Greater, GreaterEqual, NotEqual, Less, LessEqual}
use Rattle.decode.specs.declared.insn.Operand.TheVariants as operand
use Rattle.decode.specs.declared.insn.Insn.{Insn}
use Rattle.decode.specs.declared.insn.Insn.TheVariants.{JumpIf}
use Rattle.regtypes.specs.declared.image_form.ImageForm.{ImageForm}
use Rattle.regtypes.specs.declared.frame.Kind.{Kind}
use Rattle.regtypes.specs.declared.frame.Kind.TheVariants.{Unset, Num}
use Rattle.regtypes.specs.declared.frame.Frame.{Frame}
use Rattle.regtypes.specs.declared.ways.Leaving.{Leaving}
use Rattle.regtypes.specs.declared.rule.Rule.{Rule}
use Rattle.regtypes.specs.Frame.{kind_at, Leq}
use Rattle.decode.specs.declared.attributes.Attributes.{Attributes}
use Rattle.decode.specs.Attributes.{attributes_of}
use Rattle.regtypes.specs.Rules.{is_len, moved, called, first_broken, tests_of}

-- ---- registers

-- the kind of the written register: that of the copied register, a moved place, or else a number
abbrev pub given : List Kind → Attributes → Kind
given f a =
    option_map_or (λ (r : Reg). kind_at f r.number) a.copied
    (option_map_or (λ (m : Reg × ℤ). moved m.1 (kind_at f m.0.number)) a.moved Num)

-- what is known of the registers after an instruction with these attributes: only the written one changes
abbrev pub after_by : Attributes → List Kind → List Kind
after_by a f = option_map_or (λ (r : Reg). slice_set f r.number (given f a)) a.written f

-- what a helper leaves: it sets r0 and loses r1 to r5 (the BPF calling convention)
abbrev pub after_helper : List Kind → List Kind
after_helper f = Num ∷ Unset ∷ Unset ∷ Unset ∷ Unset ∷ Unset ∷ drop 6 f

-- what is known of the registers after an instruction with these attributes, which may call a helper
abbrev pub after_called : Option ℤ → Attributes → List Kind → List Kind
after_called helper a = option_map_or (λ _. after_helper) helper (after_by a)

-- what is known of the registers after an instruction, on each of its ways
abbrev pub after : Insn → List Kind → List Kind
after i = after_called (called i) (attributes_of i)

-- ---- the message's length

-- the least value of a number that meets the condition with c (true), or that doesn't (false)
abbrev pub least_shown : Bool → Condition → ℤ → Option ℤ
least_shown true Equal c = Some c
least_shown true Greater c = Some (c +ℤ pos 1)
least_shown true GreaterEqual c = Some c
least_shown false NotEqual c = Some c
least_shown false Less c = Some c
least_shown false LessEqual c = Some (c +ℤ pos 1)
least_shown met condition c = None

-- the least length of the message on a way of an instruction, if it compares the length with an immediate in 64 bits
abbrev pub shown : Bool → Insn → List Kind → Option ℤ
shown met (JumpIf condition W64 dst (operand.Imm c) offset) f = if is_len (kind_at f dst.number) then least_shown met condition c else None
shown met i f = None

-- no message has more than 256 bytes
abbrev pub raised : ℕ → Option ℤ → ℕ
raised low (Some (pos n)) = if nat_le low n && nat_le n PAYLOAD_BYTES then n else low
raised low least = low

-- ---- frames

-- the frame that leaves to the next instruction
abbrev pub next : Insn → Frame → Frame
next i f = record { kinds = after i f.kinds; low = raised f.low (shown false i f.kinds) }

-- the frame that leaves by a jump
abbrev pub taken : Insn → Frame → Frame
taken i f = record { kinds = after i f.kinds; low = raised f.low (shown true i f.kinds) }

-- the frames that leave if no test holds, else the rule of the first test that holds
abbrev pub Leaves : ImageForm → ℕ → Insn → Frame → Result Leaving Rule → Type 0
Leaves form len i f (Ok l) = (first_broken (tests_of form len i f) ≡ None) × (l.next ≡ next i f) × (l.taken ≡ taken i f)
Leaves form len i f (Err r) = first_broken (tests_of form len i f) ≡ Some r

-- a frame that says more breaks no more rules, and leaves more on each way
abbrev pub IsMonotone : Type 0
IsMonotone =
    (form : ImageForm) (len : ℕ) (i : Insn) (f g : Frame)
    → length f.kinds ≡ length g.kinds → Leq f g → first_broken (tests_of form len i g) ≡ None
    → (first_broken (tests_of form len i f) ≡ None) × Leq (next i f) (next i g) × Leq (taken i f) (taken i g)
