-- What is known of the eleven registers and of the message's length, and its order.
use Rattle.std.specs.Prelude.{◌≡◌, ◌≤◌, ℕ, Bool, true, false, List, [], ◌∷◌, ◌++◌, replicate, pos, slice_index_or}
use Rattle.limits.specs.declared.TheConstants.{FORM_1_BYTES, STACK_BYTES}
use Rattle.regtypes.specs.declared.image_form.ImageForm.{ImageForm}
use Rattle.regtypes.specs.declared.image_form.ImageForm.TheVariants.{Sbi1, Sbi2}
use Rattle.regtypes.specs.declared.frame.Region.TheVariants.{Message, State, Stack}
use Rattle.regtypes.specs.declared.frame.Kind.{Kind}
use Rattle.regtypes.specs.declared.frame.Kind.TheVariants.{Unset, Num, Len, Place}
use Rattle.regtypes.specs.declared.frame.Frame.{Frame}

-- 1 for `SBI1`, whose handlers see 64 bytes of a message, and 2 for `SBI2`, whose handlers see all of it
abbrev pub form_number : ImageForm → ℕ
form_number Sbi1 = 1
form_number Sbi2 = 2

-- what is known of the register of this number; nothing if there is no such register
abbrev pub kind_at : List Kind → ℕ → Kind
kind_at f r = slice_index_or f r Unset

-- a number, which may be the message's length
abbrev pub is_num : Kind → Bool
is_num Num = true
is_num Len = true
is_num k = false

-- r1 is the message, r2 the state, r10 the end of the stack; r3 has this kind, and nothing else is set
abbrev pub entry_kinds : Kind → List Kind
entry_kinds third =
    Unset ∷ Place Message (pos 0) ∷ Place State (pos 0) ∷ third ∷ replicate 6 Unset ++ Place Stack (pos STACK_BYTES) ∷ []

-- in form 1 the message has 64 bytes; in form 2 it may have none, and r3 is its length
abbrev pub entry_frame : ImageForm → Frame
entry_frame Sbi1 = record { kinds = entry_kinds Unset; low = FORM_1_BYTES }
entry_frame Sbi2 = record { kinds = entry_kinds Len; low = 0 }

-- the first kind says what the second says of a register
abbrev pub LeqKind : Kind → Kind → Type 0
LeqKind a Unset = Unit {0}
LeqKind a Num = is_num a ≡ true
LeqKind a Len = a ≡ Len
LeqKind a (Place r k) = a ≡ Place r k

-- the first frame says what the second says, of each register and of the message's least length
pub record Leq (f g : Frame) : Type 0 where
  pub kinds : (r : ℕ) → LeqKind (kind_at f.kinds r) (kind_at g.kinds r)
  pub low : g.low ≤ f.low
