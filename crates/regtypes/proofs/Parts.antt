-- Parts of the rules, each under a name of its own.
use Rattle.std.specs.Prelude.{ℕ, Bool, false, not, is_none, ◌||◌, ◌&&◌, List, [], ◌∷◌, Option, ℤ, slice_set}
use Rattle.std.specs.Option.{option_map_or, option_and_then}
use Rattle.std.specs.List.{list_any, list_all}
use Rattle.decode.specs.declared.insn.Reg.{Reg}
use Rattle.decode.specs.declared.insn.SignedSize.{SignedSize}
use Rattle.decode.specs.declared.insn.Insn.{Insn}
use Rattle.decode.specs.Encoding.{bytes_in, loaded}
use Rattle.regtypes.specs.declared.image_form.ImageForm.{ImageForm}
use Rattle.regtypes.specs.declared.frame.Kind.{Kind}
use Rattle.regtypes.specs.declared.frame.Kind.TheVariants.{Num}
use Rattle.regtypes.specs.declared.frame.Frame.{Frame}
use Rattle.decode.specs.declared.attributes.Access.{Access}
use Rattle.decode.specs.declared.attributes.Attributes.{Attributes}
use Rattle.regtypes.specs.Frame.{kind_at, is_num, LeqKind}
use Rattle.decode.specs.Flow.{flow_of}
use Rattle.regtypes.specs.Rules.{is_unset, is_place, is_in_message, moved, Argument, arguments_of, takes, has, base_of, moved_of, is_frame_pointer, called, Tests}
use Rattle.regtypes.specs.Typing.{flow_tests}

-- ---- bytes

-- how many bytes a load reaches that extends the sign
abbrev pub signed_bytes_in : SignedSize → ℕ
signed_bytes_in size = bytes_in (loaded size)

-- ---- kinds

-- what the second list says of each register, the first says too
abbrev pub LeqKinds : List Kind → List Kind → Type 0
LeqKinds f g = (r : ℕ) → LeqKind (kind_at f r) (kind_at g r)

-- ---- the tests of V1 to V9

abbrev pub jump_tests : List (Option Insn) → ℕ → Insn → Tests
jump_tests slots s i = flow_tests slots s (flow_of i)

abbrev pub reads_unset : List Kind → Attributes → Bool
reads_unset f a = list_any (has is_unset f) (a.number ∷ a.operand ∷ a.copied ∷ base_of a.access ∷ moved_of a.moved ∷ [])

abbrev pub writes_frame_pointer : Option Reg → Bool
writes_frame_pointer r = option_map_or is_frame_pointer r false

abbrev pub mixes : List Kind → Attributes → Bool
mixes f a = has is_place f a.number || (has is_place f a.operand || has is_num f (base_of a.access))

abbrev pub stores_in_message : List Kind → Option Access → Bool
stores_in_message f a = option_map_or (λ (x : Access). x.stores && is_in_message (kind_at f x.base.number)) a false

abbrev pub is_unknown : ImageForm → Insn → Bool
is_unknown form i = option_map_or (λ h. is_none (arguments_of form h)) (called i) false

abbrev pub takes_all : ℕ → Frame → List Argument → Bool
takes_all len f xs = list_all (takes len f) xs

abbrev pub refuses : ℕ → Frame → Option (List Argument) → Bool
refuses len f o = option_map_or (λ xs. not (takes_all len f xs)) o false

abbrev pub misgives : ImageForm → ℕ → Insn → Frame → Bool
misgives form len i f = refuses len f (option_and_then (arguments_of form) (called i))

-- ---- what is written

abbrev pub given_by : List Kind → Option Reg → Option (Reg × ℤ) → Kind
given_by f copied moves =
    option_map_or (λ (r : Reg). kind_at f r.number) copied
    (option_map_or (λ (m : Reg × ℤ). moved m.1 (kind_at f m.0.number)) moves Num)

abbrev pub written_with : Kind → Option Reg → List Kind → List Kind
written_with k r f = option_map_or (λ (x : Reg). slice_set f x.number k) r f
