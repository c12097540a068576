-- What a typing says of a slot.
use Rattle.std.proofs.Common.{◌≡◌, ℕ, zero, suc, ◌<◌, List, [], ◌∷◌, length, Option, Some, None, arith}
use Rattle.std.specs.List.{AllByRecursion}
use Rattle.decode.specs.declared.insn.Insn.{Insn}
use Rattle.decode.specs.Slots.{insn_at}
use Rattle.regtypes.specs.declared.image_form.ImageForm.{ImageForm}
use Rattle.regtypes.specs.declared.frame.Frame.{Frame}
use Rattle.regtypes.specs.Exits.{exits}
use Rattle.regtypes.specs.Typing.{Table, frame_at, Enters, broken, IsTyping}

-- an instruction begins only at a slot of the code
pub within : (slots : List (Option Insn)) (s : ℕ) (i : Insn) → insn_at slots s ≡ Some i → s < length slots
within [] s i h = cc
within (x ∷ xs) zero i h = omega arith
within (x ∷ xs) (suc s) i h = let k = within xs s i h in omega arith

-- an instruction that is reached breaks no rule
pub typing_keeps : (form : ImageForm) (slots : List (Option Insn)) (len : ℕ) (table : Table) (s : ℕ) (g : Frame) (i : Insn) → IsTyping form slots len table → frame_at table s ≡ Some g → insn_at slots s ≡ Some i → broken form slots len s i g ≡ None
typing_keeps form slots len table s g i t f b = t.keeps s g i (within slots s i b) f b

-- what leaves an instruction that is reached fits the frames of the slots where it leads
pub typing_leads : (form : ImageForm) (slots : List (Option Insn)) (len : ℕ) (table : Table) (s : ℕ) (g : Frame) (i : Insn) → IsTyping form slots len table → frame_at table s ≡ Some g → insn_at slots s ≡ Some i → AllByRecursion (Enters table) (exits s i g)
typing_leads form slots len table s g i t f b = t.leads s g i (within slots s i b) f b
