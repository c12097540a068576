-- Forms 1 and 2 by what one pass needs of them, and their least typing.
use Rattle.std.specs.Prelude.{◌≡◌, ◌≤◌, ◌↔◌, ℕ, ℤ, pos, List, Option, Some, None, length}
use Rattle.std.specs.List.{AllByRecursion}
use Rattle.std.specs.Option.{option_and_then}
use Rattle.limits.specs.declared.TheConstants.{PAYLOAD_BYTES, REGISTERS}
use Rattle.decode.specs.declared.insn.Insn.{Insn}
use Rattle.decode.specs.Slots.{insn_at}
use Rattle.regtypes.specs.declared.frame.Frame.{Frame}
use Rattle.regtypes.specs.declared.image_form.ImageForm.{ImageForm}
use Rattle.regtypes.specs.Exits.{exits}
use Rattle.regtypes.specs.Frame.{entry_frame, Leq}
use Rattle.regtypes.specs.Typing.{Table, frame_at, broken, IsTyping}
use Rattle.verifier.specs.Form.{Form}
use Rattle.verifier.specs.Fixpoint.{IsLeast, IsTyped}

-- a frame of all registers, with a length that messages have, at a slot where an instruction begins
pub record MayStand (slots : List (Option Insn)) (s : ℕ) (f : Frame) : Type 0 where
  pub whole : length f.kinds ≡ REGISTERS
  pub short : f.low ≤ PAYLOAD_BYTES
  pub begins : (i : Insn) × (insn_at slots s ≡ Some i)

-- what leaves on a way fits the frame of the slot where it leads
abbrev pub EntersAt : (ℕ → Option Frame) → ℤ × Frame → Type 0
EntersAt table e = (t : ℕ) × (g : Frame) × (e.0 ≡ pos t) × (table t ≡ Some g) × Leq e.1 g

-- form 1 or 2, for code slot by slot with a state of `len` bytes: typings are those of `regtypes`
abbrev pub flat_form : ImageForm → ℕ → List (Option Insn) → Form
flat_form form len slots = record {
  Frame = Frame;
  Leq = Leq;
  entry = entry_frame form;
  count = length slots;
  MayStand = MayStand slots;
  IsAllowed = λ table s f. (i : Insn) → insn_at slots s ≡ Some i
      → (broken form slots len s i f ≡ None) × AllByRecursion (EntersAt table) (exits s i f);
  broken = λ s f. option_and_then (λ i. broken form slots len s i f) (insn_at slots s);
}

-- a typing of the form, slot by slot, is a typing
abbrev pub AreTypings : Type 0
AreTypings =
    (form : ImageForm) (slots : List (Option Insn)) (len : ℕ) (table : Table)
    → IsTyped (flat_form form len slots) (frame_at table) ↔ IsTyping form slots len table

-- the least typing
abbrev pub IsLeastTyping : ImageForm → List (Option Insn) → ℕ → Table → Type 0
IsLeastTyping form slots len table = IsLeast (flat_form form len slots) (length slots) (frame_at table)
