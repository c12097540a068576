-- When code is typable.
use Rattle.std.specs.Prelude.{◌≡◌, ℕ, ◌+◌, ◌<◌, ◌≤◌, List, [], ◌∷◌, ◌++◌, Option, Some, None, ℤ, pos, negsuc, ◌+ℤ◌, Bool, false, nat_lt}
use Rattle.std.specs.Prelude.{◌&&◌, not, slice_get, length, unwrap_or, is_some}
use Rattle.std.specs.List.{AllByRecursion}
use Rattle.limits.specs.declared.TheConstants.{PAYLOAD_BYTES, REGISTERS}
use Rattle.decode.specs.declared.insn.Insn.{Insn}
use Rattle.decode.specs.Slots.{insn_at}
use Rattle.decode.specs.declared.flow.Flow.{Flow}
use Rattle.decode.specs.declared.flow.Flow.TheVariants.{Ends, Leaps, Forks, Falls}
use Rattle.regtypes.specs.declared.image_form.ImageForm.{ImageForm}
use Rattle.regtypes.specs.declared.frame.Frame.{Frame}
use Rattle.regtypes.specs.declared.rule.Rule.{Rule}
use Rattle.regtypes.specs.declared.rule.Rule.TheVariants.{V1, V2}
use Rattle.regtypes.specs.Frame.{entry_frame, Leq}
use Rattle.decode.specs.Flow.{flow_of}
use Rattle.regtypes.specs.Exits.{exits}
use Rattle.regtypes.specs.Rules.{Tests, first_broken, tests_of}

-- an instruction that begins at a later slot
abbrev pub is_target : List (Option Insn) → ℕ → ℤ → Bool
is_target slots s (pos t) = nat_lt s t && is_some (insn_at slots t)
is_target slots s (negsuc n) = false

-- a jump goes to an instruction that begins at a later slot, and after another instruction there is a slot
abbrev pub flow_tests : List (Option Insn) → ℕ → Flow → Tests
flow_tests slots s Ends = []
flow_tests slots s (Leaps d) = (not (is_target slots s (pos (s + 1) +ℤ d)), V1) ∷ []
flow_tests slots s (Forks d) =
    (not (is_target slots s (pos (s + 1) +ℤ d)), V1) ∷ (not (nat_lt (s + 1) (length slots)), V2) ∷ []
flow_tests slots s (Falls n) = (not (nat_lt (s + n) (length slots)), V2) ∷ []

-- the least rule that an instruction breaks at a slot under a frame; V1 and V2 need no frame
abbrev pub broken : ImageForm → List (Option Insn) → ℕ → ℕ → Insn → Frame → Option Rule
broken form slots len s i f = first_broken (flow_tests slots s (flow_of i) ++ tests_of form len i f)

-- a frame for each slot, or none
abbrev pub Table : Type 0
Table = List (Option Frame)

-- the frame of a slot; None if the table has none, as for a slot that no path reaches
abbrev pub frame_at : Table → ℕ → Option Frame
frame_at table s = unwrap_or (slice_get table s) None

-- the slot has a frame, and it says no more than the frame that leaves on the way there
abbrev pub Enters : Table → ℤ × Frame → Type 0
Enters table e = (t : ℕ) × (g : Frame) × (e.0 ≡ pos t) × (frame_at table t ≡ Some g) × Leq e.1 g

-- the frames that enter a slot fit its frame, and below slot n no instruction breaks a rule under its frame
pub record TypesBelow (form : ImageForm) (slots : List (Option Insn)) (len n : ℕ) (table : Table) : Type 0 where
  pub start : Enters table (pos 0, entry_frame form)
  pub whole : (s : ℕ) (g : Frame) → frame_at table s ≡ Some g → length g.kinds ≡ REGISTERS
  pub short : (s : ℕ) (g : Frame) → frame_at table s ≡ Some g → g.low ≤ PAYLOAD_BYTES
  pub begins : (s : ℕ) (g : Frame) → frame_at table s ≡ Some g → (i : Insn) × (insn_at slots s ≡ Some i)
  pub keeps : (s : ℕ) (g : Frame) (i : Insn) → s < n → frame_at table s ≡ Some g → insn_at slots s ≡ Some i
      → broken form slots len s i g ≡ None
  pub leads : (s : ℕ) (g : Frame) (i : Insn) → s < n → frame_at table s ≡ Some g → insn_at slots s ≡ Some i
      → AllByRecursion (Enters table) (exits s i g)

-- the table is a typing of the code
abbrev pub IsTyping : ImageForm → List (Option Insn) → ℕ → Table → Type 0
IsTyping form slots len table = TypesBelow form slots len (length slots) table
