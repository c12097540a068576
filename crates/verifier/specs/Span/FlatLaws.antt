-- What form 3 allows of what forms 1 and 2 allow.
use Rattle.std.specs.Prelude.{◌≡◌, ◌≤◌, ℕ, List, length, None, Some}
use Rattle.limits.specs.declared.TheConstants.{PAYLOAD_BYTES, REGISTERS}
use Rattle.decode.specs.declared.insn.Insn.{Insn}
use Rattle.decode.specs.Slots.{slots_of}
use Rattle.regtypes.specs.declared.image_form.ImageForm.{ImageForm}
use Rattle.regtypes.specs.declared.frame.Frame.{Frame as FlatFrame}
use Rattle.regtypes.specs.Frame.{Leq as FlatLeq}
use Rattle.regtypes.specs.Rules.{first_broken, tests_of}
use Rattle.regtypes.specs.Ways.{next, taken}
use Rattle.regtypes.specs.Typing.{Table as FlatTable, IsTyping}
use Rattle.spans.specs.Frame.{Leq}
use Rattle.spans.specs.Ways.{LeqWay}
use Rattle.spans.specs.Typing.{Table}
use Rattle.verifier.specs.Span.Rules.{broken_rule}
use Rattle.verifier.specs.Span.Ways.{ways}
use Rattle.verifier.specs.Form.{Below}
use Rattle.verifier.specs.Fixpoint.{IsLeast, IsTyped}
use Rattle.verifier.specs.Span.Typing.{span_form}
use Rattle.verifier.specs.Span.FlatFrames.{read_frame, read_table}

-- if the first of two frames says what the second says, it does so when both are read as frames of form 3
abbrev pub IsOrderKept : Type 0
IsOrderKept = (f g : FlatFrame) → FlatLeq f g → Leq (read_frame f) (read_frame g)

-- an instruction that breaks none of V3 to V10 breaks none of form 3's, and on each way there no frame leaves, or one
-- that says no less; the state has `state` bytes
abbrev pub AreRulesSubsumed : Type 0
AreRulesSubsumed =
    (form : ImageForm) (state : ℕ) (i : Insn) (f : FlatFrame) → length f.kinds ≡ REGISTERS → f.low ≤ PAYLOAD_BYTES
    → first_broken (tests_of form state i f) ≡ None
    → (broken_rule state i (read_frame f) ≡ None)
    × LeqWay (ways i (read_frame f)).0 (Some (read_frame (next i f)))
    × LeqWay (ways i (read_frame f)).1 (Some (read_frame (taken i f)))

-- a typing of code is one of form 3, and the least typing of form 3 is below it
abbrev pub AreTypingsSubsumed : Type 0
AreTypingsSubsumed =
    (form : ImageForm) (code : List Insn) (state : ℕ) (table : FlatTable)
    → IsTyping form (slots_of code) state table
    → IsTyped (span_form state (slots_of code)) (read_table table)
    × ((least : Table) → IsLeast (span_form state (slots_of code)) (length (slots_of code)) least
    → Below (span_form state (slots_of code)) least (read_table table))
