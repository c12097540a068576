-- Laws of typings of form 3 and of refusals.
use Rattle.std.specs.Prelude.{◌≡◌, ◌↔◌, ℕ, List, Option, Some, None, length}
use Rattle.decode.specs.declared.insn.Insn.{Insn}
use Rattle.decode.specs.Flow.{flow_of}
use Rattle.decode.specs.Slots.{insn_at}
use Rattle.regtypes.specs.Rules.{first_broken}
use Rattle.regtypes.specs.Typing.{flow_tests}
use Rattle.spans.specs.Frame.{Frame}
use Rattle.spans.specs.Typing.{Table, IsTyping}
use Rattle.verifier.specs.Form.{IsForm}
use Rattle.verifier.specs.Fixpoint as one
use Rattle.verifier.specs.Span.Rules.{frame_pointer_rule}
use Rattle.verifier.specs.Span.Typing.{span_form}

-- form 3 keeps the laws that let one pass decide
abbrev pub KeepsLaws : Type 0
KeepsLaws = (state : ℕ) (slots : List (Option Insn)) → IsForm (span_form state slots)

-- V1 and V2, as in forms 1 and 2, for both ways, whether a step takes them or not; and V4
abbrev pub IsPlaced : List (Option Insn) → ℕ → Type 0
IsPlaced slots s =
    (i : Insn) → insn_at slots s ≡ Some i → (first_broken (flow_tests slots s (flow_of i)) ≡ None) × (frame_pointer_rule i ≡ None)

-- a typing of form 3 is one that `spans` requires, and under its frames V1, V2 and V4 are kept
abbrev pub AreTypings : Type 0
AreTypings =
    (state : ℕ) (slots : List (Option Insn)) (table : Table)
    → one.IsTyped (span_form state slots) table
    ↔ (IsTyping state (length slots) (insn_at slots) table × ((s : ℕ) (f : Frame) → table s ≡ Some f → IsPlaced slots s))

-- refused code has one rule and one slot that can be named
abbrev pub IsOneRefusal : Type 0
IsOneRefusal = (state : ℕ) (slots : List (Option Insn)) → one.IsOneRefusal (span_form state slots)
