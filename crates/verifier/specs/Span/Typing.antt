-- When code is typable in form 3.
use Rattle.std.specs.Prelude.{◌≡◌, ℕ, ◌+◌, List, Option, Some, None, unwrap_or, length}
use Rattle.std.specs.List.{slice_get}
use Rattle.std.specs.Option.{option_and_then, option_map, option_or}
use Rattle.std.specs.Global.{Box}
use Rattle.decode.specs.declared.insn.Insn.{Insn}
use Rattle.decode.specs.Slots.{insn_at, size_of}
use Rattle.regtypes.specs.declared.rule.Rule.{Rule}
use Rattle.decode.specs.Flow.{flow_of}
use Rattle.regtypes.specs.Rules.{first_broken}
use Rattle.regtypes.specs.Typing.{flow_tests}
use Rattle.spans.specs.declared.cells.Cells.{Cells}
use Rattle.spans.specs.Frame.{Frame, IsFrame, Leq, entry_frame}
use Rattle.verifier.specs.Span.Transfer.{frame_of}
use Rattle.verifier.specs.Span.Rules.{broken_rule}
use Rattle.verifier.specs.Span.Ways.{ways}
use Rattle.spans.specs.Typing.{Table, Enters, target}
use Rattle.verifier.specs.Form.{Form}

-- arrays of kinds as frames, slot by slot; none after their end
abbrev pub table_of : List (Option (Box Cells)) → Table
table_of items s = option_map (λ (b : Box Cells). frame_of b.value) (unwrap_or (slice_get items s) None)

-- the least rule that an instruction breaks at a slot under a frame; V1 and V2 need no frame
abbrev pub broken : ℕ → List (Option Insn) → ℕ → Insn → Frame → Option Rule
broken state slots s i f = option_or (first_broken (flow_tests slots s (flow_of i))) (broken_rule state i f)

-- at slot s an instruction begins that breaks no rule under the frame f, and the frames that leave it fit
pub record IsAllowed (state : ℕ) (slots : List (Option Insn)) (table : Table) (s : ℕ) (f : Frame) : Type 0 where
  pub insn : Insn
  pub there : insn_at slots s ≡ Some insn
  pub frame : IsFrame f
  pub kept : broken state slots s insn f ≡ None
  pub goes : Enters table (s + size_of insn) (ways insn f).0
  pub leaps : Enters table (target s insn) (ways insn f).1

-- form 3, for code slot by slot with a state of `state` bytes
abbrev pub span_form : ℕ → List (Option Insn) → Form
span_form state slots = record {
  Frame = Frame;
  Leq = Leq;
  entry = entry_frame;
  count = length slots;
  MayStand = λ s f. IsFrame f × ((i : Insn) × (insn_at slots s ≡ Some i));
  IsAllowed = λ table s f. IsAllowed state slots table s f;
  broken = λ s f. option_and_then (λ i. broken state slots s i f) (insn_at slots s);
}
