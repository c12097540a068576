-- What `transfer` answers.
use Rattle.std.specs.Prelude.{◌≡◌, ℕ, None, Some, Result, Ok, Err}
use Rattle.std.specs.Option.{option_map}
use Rattle.decode.specs.declared.insn.Insn.{Insn}
use Rattle.regtypes.specs.declared.rule.Rule.{Rule}
use Rattle.spans.specs.declared.cells.Cells.{Cells}
use Rattle.spans.specs.Frame.{Frame, kind_at}
use Rattle.spans.specs.Ways.{Ways}
use Rattle.verifier.specs.declared.span.ways.SpanLeaving.{SpanLeaving}
use Rattle.verifier.specs.Span.Rules.{broken_rule}
use Rattle.verifier.specs.Span.Ways.{ways}

-- an array of kinds as a frame
abbrev pub frame_of : Cells → Frame
frame_of c = kind_at c.kinds

-- the ways of an instruction, with arrays as frames
abbrev pub frames_of : SpanLeaving → Ways
frames_of l = (option_map frame_of l.next, option_map frame_of l.taken)

-- the frames that leave on both ways if no rule is broken, else the least broken rule
abbrev pub IsLeaving : ℕ → Insn → Frame → Result SpanLeaving Rule → Type 0
IsLeaving state i f (Ok l) = (broken_rule state i f ≡ None) × (frames_of l ≡ ways i f)
IsLeaving state i f (Err r) = broken_rule state i f ≡ Some r
