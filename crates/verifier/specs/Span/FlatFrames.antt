-- Frames of forms 1 and 2, read as frames of form 3.
use Rattle.std.specs.Prelude.{ℕ, nat_lt, if◌then◌else◌}
use Rattle.std.specs.Option.{option_map}
use Rattle.limits.specs.declared.TheConstants.{PAYLOAD_BYTES, REGISTERS}
use Rattle.regtypes.specs.declared.frame.Kind.{Kind as FlatKind}
use Rattle.regtypes.specs.declared.frame.Kind.TheVariants as flat
use Rattle.regtypes.specs.declared.frame.Frame.{Frame as FlatFrame}
use Rattle.regtypes.specs.Frame.{kind_at}
use Rattle.regtypes.specs.Typing.{Table as FlatTable, frame_at}
use Rattle.spans.specs.Span.{span, whole}
use Rattle.spans.specs.declared.kind.SpanKind.{SpanKind}
use Rattle.spans.specs.declared.kind.SpanKind.TheVariants.{Unset, Num, Place}
use Rattle.spans.specs.Frame.{Frame, at_place}
use Rattle.spans.specs.Typing.{Table}

-- a number is any word, the message's length is a word up to 256, and a place is only that place
abbrev pub read_kind : FlatKind → SpanKind
read_kind flat.Unset = Unset
read_kind flat.Num = Num (whole 64)
read_kind flat.Len = Num (span 0 PAYLOAD_BYTES)
read_kind (flat.Place r k) = Place r (at_place k)

-- a register has its kind; forms 1 and 2 store only numbers, so each of the stack's 64 words is any number
abbrev pub read_cell : ℕ → FlatKind → SpanKind
read_cell c k = if nat_lt c REGISTERS then read_kind k else if nat_lt c 75 then Num (whole 64) else Unset

-- form 3 doesn't need the message's least length, since zeros come after the message
abbrev pub read_frame : FlatFrame → Frame
read_frame f c = read_cell c (kind_at f.kinds c)

-- slot by slot
abbrev pub read_table : FlatTable → Table
read_table table s = option_map read_frame (frame_at table s)
