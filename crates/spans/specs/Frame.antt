-- What is known of the registers and of the stack's words, and its order.
use Rattle.std.specs.Prelude.{◌≡◌, ℕ, List, slice_index_or, nat_lt, int_le, ◌==◌, ◌&&◌, ℤ, pos, ◌≤ℤ◌, Bool, true, false, if◌then◌else◌}
use Rattle.regtypes.specs.declared.frame.Region.TheVariants.{Message, State, Stack}
pub use Rattle.spans.specs.declared.kind.Reach.{Reach}
pub use Rattle.spans.specs.declared.kind.SpanKind.{SpanKind}
pub use Rattle.spans.specs.declared.kind.SpanKind.TheVariants.{Unset, Num, Place}
use Rattle.spans.specs.Span.{span, whole, IsSpan, Within, joined_span}

-- one place only
abbrev pub at_place : ℤ → Reach
at_place k = record { lo = k; hi = k }

-- the distances of the first are among those of the second
abbrev pub WithinReach : Reach → Reach → Type 0
WithinReach s t = (t.lo ≤ℤ s.lo) × (s.hi ≤ℤ t.hi)

-- the least reach that has the distances of both
abbrev pub joined_reach : Reach → Reach → Reach
joined_reach s t = record { lo = if int_le s.lo t.lo then s.lo else t.lo; hi = if int_le s.hi t.hi then t.hi else s.hi }

-- a kind has at least one value, and its numbers are words of 64 bits
abbrev pub IsKind : SpanKind → Type 0
IsKind Unset = Unit {0}
IsKind (Num s) = IsSpan 64 s
IsKind (Place r s) = s.lo ≤ℤ s.hi

-- the first kind says what the second says
abbrev pub LeqKind : SpanKind → SpanKind → Type 0
LeqKind a Unset = Unit {0}
LeqKind (Num s) (Num t) = Within s t
LeqKind (Place r s) (Place q t) = (r ≡ q) × WithinReach s t
LeqKind a b = ⊥

-- what both kinds say: the numbers of both, or the places of both if they have one region
abbrev pub joined_kind : SpanKind → SpanKind → SpanKind
joined_kind (Num s) (Num t) = Num (joined_span s t)
joined_kind (Place Message s) (Place Message t) = Place Message (joined_reach s t)
joined_kind (Place State s) (Place State t) = Place State (joined_reach s t)
joined_kind (Place Stack s) (Place Stack t) = Place Stack (joined_reach s t)
joined_kind a b = Unset

-- it is known to be a number
abbrev pub is_num : SpanKind → Bool
is_num (Num s) = true
is_num k = false

-- it is known to be set, a number or a place
abbrev pub is_set : SpanKind → Bool
is_set Unset = false
is_set k = true

-- ---- frames

-- the kind of a cell in a list of them; after the end of the list nothing is known
abbrev pub kind_at : List SpanKind → ℕ → SpanKind
kind_at kinds c = slice_index_or kinds c Unset

-- the kind of each cell: cells 0 to 10 are the registers, cells 11 to 74 the 64 words of the stack from its first byte
-- on (no instruction reaches a later cell)
abbrev pub Frame : Type 0
Frame = ℕ → SpanKind

-- each cell has such a kind
abbrev pub IsFrame : Frame → Type 0
IsFrame f = (c : ℕ) → IsKind (f c)

-- the first frame says what the second says
abbrev pub Leq : Frame → Frame → Type 0
Leq f g = (c : ℕ) → LeqKind (f c) (g c)

-- what both frames say
abbrev pub joined : Frame → Frame → Frame
joined f g c = joined_kind (f c) (g c)

-- the frame with another kind in one cell
abbrev pub with_kind : Frame → ℕ → SpanKind → Frame
with_kind f c k d = if d == c then k else f d

-- the entry: r1 is the message, r2 the state, r3 the message's length, r10 the end of the stack, whose 64 words are
-- numbers; nothing else is set
abbrev pub entry_frame : Frame
entry_frame d =
    if d == 1 then Place Message (at_place (pos 0))
    else if d == 2 then Place State (at_place (pos 0))
    else if d == 3 then Num (span 0 256)
    else if d == 10 then Place Stack (at_place (pos 512))
    else if nat_lt 10 d && nat_lt d 75 then Num (whole 64)
    else Unset
