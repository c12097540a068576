-- The steps of the pass over the slots.
use Rattle.std.specs.Prelude.{◌≡◌, ◌≢◌, ℕ, ◌+◌, ◌<◌, Option, Some, None, List, Result, Ok, Err}
use Rattle.std.specs.Global.{Box}
use Rattle.decode.specs.declared.insn.Insn.{Insn}
use Rattle.decode.specs.Encoding.{Fits}
use Rattle.decode.specs.Slots.{insn_at, size_of}
use Rattle.regtypes.specs.declared.rule.Rule.{Rule}
use Rattle.spans.specs.declared.cells.Cells.{Cells}
use Rattle.spans.specs.Frame.{Frame, joined}
use Rattle.spans.specs.Ways.{Ways}
use Rattle.spans.specs.Typing.{Table, target}
use Rattle.verifier.specs.declared.span.ways.SpanLeaving.{SpanLeaving}
use Rattle.verifier.specs.Span.Transfer.{frames_of}
use Rattle.verifier.specs.Span.Ways.{ways}
use Rattle.verifier.specs.Fixpoint.{IsLeast, StopsAt}
use Rattle.verifier.specs.Span.Typing.{broken, span_form, table_of}

-- the frame of a slot after another frame was joined into it
abbrev pub merged : Option Frame → Frame → Frame
merged None f = f
merged (Some g) f = joined g f

-- a frame joined into the frame of a slot
pub record IsMerged (old : Table) (to : ℕ) (f : Frame) (new : Table) : Type 0 where
  pub there : new to ≡ Some (merged (old to) f)
  pub other : (s : ℕ) → s ≢ to → new s ≡ old s

-- the same for the frame that leaves on a way, if there is one
abbrev pub IsWayMerged : Table → ℕ → Option Frame → Table → Type 0
IsWayMerged old to None new = new ≡ old
IsWayMerged old to (Some f) new = IsMerged old to f new

-- if a frame leaves on this way, the way leads to one of the slots
abbrev pub IsWayWithin : ℕ → ℕ → Option Frame → Type 0
IsWayWithin count to None = Unit {0}
IsWayWithin count to (Some f) = to < count

-- the frames that leave an instruction on both ways, joined into the table
pub record IsSpread (old : Table) (s : ℕ) (i : Insn) (w : Ways) (new : Table) : Type 0 where
  pub mid : Table
  pub goes : IsWayMerged old (s + size_of i) w.0 mid
  pub leaps : IsWayMerged mid (target s i) w.1 new

-- the frames that leave the instruction at a slot if no rule is broken, else the least broken rule
abbrev pub IsLeavingAt : ℕ → List (Option Insn) → ℕ → Insn → Frame → Result SpanLeaving Rule → Type 0
IsLeavingAt state slots s i f (Ok l) = (broken state slots s i f ≡ None) × (frames_of l ≡ ways i f)
IsLeavingAt state slots s i f (Err r) = broken state slots s i f ≡ Some r

-- the table is the least typing of one slot more; or the slot breaks a rule, and the table is unchanged
abbrev pub IsSlotJudged : ℕ → List (Option Insn) → ℕ → List (Option (Box Cells)) → List (Option (Box Cells)) → Option Rule → Type 0
IsSlotJudged state slots s old new None = IsLeast (span_form state slots) (s + 1) (table_of new)
IsSlotJudged state slots s old new (Some rule) = StopsAt (span_form state slots) rule s × (new ≡ old)

-- the instructions at the slots have numbers that fit their fields
abbrev pub AreFitting : List (Option Insn) → Type 0
AreFitting slots = (s : ℕ) (i : Insn) → insn_at slots s ≡ Some i → Fits i
