-- When code is typable in form 3.
use Rattle.std.specs.Prelude.{◌≡◌, ℕ, ◌+◌, ◌<◌, pos, ◌+ℤ◌, ◌<ℤ◌, Option, Some, None, unsigned_abs}
use Rattle.decode.specs.declared.insn.Insn.{Insn}
use Rattle.decode.specs.Slots.{size_of}
use Rattle.decode.specs.Distance.{distance}
use Rattle.spans.specs.Frame.{Frame, IsFrame, Leq, entry_frame}
use Rattle.spans.specs.Ways.{Ways, Leaves}

-- the instruction that begins at a slot; none begins in a wide one's second slot or after the end
abbrev pub Code : Type 0
Code = ℕ → Option Insn

-- a frame for each slot, or none
abbrev pub Table : Type 0
Table = ℕ → Option Frame

-- the slot that an instruction at slot s jumps to
abbrev pub target : ℕ → Insn → ℕ
target s i = unsigned_abs (pos (s + 1) +ℤ distance i)

-- the frame that leaves on a way, if there is one, fits the frame of the slot where it leads
abbrev pub Enters : Table → ℕ → Option Frame → Type 0
Enters table t None = Unit {0}
Enters table t (Some g) = (h : Frame) × (table t ≡ Some h) × Leq g h

-- at slot s an instruction begins that breaks no rule under the frame f and jumps to a later slot, and the frames that
-- leave it fit
pub record IsAllowed (state count : ℕ) (code : Code) (table : Table) (s : ℕ) (f : Frame) : Type 0 where
  pub insn : Insn
  pub ways : Ways
  pub there : code s ≡ Some insn
  pub before : s < count
  pub later : pos s <ℤ (pos (s + 1) +ℤ distance insn)
  pub frame : IsFrame f
  pub leaves : Leaves state insn f ways
  pub goes : Enters table (s + size_of insn) ways.0
  pub leaps : Enters table (target s insn) ways.1

-- the table is a typing of code of `count` slots: the entry's frame fits slot 0, and each slot with a frame is allowed.
-- The rule V4 needs no frame and is not here
pub record IsTyping (state count : ℕ) (code : Code) (table : Table) : Type 0 where
  pub start : Enters table 0 (Some entry_frame)
  pub each : (s : ℕ) (f : Frame) → table s ≡ Some f → IsAllowed state count code table s f
