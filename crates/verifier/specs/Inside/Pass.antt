-- The steps of the pass over the slots.
use Rattle.std.specs.Prelude.{◌≡◌, ◌≢◌, ℕ, ◌≤◌, Option, Some, None, length}
use Rattle.limits.specs.declared.TheConstants.{PAYLOAD_BYTES, REGISTERS}
use Rattle.regtypes.specs.declared.frame.Frame.{Frame}
use Rattle.regtypes.specs.Frame.{Leq}
use Rattle.regtypes.specs.Typing.{Table, frame_at}

-- a frame joined into the frame of a slot
pub record Merged (old : Table) (to : ℕ) (f : Frame) (new : Table) : Type 0 where
  pub size : length new ≡ length old
  pub other : (s : ℕ) → s ≢ to → frame_at new s ≡ frame_at old s
  pub frame : Frame
  pub there : frame_at new to ≡ Some frame
  pub whole : length frame.kinds ≡ REGISTERS
  pub short : frame.low ≤ PAYLOAD_BYTES
  pub covers : Leq f frame
  pub keeps : (g : Frame) → frame_at old to ≡ Some g → Leq g frame
  pub least : (k : Frame) → Leq f k → ((g : Frame) → frame_at old to ≡ Some g → Leq g k) → Leq frame k

-- the first slot has the entry's frame, and no other has one
pub record IsOpening {A : Type 0} (entry : A) (table : ℕ → Option A) : Type 0 where
  pub first : table 0 ≡ Some entry
  pub none : (s : ℕ) → s ≢ 0 → table s ≡ None
