use Rattle.std.proofs.Common.{◌≡◌, length}
use Rattle.regtypes.specs.Typing.{frame_at}
use Rattle.verifier.specs.Fixpoint.{IsLeast}
use Rattle.verifier.specs.Least.{flat_form}
use Rattle.verifier.proofs.pass.frames_of.Given as goal

abbrev pub invariant-loop-slot : goal.invariant-loop-slot
invariant-loop-slot l = (length l.table.items ≡ length l.slots.items) × IsLeast (flat_form l.form l.state_len l.slots.items) l.slot (frame_at l.table.items)
