use Rattle.std.proofs.Common.{◌≡◌, ℕ, ◌<◌, false}
use Rattle.std.specs.Prelude.{slice_index_or}
use Rattle.world.specs.World.{World}
use Rattle.world.specs.Useful.{belongs}
use Rattle.machine.specs.Simulation.{Stands}
use Rattle.machine.proofs.machine.Machine.is_on_wire.Given as goal

abbrev pub invariant-loop-key : goal.invariant-loop-key
invariant-loop-key l = (w : World) → Stands l.self w → (k : ℕ) → k < l.key-index → belongs w l.from l.to l.ssn (w.wire (slice_index_or l.key-items k 0)) ≡ false
