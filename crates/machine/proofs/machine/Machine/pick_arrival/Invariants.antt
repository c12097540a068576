use Rattle.std.proofs.Common.{◌≢◌, ℕ, ◌<◌}
use Rattle.std.specs.Prelude.{None, slice_index_or}
use Rattle.world.specs.declared.call.Call.TheVariants.{Arrive}
use Rattle.world.specs.World.{World}
use Rattle.world.specs.Refusals.{refusal_of}
use Rattle.machine.specs.Simulation.{Stands}
use Rattle.machine.proofs.machine.Machine.pick_arrival.Given as goal

abbrev pub invariant-loop-key : goal.invariant-loop-key
invariant-loop-key l = (w : World) → Stands l.self w → (k : ℕ) → k < l.key-index → refusal_of w l.room (Arrive (slice_index_or l.key-items k 0)) ≢ None
