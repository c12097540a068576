use Rattle.std.proofs.Common.{ℕ, ◌<◌}
use Rattle.world.specs.declared.call.Call.TheVariants.{Resync as ResyncWith}
use Rattle.world.specs.World.{World}
use Rattle.machine.specs.Simulation.{Stands}
use Rattle.machine.specs.Choice.{IsPick}
use Rattle.machine.proofs.machine.Machine.pick_resync.Given as goal

abbrev pub invariant-loop-process : goal.invariant-loop-process
invariant-loop-process l = (w : World) → Stands l.self w → (k : ℕ) → 0 < k → k < l.process → (r : ℕ) → ¬ IsPick w l.room (ResyncWith k r)
