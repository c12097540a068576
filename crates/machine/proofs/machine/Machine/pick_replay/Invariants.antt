use Rattle.std.proofs.Common.{◌≢◌, ℕ, ◌<◌}
use Rattle.std.specs.Prelude.{None}
use Rattle.world.specs.declared.call.Call.TheVariants.{ReplayBegin}
use Rattle.world.specs.World.{World}
use Rattle.world.specs.Refusals.{refusal_of}
use Rattle.machine.specs.Simulation.{Stands}
use Rattle.machine.proofs.machine.Machine.pick_replay.Given as goal

abbrev pub invariant-loop-p : goal.invariant-loop-p
invariant-loop-p l = (w : World) → Stands l.self w → (k : ℕ) → 0 < k → k < l.p → refusal_of w l.room (ReplayBegin k) ≢ None
