use Rattle.std.proofs.Common.{◌≢◌, ℕ, ◌<◌}
use Rattle.std.specs.Prelude.{None}
use Rattle.world.specs.declared.call.Call.TheVariants.{Resync as ResyncWith}
use Rattle.world.specs.World.{World}
use Rattle.world.specs.Refusals.{refusal_of}
use Rattle.machine.specs.Simulation.{Stands}
use Rattle.machine.proofs.machine.Machine.resync_peer.Given as goal

abbrev pub invariant-loop-r : goal.invariant-loop-r
invariant-loop-r l = (w : World) → Stands l.self w → (k : ℕ) → 0 < k → k < l.r → refusal_of w l.room (ResyncWith l.p k) ≢ None
