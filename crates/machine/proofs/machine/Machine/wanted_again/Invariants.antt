use Rattle.std.proofs.Common.{◌≢◌, ℕ, ◌<◌, ◌≤◌, length, true}
use Rattle.rsn.specs.Receipts.{numbers_of}
use Rattle.world.specs.declared.call.Call.TheVariants.{Transmit}
use Rattle.world.specs.World.{World}
use Rattle.world.specs.Useful.{is_useful}
use Rattle.machine.specs.Simulation.{Stands, process_at}
use Rattle.machine.proofs.machine.Machine.wanted_again.Given as goal

abbrev pub invariant-loop-ssn : goal.invariant-loop-ssn
invariant-loop-ssn l = (w : World) → Stands l.self w → (i : ℕ) → l.ssn < i → i ≤ length (numbers_of l.from (process_at l.self l.to).receipts) → is_useful w (Transmit l.from l.to i) ≢ true

abbrev pub decreases-loop-ssn : goal.decreases-loop-ssn
decreases-loop-ssn l = l.ssn
