use Rattle.std.proofs.Common.{ℕ, ◌<◌}
use Rattle.machine.specs.Choice.{ArePeers, NoneWanted}
use Rattle.machine.proofs.machine.Machine.pick_transmit.Given as goal

abbrev pub invariant-loop-from : goal.invariant-loop-from
invariant-loop-from l = (p d : ℕ) → p < l.from → ArePeers l.self p d → NoneWanted l.self p d
