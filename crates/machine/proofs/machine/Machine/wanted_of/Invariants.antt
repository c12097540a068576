use Rattle.std.proofs.Common.{ℕ, ◌<◌}
use Rattle.machine.specs.Choice.{ArePeers, NoneWanted}
use Rattle.machine.proofs.machine.Machine.wanted_of.Given as goal

abbrev pub invariant-loop-to : goal.invariant-loop-to
invariant-loop-to l = (d : ℕ) → d < l.to → ArePeers l.self l.from d → NoneWanted l.self l.from d
