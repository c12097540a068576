use Rattle.std.proofs.Common.{take}
use Rattle.runner.specs.Inside.{AreNoted, notes_of, position_of}
use Rattle.runner.proofs.player.Player.tell_all.Given as goal

abbrev pub invariant-loop-step : goal.invariant-loop-step
invariant-loop-step l = AreNoted (take l.step-index l.steps) (position_of l.fn.self) (position_of l.self) (notes_of l.notes)
