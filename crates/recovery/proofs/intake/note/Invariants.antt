use Rattle.std.proofs.Common.{◌≡◌, take}
use Rattle.recovery.specs.Intake.{noted}
use Rattle.recovery.proofs.intake.note.Given as goal

abbrev pub invariant-loop-pair : goal.invariant-loop-pair
invariant-loop-pair l = l.log ≡ noted (take l.pair-index l.pairs) l.fn.log
