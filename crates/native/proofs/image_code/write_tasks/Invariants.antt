use Rattle.std.specs.Prelude.{reverse}
use Rattle.native.specs.Written.{IsLaidFrom}
use Rattle.native.proofs.image_code.write_tasks.Given as goal

abbrev pub invariant-slots : goal.invariant-slots
invariant-slots l = IsLaidFrom l.opening l.tasks l.tails.items (reverse l.back.items) l.slot

abbrev pub decreases-slots : goal.decreases-slots
decreases-slots l = l.slot
