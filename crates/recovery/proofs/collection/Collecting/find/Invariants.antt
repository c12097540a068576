use Rattle.std.proofs.Common.{◌≡◌}
use Rattle.std.specs.Prelude.{None}
use Rattle.world.specs.Plan.{first_below}
use Rattle.packets.specs.Says.{first_told}
use Rattle.recovery.specs.Collection.{told_of}
use Rattle.recovery.proofs.collection.Collecting.find.Given as goal

abbrev pub invariant-loop-sender : goal.invariant-loop-sender
invariant-loop-sender l = first_below (λ q. first_told q (told_of l.self.told q).entries l.number) l.sender ≡ None
