use Rattle.std.proofs.Common.{arith}
use Rattle.machine.proofs.machine.Machine.recover_alone.Goals as goal

pub bring_back-requires : goal.bring_back-requires
bring_back-requires c =
    let none = c.in_default.ensures.none in
    record { inside = none.0; within = none.1; down = none.3; accepted = c.in_default.ensures.cause; calls = omega (arith, none.2, c.requires) }
