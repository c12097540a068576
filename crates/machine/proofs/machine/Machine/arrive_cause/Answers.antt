use Rattle.std.proofs.Common.{rules, ◌≡◌, arith, slice_index_or}
use Rattle.std.specs.Prelude.{Some, None}
use Rattle.std.proofs.lemmas.Grind.{common_steps}
use Rattle.machine.proofs.machine.Machine.arrive_cause.Goals as goal

pub returns-clause-cause : goal.returns-clause-cause
returns-clause-cause c =
    let found : slice_index_or c.args.self.now.slots c.args.key None ≡ Some c.in-Some.packet.now = first_of (search rules, grind (arith, common_steps)) in
    λ w s. c.take_cause.ensures.cause w c.args.key s found
