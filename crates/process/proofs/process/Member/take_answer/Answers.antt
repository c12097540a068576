use Rattle.std.proofs.Common.{rules, ◌≡◌, ◌≤◌, length, arith}
use Rattle.std.proofs.lemmas.Grind.{common_steps}
use Rattle.node.specs.declared.node.TheConstants.{MOST_GIVEN}
use Rattle.process.specs.Work.{given_of}
use Rattle.process.proofs.Workings.{may-take-back}
use Rattle.process.proofs.process.Member.take_answer.Goals as goal

pub take_back-requires : goal.take_back-requires
take_back-requires c =
    let e = c.args.effects.now in
    let given = c.deref.result.now in
    let items : given ≡ given_of c.args.who e = first_of (search rules, grind (arith, common_steps)) in
    let few : length given ≤ MOST_GIVEN = first_of (search rules, grind (arith, common_steps)) in
    may-take-back c.args.self.now c.requires.0 c.args.who e given c.requires.1 items few
