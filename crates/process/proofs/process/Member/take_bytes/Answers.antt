use Rattle.std.proofs.Common.{rules, arith}
use Rattle.std.proofs.lemmas.Grind.{common_steps}
use Rattle.process.specs.Packets.{IsFront}
use Rattle.process.proofs.process.Member.take_bytes.Goals as goal

pub returns-in-Some-clause-some : goal.returns-in-Some-clause-some
returns-in-Some-clause-some c =
    let front : IsFront c.args.self.now c.in-Some.bytes.items = first_of (search rules, grind (arith, common_steps)) in
    (front.0, front.1, c.discard.ensures front.0 front.2.0 front.2.1)
