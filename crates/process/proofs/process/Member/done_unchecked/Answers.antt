use Rattle.std.proofs.Common.{rules, arith}
use Rattle.std.proofs.lemmas.Grind.{common_steps}
use Rattle.process.specs.Job.{IsNext}
use Rattle.process.proofs.process.Member.done_unchecked.Goals as goal

pub take_answer-requires : goal.take_answer-requires
take_answer-requires c =
    let next : IsNext c.args.self.now c.in-Some.message c.in-Some.who = first_of (search rules, grind (arith, common_steps)) in
    (c.in-Some.message, next)
