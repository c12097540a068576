use Rattle.std.proofs.Common.{rules, arith}
use Rattle.std.proofs.lemmas.Grind.{common_steps}
use Rattle.process.specs.Job.{TakesBack}
use Rattle.process.proofs.Lifecycles.{few_more}
use Rattle.process.specs.Work.{TakesIn, MayTakeIn}
use Rattle.process.proofs.Within as within
use Rattle.process.proofs.process.Member.take_back.Goals as goal

pub returns-clause-few : goal.returns-clause-few
returns-clause-few c =
    let taken : TakesBack c.args.state.items c.args.given.now c.args.self.now c.pass-held.new.self = first_of (search rules, grind (arith, common_steps)) in
    few_more c.args.state.items c.args.given.now c.args.self.now c.pass-held.new.self c.requires taken

pub invariant_of-self-2 : goal.invariant_of-self-2
invariant_of-self-2 c =
    let may : MayTakeIn c.self.inside.lifecycle c.args.given.now = first_of (search rules, grind (arith, common_steps)) in
    let h : TakesIn c.args.state.items c.args.given.now c.self.inside.lifecycle c.take_in.new.lifecycle = first_of (search rules, grind (arith, common_steps)) in
    within.takes-in c.args.state.items c.args.given.now c.self.inside.lifecycle c.take_in.new.lifecycle may h c.self.invariant
