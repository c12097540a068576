use Rattle.runner.proofs.OpenJobs.{none-works, replay-works}
use Rattle.runner.proofs.rest.open_replay.Goals as goal

pub returns-in-Some : goal.returns-in-Some
returns-in-Some c =
    let found = c.in-Some.ensures in
    replay-works c.args.session.now c.in-Some.process c.requires.done found.inside.0 found.inside.1 c.first_in.ensures.few found.some

pub returns-in-None : goal.returns-in-None
returns-in-None c = (c.requires.done, none-works c.args.session.now c.requires.quiet c.in-None.ensures.none)
