use Rattle.std.proofs.Common.{sym, subst}
use Rattle.recovery.specs.Plan.{Plans}
use Rattle.recovery.specs.Replays.{TheReplaying}
use Rattle.recovery.specs.StandsAtReplay.{ComesBack}
use Rattle.recovery.proofs.Moments.{comes-back}
use Rattle.recovery.proofs.collection.Collecting.recover.Goals as goal

pub returns-in-Ok-clause-acts : goal.returns-in-Ok-clause-acts
returns-in-Ok-clause-acts c =
    let n = c.args.self in
    let jobs = c.in-Ok.plan.items in
    let plans : Plans n jobs = c.in-Ok.ensures.plans in
    let P : TheReplaying → Type 0 = λ v. ComesBack n v in
    subst P (sym c.turn.ensures) (comes-back n jobs c.requires plans)
