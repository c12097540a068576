use Rattle.recovery.specs.Plan.{Plans, Recovering}
use Rattle.recovery.proofs.Plans.{recovering, ok-some}
use Rattle.recovery.proofs.collection.Collecting.plan.Goals as goal

pub returns-clause-recovers : goal.returns-clause-recovers
returns-clause-recovers c =
    let n = c.args.self.now in
    ok-some (λ jobs. Plans n jobs.items) (λ jobs. Recovering n jobs.items) c.follow.result (λ jobs p. recovering n jobs.items p) c.follow.ensures.plans
