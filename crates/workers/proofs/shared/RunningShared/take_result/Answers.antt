use Rattle.workers.specs.Continues.{Continues}
use Rattle.workers.proofs.Continuation.{allowed-of, begins-of, continues-on}
use Rattle.workers.proofs.shared.RunningShared.take_result.Goals as goal

pub invariant_of-self : goal.invariant_of-self
invariant_of-self g c =
    let start = g.B.Start.session in
    let now = c.args.self.now in
    let new = c.finish_job.new.session in
    let all : Continues start new = continues-on start now.session new now.images now.entries now.allowed c.finish_job.ensures.session in
    record { images = all.images; entries = begins-of start new all; allowed = allowed-of start new all }
