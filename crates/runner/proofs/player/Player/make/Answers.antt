use Rattle.std.proofs.Common.{sym, subst}
use Rattle.std.specs.Prelude.{None}
use Rattle.machine.specs.Dispatch.{job_of}
use Rattle.sessions.specs.Driver.{Starts}
use Rattle.sessions.specs.Journal.{world_at}
use Rattle.runner.specs.Inside.{position_of}
use Rattle.runner.specs.Orders.{MakesCall}
use Rattle.runner.proofs.Carried.{begun}
use Rattle.runner.proofs.player.Player.make.Goals as goal

pub returns-in-Some-clause-done : goal.returns-in-Some-clause-done
returns-in-Some-clause-done c =
    let s = c.args.self.now in
    let call = c.args.call.now in
    let reply = c.in_ok-reply.reply in
    let ok = c.in_ok-reply.ensures in
    let job = subst (Starts c.call.new.self (job_of (world_at s.session) call reply.answer)) c.in-Some.is ok.job in
    subst (λ p. MakesCall (position_of s) call p None) (sym c.hold.ensures) (rw c.in-Some.is (begun s.session c.call.new.self call reply.answer c.in-Some.job s.held.items s.inputs ok.adds job.0 job.1))
