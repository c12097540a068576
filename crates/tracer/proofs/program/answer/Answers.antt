use Rattle.std.proofs.Common.{ap, inl, subst, sym}
use Rattle.std.proofs.lemmas.Result.{IfErr-weaker}
use Rattle.cli.specs.Asks.{order_of}
use Rattle.tracer.specs.Program.{IsFault}
use Rattle.tracer.proofs.program.answer.Goals as goal

pub returns-in-Live-clause-fault : goal.returns-in-Live-clause-fault
returns-in-Live-clause-fault g c =
    IfErr-weaker c.live_scenario.result _ _
    (λ f fault. inl (subst (λ o. IsFault (g.F.Files.content c.args.files.now) (g.F.Files.failed c.live_scenario.new.files) o f) (sym (ap order_of c.in-Live.is)) fault))
    c.live_scenario.ensures.fault
