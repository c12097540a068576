use Rattle.std.proofs.Common.{◌≡◌, subst, sym, ap, ◌∙◌, arith}
use Rattle.std.specs.Prelude.{◌==◌, false}
use Rattle.std.proofs.lemmas.Bool.Decides.{nat_tests}
use Rattle.sender_log.specs.Log.{TheLog}
use Rattle.session_process.specs.Process.{TheProcess}
use Rattle.machine.specs.Simulation.{log_at}
use Rattle.machine.specs.Readings.{LogStands}
use Rattle.machine.proofs.Readings.{log-stands}
use Rattle.machine.proofs.machine.Machine.log.Goals as goal

pub returns-clause-sent : goal.returns-clause-sent
returns-clause-sent c w s =
    let inside : (c.args.p == 0) ≡ false = grind (arith, nat_tests, c.if-p-eq0.false) in
    let is : c.log-2.result.now ≡ log_at c.args.self.now c.args.p = rw inside (c.log-2.ensures.value ∙ ap (λ o. o.log) c.outbox.ensures ∙ ap (λ (x : TheProcess). x.outbox.log) c.process.ensures.value) in
    subst (λ (l : TheLog). LogStands w c.args.p l) (sym is) (log-stands c.args.self.now w s c.args.p c.requires)
