use Rattle.std.proofs.Common.{ap, ◌∙◌}
use Rattle.session_process.specs.Process.{TheProcess}
use Rattle.machine.proofs.Readings.{state-back, state-gone}
use Rattle.machine.proofs.machine.Machine.state.Goals as goal

pub returns-clause-live : goal.returns-clause-live
returns-clause-live c w s back = c.state.ensures ∙ ap (λ (x : TheProcess). x.state) c.process.ensures.value ∙ state-back c.args.self.now w s c.args.p c.requires.0 c.requires.1 back

pub returns-clause-down : goal.returns-clause-down
returns-clause-down c w s down = c.state.ensures ∙ ap (λ (x : TheProcess). x.state) c.process.ensures.value ∙ state-gone c.args.self.now w s c.args.p c.requires.0 c.requires.1 down
