use Rattle.std.proofs.Common.{◌≡◌, subst, sym, ap, ◌∙◌}
use Rattle.send_gate.specs.Gate.{TheGate}
use Rattle.session_process.specs.Process.{TheProcess}
use Rattle.machine.specs.Simulation.{gate_at}
use Rattle.machine.specs.Readings.{GateStands}
use Rattle.machine.proofs.Readings.{gate-stands}
use Rattle.machine.proofs.machine.Machine.gate.Goals as goal

pub returns : goal.returns
returns c w s =
    let is : c.gate.result.now ≡ gate_at c.args.self.now c.args.p = c.gate.ensures ∙ ap (λ o. o.gate) c.outbox.ensures ∙ ap (λ (x : TheProcess). x.outbox.gate) c.process.ensures.value in
    subst (λ (g : TheGate). GateStands w c.args.p g) (sym is) (gate-stands c.args.self.now w s c.args.p c.requires.0 c.requires.1)
