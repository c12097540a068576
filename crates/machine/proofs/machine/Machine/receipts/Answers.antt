use Rattle.std.proofs.Common.{sym, ap, ◌∙◌, subst}
use Rattle.session_process.specs.Process.{TheProcess}
use Rattle.machine.specs.Readings.{ReceiptsStand}
use Rattle.machine.proofs.Readings.{receipts-stand}
use Rattle.machine.proofs.machine.Machine.receipts.Goals as goal

pub returns : goal.returns
returns c w s = subst (ReceiptsStand w c.args.p) (sym (c.receipts.ensures ∙ ap (λ (x : TheProcess). x.receipts) c.process.ensures.value)) (receipts-stand c.args.self.now w s c.args.p c.requires.0 c.requires.1)
