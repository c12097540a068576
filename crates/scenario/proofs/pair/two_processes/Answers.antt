use Rattle.std.proofs.Common.{length}
use Rattle.scenario.specs.Order.{IsProcess, process_text}
use Rattle.scenario.specs.Process.{names_of}
use Rattle.scenario.proofs.Names.{process_lacks}
use Rattle.scenario.proofs.Pairs.{no_left, no_right, no_space}
use Rattle.scenario.proofs.pair.two_processes.Goals as goal

pub returns-in_err-left : goal.returns-in_err-left
returns-in_err-left c =
    let names = names_of c.args.processes.now in
    rw c.from_residual.ensures (no_space (process_text names) (process_text names) (IsProcess (length names)) (IsProcess (length names)) c.args.text.now c.in_err-left.ensures)

pub returns-in_err-process : goal.returns-in_err-process
returns-in_err-process c =
    let names = names_of c.args.processes.now in
    let cut = c.in_ok-left.ensures in
    rw c.from_residual-in_err-process.ensures (no_left (process_text names) (process_text names) (IsProcess (length names)) (IsProcess (length names)) c.args.text.now (λ p fits. process_lacks names p c.requires.named) c.in_ok-left.left.now c.in_ok-left.right.now cut.0 cut.1 c.in_err-process.ensures)

pub returns-in_err-peer : goal.returns-in_err-peer
returns-in_err-peer c =
    let names = names_of c.args.processes.now in
    let cut = c.in_ok-left.ensures in
    rw c.from_residual-in_err-peer.ensures (no_right (process_text names) (process_text names) (IsProcess (length names)) (IsProcess (length names)) c.args.text.now (λ p fits. process_lacks names p c.requires.named) c.in_ok-left.left.now c.in_ok-left.right.now cut.0 cut.1 c.in_err-peer.ensures)
