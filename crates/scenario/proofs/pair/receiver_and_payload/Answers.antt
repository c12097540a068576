use Rattle.std.proofs.Common.{length}
use Rattle.scenario.specs.Hex.{IsPayload, hex_text}
use Rattle.scenario.specs.Order.{IsProcess, process_text}
use Rattle.scenario.specs.Process.{names_of}
use Rattle.scenario.proofs.Names.{process_lacks}
use Rattle.scenario.proofs.Pairs.{no_left, no_right, no_space}
use Rattle.scenario.proofs.pair.receiver_and_payload.Goals as goal

pub returns-in_err-name : goal.returns-in_err-name
returns-in_err-name c =
    let names = names_of c.args.processes.now in
    rw c.from_residual.ensures (no_space (process_text names) (hex_text) (IsProcess (length names)) (IsPayload) c.args.text.now c.in_err-name.ensures)

pub returns-in_err-process : goal.returns-in_err-process
returns-in_err-process c =
    let names = names_of c.args.processes.now in
    let cut = c.in_ok-name.ensures in
    rw c.from_residual-in_err-process.ensures (no_left (process_text names) (hex_text) (IsProcess (length names)) (IsPayload) c.args.text.now (λ p fits. process_lacks names p c.requires.named) c.in_ok-name.name.now c.in_ok-name.bytes.now cut.0 cut.1 c.in_err-process.ensures)

pub returns-in_err-payload : goal.returns-in_err-payload
returns-in_err-payload c =
    let names = names_of c.args.processes.now in
    let cut = c.in_ok-name.ensures in
    rw c.from_residual-in_err-payload.ensures (no_right (process_text names) (hex_text) (IsProcess (length names)) (IsPayload) c.args.text.now (λ p fits. process_lacks names p c.requires.named) c.in_ok-name.name.now c.in_ok-name.bytes.now cut.0 cut.1 c.in_err-payload.ensures)
