use Rattle.scenario.specs.Process.{names_of}
use Rattle.scenario.proofs.Orders.{no_space, no_verb, order_reads}
use Rattle.scenario.proofs.order.order_of.Goals as goal

pub returns-in_err-word : goal.returns-in_err-word
returns-in_err-word c = rw c.from_residual.ensures (no_space (names_of c.args.processes.now) c.args.line.now c.in_err-word.ensures)

pub returns-in_err-verb : goal.returns-in_err-verb
returns-in_err-verb c =
    let cut = c.in_ok-word.ensures in
    rw c.from_residual-in_err-verb.ensures (no_verb (names_of c.args.processes.now) c.args.line.now c.in_ok-word.word.now c.in_ok-word.operands.now cut.0 cut.1 c.in_err-verb.ensures)

pub returns : goal.returns
returns c =
    let cut = c.in_ok-word.ensures in
    order_reads (names_of c.args.processes.now) c.args.line.now c.in_ok-word.word.now c.in_ok-word.operands.now cut.0 cut.1 c.in_ok-verb.verb c.with_operands.result c.in_ok-verb.ensures c.with_operands.ensures
