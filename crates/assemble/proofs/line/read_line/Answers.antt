use Rattle.assemble.proofs.Lines.{has_line, no_word, no_shape, no_range}
use Rattle.assemble.proofs.line.read_line.Goals as goal

pub returns-in-Ok-clause-found : goal.returns-in-Ok-clause-found
returns-in-Ok-clause-found c =
    let parts = c.split_line.ensures in
    (c.in-Ok.ensures.1, has_line c.args.line.now c.split_line.result.0.now c.split_line.result.1 parts.whole parts.first c.in-Some.mnemonic c.in-Some.ensures c.in-Ok.insn c.in-Ok.ensures.0)

pub returns-in_default-clause-refused : goal.returns-in_default-clause-refused
returns-in_default-clause-refused c =
    let parts = c.split_line.ensures in
    no_word c.args.line.now c.split_line.result.0.now c.split_line.result.1 parts.whole parts.first c.in_default.ensures

pub returns-in-Err-Shape-clause-refused : goal.returns-in-Err-Shape-clause-refused
returns-in-Err-Shape-clause-refused c =
    let parts = c.split_line.ensures in
    let refused = rw c.in-Err-Shape.field-0-is at c.in-Err-Shape.ensures in
    no_shape c.args.line.now c.split_line.result.0.now c.split_line.result.1 parts.whole parts.first c.in-Some.mnemonic c.in-Some.ensures refused

pub returns-in-Err-Range-clause-refused : goal.returns-in-Err-Range-clause-refused
returns-in-Err-Range-clause-refused c =
    let parts = c.split_line.ensures in
    let refused = rw c.in-Err-Range.field-0-is at c.in-Err-Range.ensures in
    no_range c.args.line.now c.split_line.result.0.now c.split_line.result.1 parts.whole parts.first c.in-Some.mnemonic c.in-Some.ensures refused
