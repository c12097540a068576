use Rattle.std.proofs.Common.{ap, rules}
use Rattle.std.proofs.lemmas.Result.{err_from_is_err_and}
use Rattle.elf.proofs.ObjectLemmas.{first_row, more_rows, row_unread}
use Rattle.elf.proofs.finder.push_functions.Goals as goal

pub loop-row-init : goal.loop-row-init
loop-row-init c = first_row c.args.file.now c.args.table.now c.args.functions.now.items

pub loop-row-preserved : goal.loop-row-preserved
loop-row-preserved c =
    more_rows c.args.file.now c.args.table.now c.loop-row.row c.args.functions.now.items c.loop-row.functions.items c.push_function.new.functions.items
    c.in-Some-Some.names.offset c.split_at-in-loop-row.result.0.now c.loop-row.invariant (search rules) (ap (λ s. s.offset) c.in-Some-Some.ensures'.section) (search rules)

pub returns-in_err-push_function-clause-fault : goal.returns-in_err-push_function-clause-fault
returns-in_err-push_function-clause-fault c =
    let p = err_from_is_err_and c.from_residual.result c.from_residual.ensures.1 in
    rw (p.1, p.2) (
    row_unread c.args.file.now c.args.table.now c.loop-row.row c.in-Some-Some.names.offset c.split_at-in-loop-row.result.0.now c.in_err-push_function.field-0.0
    (search rules) (search rules) (ap (λ s. s.offset) c.in-Some-Some.ensures'.section) (search rules) c.in_err-push_function.ensures.fault
    )
