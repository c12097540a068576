use Rattle.std.proofs.Common.{◌<◌, length, rules}
use Rattle.diagram.proofs.MarkLemmas.{has_one_more}
use Rattle.diagram.proofs.marks.push_marks.Goals as goal

pub loop-column-preserved : goal.loop-column-preserved
loop-column-preserved c =
    let within : c.loop-column.column < length c.args.columns.now = search rules in
    let shown = c.index-columns-column.result in
    has_one_more c.args.processes c.args.entries.now c.args.columns.now c.loop-column.column shown shown _ _ _ within c.index-columns-column.is
    c.loop-column.invariant c.in_ok-push_column_mark.ensures
