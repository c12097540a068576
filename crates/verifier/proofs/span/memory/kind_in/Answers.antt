use Rattle.std.proofs.Common.{sym, arith}
use Rattle.std.proofs.lemmas.List.{get_or_past}
use Rattle.spans.specs.declared.kind.SpanKind.TheVariants.{Unset}
use Rattle.verifier.proofs.span.memory.kind_in.Goals as goal

pub returns-else-cell-lt75 : goal.returns-else-cell-lt75
returns-else-cell-lt75 c =
    let n = c.args.frame.now.whole in
    sym (get_or_past c.args.frame.now.kinds c.args.cell Unset (omega (arith, n)))
