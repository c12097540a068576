use Rattle.std.proofs.Common.{None, refl}
use Rattle.diagram.specs.Columns.{behind, unmoved}
use Rattle.diagram.specs.Models.{run_of}
use Rattle.diagram.proofs.ColumnLemmas.{one_more_moment}
use Rattle.diagram.proofs.columns.columns.Goals as goal

pub loop-moment-preserved : goal.loop-moment-preserved
loop-moment-preserved c =
    one_more_moment (behind c.args.only_messages (run_of c.args.run.now)) unmoved (run_of c.args.run.now).moments c.loop-moment.moment-index (0, None) _ _ _ c.loop-moment-test.true
    refl c.loop-moment.invariant c.in_ok-pass.ensures
