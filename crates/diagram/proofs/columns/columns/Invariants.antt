use Rattle.std.proofs.Common.{◌≡◌, fold, take}
use Rattle.diagram.specs.Columns.{behind, unmoved}
use Rattle.diagram.specs.Models.{column_state_of, run_of}
use Rattle.diagram.proofs.columns.columns.Given as goal

abbrev pub invariant-loop-moment : goal.invariant-loop-moment
invariant-loop-moment l = column_state_of l.state ≡ fold (behind l.only_messages (run_of l.run)) unmoved (take l.moment-index (run_of l.run).moments)
