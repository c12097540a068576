use Rattle.std.proofs.Common.{IfOk, ℕ, string_bytes, subst}
use Rattle.diagram.specs.Marks.{HasPart, marks_from}
use Rattle.diagram.proofs.page.drawing.Goals as goal

pub returns : goal.returns
returns c =
    subst (λ (n : ℕ). IfOk c.joined.result (λ text. HasPart (marks_from n c.args.entries.now 0 c.args.columns.now) (string_bytes text))) c.lane_count-count.ensures c.joined.ensures
