use Rattle.std.proofs.Common.{rules}
use Rattle.verifier.proofs.span.sums.move_rule.Goals as goal

pub returns-in-W64 : goal.returns-in-W64
returns-in-W64 c = search (rules, c.near_rule.ensures c.in-Place.field-0)
