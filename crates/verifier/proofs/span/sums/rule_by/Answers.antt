use Rattle.std.proofs.Common.{rules}
use Rattle.verifier.proofs.span.sums.rule_by.Goals as goal

pub returns : goal.returns
returns c = λ region. search (rules, c.near_rule.ensures region)
