use Rattle.std.proofs.Common.{sym, ap, ◌∙◌}
use Rattle.operations.specs.Conditions.{compared}
use Rattle.operations.proofs.BitLemmas.{and-test}
use Rattle.operations.proofs.word.holds.Goals as goal

pub returns-in-Set : goal.returns-in-Set
returns-in-Set c = and-test 32 c.args.a c.args.b c.ranges.a.fits ∙ ap (λ o. compared o 32 c.args.a c.args.b) (sym c.in-Set.is)
