use Rattle.std.proofs.Common.{◌∙◌}
use Rattle.assemble.proofs.Pairs.{name_is, source_refused}
use Rattle.assemble.proofs.operands.source_of.Goals as goal

pub returns-in-Some : goal.returns-in-Some
returns-in-Some c = (c.in-Some.ensures ∙ name_is c.in-Some.register, tt)

pub returns-in-Err : goal.returns-in-Err
returns-in-Err c = source_refused c.args.text.now c.in-Err.fault c.in_default.ensures c.in-Err.ensures
