use Rattle.std.proofs.Common.{◌∙◌, sym}
use Rattle.assemble.proofs.Pairs.{name_is}
use Rattle.assemble.proofs.operands.register_of.Goals as goal

pub returns-in-Some : goal.returns-in-Some
returns-in-Some c = (c.in-Some.ensures ∙ name_is c.in-Some.register, tt)

pub returns-in-None : goal.returns-in-None
returns-in-None c = λ r e. c.in-None.ensures r (e ∙ sym (name_is r))
