use Rattle.std.proofs.Common.{◌∙◌, sym}
use Rattle.assemble.proofs.Texts.{one_list}
use Rattle.assemble.proofs.laws.one_list.Goals as goal

pub returns : goal.returns
returns c = λ text is js p q. one_list is js (sym p ∙ q)
