use Rattle.operations.proofs.BitLemmas.{common_bit}
use Rattle.operations.proofs.laws.jset_is_a_common_bit.Goals as goal

pub returns : goal.returns
returns c = common_bit
