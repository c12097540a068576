use Rattle.operations.proofs.BitLemmas.{bit_at-and, bit_at-or, bit_at-xor}
use Rattle.operations.proofs.laws.results_by_bits.Goals as goal

pub returns-clause-and : goal.returns-clause-and
returns-clause-and c = bit_at-and

pub returns-clause-or : goal.returns-clause-or
returns-clause-or c = bit_at-or

pub returns-clause-xor : goal.returns-clause-xor
returns-clause-xor c = bit_at-xor
