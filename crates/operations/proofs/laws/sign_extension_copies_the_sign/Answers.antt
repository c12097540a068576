use Rattle.operations.proofs.WordLemmas.{bit_at-extended_from-high, bit_at-extended_from-low}
use Rattle.operations.proofs.laws.sign_extension_copies_the_sign.Goals as goal

pub returns-clause-low : goal.returns-clause-low
returns-clause-low c = bit_at-extended_from-low

pub returns-clause-high : goal.returns-clause-high
returns-clause-high c = bit_at-extended_from-high
