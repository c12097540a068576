use Rattle.operations.proofs.Bounds.{result_of_32_below, result_of_below}
use Rattle.operations.proofs.laws.results_are_words.Goals as goal

pub returns-clause-whole : goal.returns-clause-whole
returns-clause-whole c = result_of_below

pub returns-clause-half : goal.returns-clause-half
returns-clause-half c = result_of_32_below
