use Rattle.cluster.proofs.DeathRuns.{all-have-to-answer}
use Rattle.cluster.proofs.deaths.all_have_to_answer.Goals as goal

pub returns : goal.returns
returns c = all-have-to-answer
