use Rattle.spans.proofs.Fits.{preserves}
use Rattle.spans.proofs.laws.steps_fit.Goals as goal

pub returns : goal.returns
returns c = preserves
