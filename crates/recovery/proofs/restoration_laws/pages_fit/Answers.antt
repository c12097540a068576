use Rattle.recovery.proofs.Fits.{pages-fit}
use Rattle.recovery.proofs.restoration_laws.pages_fit.Goals as goal

pub returns : goal.returns
returns c = pages-fit
