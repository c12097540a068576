use Rattle.spans.proofs.Closed.{closed}
use Rattle.spans.proofs.laws.frames_stay_frames.Goals as goal

pub returns : goal.returns
returns c = closed
