use Rattle.std.proofs.Common.{◌∙◌, ap, map}
use Rattle.live.specs.Inside.{ended_of}
use Rattle.live.proofs.run.tell_closed.Goals as goal

pub returns-clause-ended : goal.returns-clause-ended
returns-clause-ended g c = c.in_ok-ended.ensures ∙ ap (map ended_of) c.as_slice.ensures.value
