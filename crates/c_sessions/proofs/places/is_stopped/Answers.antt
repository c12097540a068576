use Rattle.c_sessions.proofs.PlaceLemmas.{is-done, is-stopped}
use Rattle.c_sessions.proofs.places.is_stopped.Goals as goal

pub returns-clause-yes : goal.returns-clause-yes
returns-clause-yes c = rw c.is_some.ensures (is-stopped c.args.service.now c.outstanding.result c.outstanding.ensures.some)

pub returns-clause-no : goal.returns-clause-no
returns-clause-no c = rw c.is_some.ensures (is-done c.args.service.now c.outstanding.result c.outstanding.ensures.none)
