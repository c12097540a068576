use Rattle.sessions.proofs.HandlerLemmas.{handlers-grow, handlers-start}
use Rattle.sessions.proofs.fold.handlers_grow.Goals as goal

pub returns-clause-grow : goal.returns-clause-grow
returns-clause-grow c = handlers-grow

pub returns-clause-start : goal.returns-clause-start
returns-clause-start c = handlers-start
