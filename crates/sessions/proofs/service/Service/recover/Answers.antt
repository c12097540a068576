use Rattle.sessions.proofs.Numbers.{recovers}
use Rattle.sessions.proofs.service.Service.recover.Goals as goal

pub returns-clause-exactly : goal.returns-clause-exactly
returns-clause-exactly c = recovers c.number.result c.args.self.now c.number.new.self c.args.p c.number.ensures.exactly
