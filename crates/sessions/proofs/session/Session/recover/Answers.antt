use Rattle.sessions.proofs.Numbers.{recovers}
use Rattle.sessions.proofs.session.Session.recover.Goals as goal

pub returns-clause-exactly : goal.returns-clause-exactly
returns-clause-exactly g c = recovers c.number.result c.args.self.now c.number.new.self c.args.p c.number.ensures.exactly
