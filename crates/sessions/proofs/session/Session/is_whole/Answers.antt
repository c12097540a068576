use Rattle.std.proofs.Common.{rules}
use Rattle.sessions.proofs.session.Session.is_whole.Goals as goal

pub returns-clause-whole : goal.returns-clause-whole
returns-clause-whole g c = rw (← c.self.view_is) (search rules, search rules)
