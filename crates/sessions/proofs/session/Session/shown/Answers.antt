use Rattle.sessions.proofs.session.Session.shown.Goals as goal

pub returns-clause-no_orphan : goal.returns-clause-no_orphan
returns-clause-no_orphan g c = rw (← c.self.view_is) c.shown.ensures.no_orphan

pub returns-clause-output_once : goal.returns-clause-output_once
returns-clause-output_once g c = rw (← c.self.view_is) c.shown.ensures.output_once
