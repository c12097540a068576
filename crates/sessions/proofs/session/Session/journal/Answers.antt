use Rattle.sessions.proofs.session.Session.journal.Goals as goal

pub returns-clause-kept : goal.returns-clause-kept
returns-clause-kept g c = rw (← c.self.view_is) c.journal.ensures.kept

pub returns-clause-no_orphan : goal.returns-clause-no_orphan
returns-clause-no_orphan g c = rw (← c.self.view_is) c.journal.ensures.no_orphan

pub returns-clause-output_once : goal.returns-clause-output_once
returns-clause-output_once g c = rw (← c.self.view_is) c.journal.ensures.output_once
