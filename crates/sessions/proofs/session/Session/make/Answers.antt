use Rattle.sessions.specs.Journal.{room_at, world_at}
use Rattle.sessions.proofs.Driven.{may-pick}
use Rattle.sessions.proofs.session.Session.make.Goals as goal

pub call-requires-clause-may : goal.call-requires-clause-may
call-requires-clause-may g c = may-pick (world_at c.args.self.now) (room_at c.args.self.now) c.args.by.now.worker c.args.call.now c.requires.pick
