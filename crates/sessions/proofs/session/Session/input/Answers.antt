use Rattle.std.proofs.Common.{refl}
use Rattle.world.specs.declared.call.Call.TheVariants.{Input}
use Rattle.sessions.specs.Journal.{world_at}
use Rattle.sessions.proofs.Steps.{may-free}
use Rattle.sessions.proofs.session.Session.input.Goals as goal

pub number-requires-clause-may : goal.number-requires-clause-may
number-requires-clause-may g c =
    let feed = c.args.feed.now in
    may-free (world_at c.args.self.now) c.args.by.now.worker (Input feed.dst feed.number feed.payload) refl
