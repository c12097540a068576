use Rattle.std.proofs.Common.{refl}
use Rattle.world.specs.declared.call.Call.TheVariants.{Input}
use Rattle.world.specs.declared.answer.Answer.TheVariants.{Logged}
use Rattle.workers.proofs.Continuation.{continues-one}
use Rattle.workers.proofs.turn.take_feed.Goals as goal

pub returns-in-Ok-clause-session : goal.returns-in-Ok-clause-session
returns-in-Ok-clause-session g c =
    let feed = c.in-Some.feed in
    continues-one c.args.session.now c.input.new.self c.args.seat.now c.input.new.by (Input feed.dst feed.number feed.payload) (Logged c.in-Ok.field-0) c.in-Ok.ensures.adds refl
