use Rattle.std.proofs.Common.{◌<◌, length, arith, ◌∙◌}
use Rattle.std.specs.Prelude.{None}
use Rattle.std.proofs.lemmas.List.{get_or_default}
use Rattle.sessions.proofs.SeatLemmas.{sits}
use Rattle.sessions.proofs.session.Session.sit.Goals as goal

pub returns-clause-worker : goal.returns-clause-worker
returns-clause-worker g c =
    let items = c.self.inside.seats.items in
    let inside : c.args.worker < length items = omega (arith, c.if-place-len.false, c.len.ensures) in
    sits items c.args.worker c.take.result c.self.invariant.0 (c.take.ensures.value ∙ c.index_mut.ensures.value ∙ get_or_default items c.args.worker _ None inside)
