use Rattle.std.proofs.Common.{rules, IsTrue, arith}
use Rattle.std.proofs.lemmas.Grind.{common_steps}
use Rattle.c_handles.proofs.Bundles.{Fronts, is_all, none_left}
use Rattle.c_cluster.proofs.gateways.calls.receive_all.Goals as goal

pub returns-clause-received : goal.returns-clause-received
returns-clause-received c =
    let s = c.hear_front.ensures in
    let bytes = c.args.bundle.now in
    let yes : IsTrue c.is_bundle.result = first_of (search rules, grind (arith, common_steps)) in
    let is = c.is_bundle.ensures.0 yes in
    let front : Fronts s.packets bytes s.rest = record { each = s.each; joined = s.joined } in
    (s.packets, is_all s.packets bytes s.rest front (none_left s.packets is.0 bytes s.rest front s.none is.1), search (rules, s.done))
