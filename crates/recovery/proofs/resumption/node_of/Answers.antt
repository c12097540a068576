use Rattle.std.proofs.Common.{rules, ◌≡◌, ◌∙◌, List, map, ap, arith}
use Rattle.std.proofs.lemmas.Grind.{common_steps}
use Rattle.node.specs.Queue.{TheQueue}
use Rattle.node.specs.Suspension.{joined_by, numbered_by}
use Rattle.recovery.specs.Own.{TheOwn}
use Rattle.recovery.specs.Resumption.{is_set, made}
use Rattle.recovery.proofs.Resumptions.{none_received, woken-own, woken-replayed, released-still}
use Rattle.recovery.proofs.resumption.node_of.Goals as goal

pub new-requires-2 : goal.new-requires-2
new-requires-2 c =
    let k = c.args.kept.now in
    let r = c.args.rest.now in
    let own : c.wake.new.self ≡ woken-own c.args.limits k r = c.wake.ensures ∙ ap (λ (o : TheOwn). record o { logs = joined_by numbered_by r.codes o.logs; heard = r.heard; exact = is_set r.exact }) c.in_ok-own.ensures in
    let receipts : c.in_ok-receipts.receipts ≡ none_received = first_of (search rules, grind (arith, common_steps)) in
    rw (own, receipts) (woken-replayed c.args.limits k r c.requires.limits c.requires.parts)

pub returns : goal.returns
returns c =
    let k = c.args.kept.now in
    let r = c.args.rest.now in
    let own : c.wake.new.self ≡ woken-own c.args.limits k r = c.wake.ensures ∙ ap (λ (o : TheOwn). record o { logs = joined_by numbered_by r.codes o.logs; heard = r.heard; exact = is_set r.exact }) c.in_ok-own.ensures in
    let receipts : c.in_ok-receipts.receipts ≡ none_received = first_of (search rules, grind (arith, common_steps)) in
    let resumed : c.in_ok-resumed.resumed.items ≡ map is_set r.resumed = first_of (search rules, grind (arith, common_steps)) in
    rw (c.into_node.ensures, c.new-2.ensures, own, receipts, resumed)
    (ap (λ (qs : List TheQueue). record (made c.args.limits k r) { logs = qs }) (released-still c.args.limits.durable r.codes k.me k.logs))

pub into_node-requires : goal.into_node-requires
into_node-requires c = grind (arith, common_steps)
