use Rattle.std.proofs.Common.{rules, ◌≡◌, ◌<◌, length, take, min, ap, sym, ◌∙◌, arith}
use Rattle.std.specs.Prelude.{Some, slice_get, slice_index_or, slice_set}
use Rattle.std.proofs.lemmas.Grind.{common_steps}
use Rattle.std.proofs.lemmas.List.{length-set, length-take, get_or_default}
use Rattle.node.specs.Queue.{no_queue, appended}
use Rattle.node.specs.Node.{given_to, log_at}
use Rattle.node.proofs.Logs.{get-is, get-taken, given-more, given-length, given-room}
use Rattle.node.proofs.commit.log.Goals as goal

pub index_mut-requires : goal.index_mut-requires
index_mut-requires c =
    let given = c.args.given.now in
    let g = c.index-given-done.result in
    let inside : c.loop-done.done < length given = first_of (omega arith, search rules) in
    let is : g ≡ slice_index_or given c.loop-done.done g = search rules in
    let wide : length c.loop-done.logs.items ≡ length c.args.logs.now.items = ap length c.loop-done.invariant ∙ given-length c.args.number (take c.loop-done.done given) c.args.logs.now.items in
    omega (arith, wide, c.requires.to c.loop-done.done g (get-is given c.loop-done.done g inside is), c.loop-done.logs.ok)

pub append-requires : goal.append-requires
append-requires c =
    let given = c.args.given.now in
    let g = c.index-given-done.result in
    let old = c.args.logs.now.items in
    let inside : c.loop-done.done < length given = first_of (omega arith, search rules) in
    let is : g ≡ slice_index_or given c.loop-done.done g = search rules in
    let to = c.requires.to c.loop-done.done g (get-is given c.loop-done.done g inside is) in
    let wide : length c.loop-done.logs.items ≡ length old = ap length c.loop-done.invariant ∙ given-length c.args.number (take c.loop-done.done given) old in
    let at : c.index_mut.result.now ≡ log_at (given_to c.args.number (take c.loop-done.done given) old) g.to =
    c.index_mut.ensures.value ∙ get_or_default c.loop-done.logs.items g.to c.index_mut.result.now no_queue (omega (arith, wide, to)) ∙ ap (λ l. log_at l g.to) c.loop-done.invariant in
    let room = given-room c.args.number (take c.loop-done.done given) old g.to (λ i s e. c.requires.to i s (get-taken c.loop-done.done given i s e)) in
    let many : length (take c.loop-done.done given) ≡ min c.loop-done.done (length given) = length-take c.loop-done.done given in
    record { room = omega (arith, ap (λ q. q.dropped) at, ap (λ q. length q.payloads) at, room, many, inside, c.requires.few, c.requires.room g.to) }

pub unlog-requires : goal.unlog-requires
unlog-requires c =
    let given = c.args.given.now in
    let old = c.args.logs.now.items in
    let wide : length c.loop-done.logs.items ≡ length old = ap length c.loop-done.invariant ∙ given-length c.args.number (take c.loop-done.done given) old in
    record { to = λ i s e. omega (arith, wide, length-set c.loop-done.logs.items c.index-given-done.result.to c.append.new.self, c.requires.to i s (get-taken c.loop-done.done given i s e)) }

pub loop-done-preserved : goal.loop-done-preserved
loop-done-preserved c =
    let given = c.args.given.now in
    let g = c.index-given-done.result in
    let old = c.args.logs.now.items in
    let less = given_to c.args.number (take c.loop-done.done given) old in
    let inside : c.loop-done.done < length given = first_of (omega arith, search rules) in
    let is : g ≡ slice_index_or given c.loop-done.done g = search rules in
    let get : slice_get given c.loop-done.done ≡ Some g = get-is given c.loop-done.done g inside is in
    let to = c.requires.to c.loop-done.done g get in
    let wide : length c.loop-done.logs.items ≡ length old = ap length c.loop-done.invariant ∙ given-length c.args.number (take c.loop-done.done given) old in
    let at : c.index_mut.result.now ≡ log_at less g.to =
    c.index_mut.ensures.value ∙ get_or_default c.loop-done.logs.items g.to c.index_mut.result.now no_queue (omega (arith, wide, to)) ∙ ap (λ l. log_at l g.to) c.loop-done.invariant in
    let new : c.append.new.self ≡ appended g.payload c.args.number c.index_mut.result.now = first_of (search rules, grind (arith, common_steps)) in
    let logged_is : c.append.new.self ≡ appended g.payload c.args.number (log_at less g.to) = new ∙ ap (appended g.payload c.args.number) at in
    ap (λ q. slice_set c.loop-done.logs.items g.to q) logged_is ∙ ap (λ l. slice_set l g.to (appended g.payload c.args.number (log_at less g.to))) c.loop-done.invariant ∙ sym (given-more c.args.number given c.loop-done.done g old inside get)
