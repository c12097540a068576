use Rattle.std.proofs.Common.{rules, ◌≡◌, ◌<◌, ◌+◌, ◌-◌, List, length, take, ap, sym, ◌∙◌, arith, slice_set}
use Rattle.std.specs.Prelude.{Some, slice_get, slice_index_or}
use Rattle.std.proofs.lemmas.List.{length-set, get_or_default}
use Rattle.node.specs.Queue.{TheQueue, no_queue, appended, retracted}
use Rattle.node.specs.Node.{given_to, log_at}
use Rattle.node.proofs.Logs.{back-again, get-is, given-more}
use Rattle.node.proofs.commit.unlog.Goals as goal

pub loop-done-preserved : goal.loop-done-preserved
loop-done-preserved c =
    let given = c.args.given.now in
    let logs = c.loop-done.logs.items in
    let g = c.index-given-given.result in
    let i = length given - 1 - c.loop-done.done in
    let inside : c.loop-done.done < length given = first_of (omega arith, search rules) in
    let is : g ≡ slice_index_or given i g = search rules in
    let at : slice_get given i ≡ Some g = get-is given i g (omega (arith, inside)) is in
    let to : g.to < length logs = omega (arith, c.requires.to i g at, c.loop-done.invariant.wide) in
    let was_at : c.index_mut.result.now ≡ log_at logs g.to = c.index_mut.ensures.value ∙ get_or_default logs g.to c.index_mut.result.now no_queue to in
    let new : c.retract.new.self ≡ retracted (log_at logs g.to) = c.retract.ensures ∙ ap retracted was_at in
    let before : length given - c.loop-done.done ≡ i + 1 = omega (arith, inside) in
    let after : length given - (c.loop-done.done + 1) ≡ i = omega arith in
    record {
      back = λ was number e.
          let less = given_to number (take i given) was in
          let here : logs ≡ slice_set less g.to (appended g.payload number (log_at less g.to)) =
          c.loop-done.invariant.back was number e ∙ ap (λ k. given_to number (take k given) was) before ∙ given-more number given i g was (omega (arith, inside)) at in
          let many : length logs ≡ length less = ap length here ∙ length-set less g.to (appended g.payload number (log_at less g.to)) in
          ap (slice_set logs g.to) new ∙ ap (λ (l : List TheQueue). slice_set l g.to (retracted (log_at l g.to))) here ∙ back-again less g.to g.payload number (omega (arith, to, many))
          ∙ ap (λ k. given_to number (take k given) was) (sym after);
      wide = length-set logs g.to c.retract.new.self ∙ c.loop-done.invariant.wide;
    }
