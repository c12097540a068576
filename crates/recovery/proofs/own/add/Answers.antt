use Rattle.std.proofs.Common.{rules, ◌≡◌, ◌+◌, [], ◌∷◌, ◌++◌, take, ap, sym, ◌∙◌, append_assoc, arith}
use Rattle.std.proofs.lemmas.Grind.{common_steps, elements}
use Rattle.std.proofs.lemmas.List.{take_more, map-append}
use Rattle.recovery.specs.Own.{queue_of}
use Rattle.recovery.proofs.own.add.Goals as goal

pub loop-log-preserved : goal.loop-log-preserved
loop-log-preserved c =
    let logs = c.args.logs.now in
    let i = c.loop-log.log-index in
    let log = c.log-item.result in
    let queue : c.in_ok-queue.queue ≡ queue_of log = first_of (search rules, grind (arith, common_steps)) in
    let more : take (i + 1) logs ≡ take i logs ++ log ∷ [] = take_more logs i log c.loop-log-test.true ∙ ap (λ l. take i logs ++ l ∷ []) (sym c.log-item.is) in
    rw (c.in_ok-push.ensures.items, queue, c.loop-log.invariant, more) (simp (append_assoc, map-append))

pub kept-requires-clause-some : goal.kept-requires-clause-some
kept-requires-clause-some c = grind (arith, elements)

pub kept-requires-clause-room : goal.kept-requires-clause-room
kept-requires-clause-room c = grind (arith, elements)

pub returns : goal.returns
returns c = grind (arith, common_steps)
