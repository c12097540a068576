use Rattle.std.proofs.Common.{◌≡◌, ◌+◌, List, ◌++◌, [], ◌∷◌, ap, sym, ◌∙◌, take, map, subst, arith}
use Rattle.std.proofs.lemmas.Grind.{common_steps}
use Rattle.std.specs.List.{flat_map, AllByRecursion}
use Rattle.std.proofs.lemmas.List.{flat_map_more, map-append, take_more}
use Rattle.node.specs.Queue.{TheQueue}
use Rattle.node.specs.Suspension.{codes_of, codes_bytes, IsWhole}
use Rattle.node.proofs.Counts.{all-more}
use Rattle.node.proofs.suspension.put_logs.Goals as goal

pub loop-log-preserved : goal.loop-log-preserved
loop-log-preserved c =
    let logs = c.args.logs.now in
    let log = c.log-item.result in
    let before = c.args.out.now.items in
    let first : List TheQueue = take c.loop-log.log-index logs in
    let more : take (c.loop-log.log-index + 1) logs ≡ first ++ log ∷ [] = take_more logs c.loop-log.log-index log c.loop-log-test.true ∙ ap (λ q. first ++ q ∷ []) (sym c.log-item.is) in
    record {
      value = c.in_ok-put_codes.ensures.value ∙ ap (λ bs. bs ++ codes_bytes (codes_of log)) c.loop-log.invariant.value ∙ flat_map_more codes_bytes before (map codes_of first) (codes_of log)
          ∙ ap (λ qs. before ++ flat_map codes_bytes qs) (sym (map-append codes_of first (log ∷ []))) ∙ ap (λ qs. before ++ flat_map codes_bytes (map codes_of qs)) (sym more);
      whole = subst (AllByRecursion IsWhole) (sym more) (all-more IsWhole first log c.loop-log.invariant.whole c.in_ok-put_codes.ensures.whole);
    }

pub returns-clause-value : goal.returns-clause-value
returns-clause-value c = grind (arith, common_steps)

pub returns-clause-whole : goal.returns-clause-whole
returns-clause-whole c = grind (arith, common_steps)
