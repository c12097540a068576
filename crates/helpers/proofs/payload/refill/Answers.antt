use Rattle.std.proofs.Common.{rules, arith}
use Rattle.std.proofs.lemmas.List.{same_lists, places}
use Rattle.helpers.proofs.Filled.{zero_behind}
use Rattle.helpers.proofs.payload.refill.Goals as goal

pub returns-then-len-used : goal.returns-then-len-used
returns-then-len-used c =
    let zeros = c.fill.ensures.after (λ y e. search rules) in
    same_lists _ _ (search (rules, places, zeros)) (λ k d h. grind (arith, places, zeros, zero_behind c.args.used c.args.places.now c.requires.used k d))

pub returns-else-len-used : goal.returns-else-len-used
returns-else-len-used c =
    same_lists _ _ (search (rules, places)) (λ k d h. grind (arith, places, zero_behind c.args.used c.args.places.now c.requires.used k d))
