use Rattle.std.proofs.Common.{◌≡◌, ◌∙◌, ◌+◌, ◌++◌, ◌∷◌, [], List, ap, subst, sym, take}
use Rattle.std.proofs.lemmas.List.{take_more}
use Rattle.scenario.specs.declared.scenario.Step.{Step}
use Rattle.runner.specs.Inside.{AreNoted, notes_of, position_of}
use Rattle.runner.proofs.Played.{noted-more}
use Rattle.runner.proofs.player.Player.tell_all.Goals as goal

pub loop-step-preserved : goal.loop-step-preserved
loop-step-preserved c =
    let k = c.loop-step.step-index in
    let steps = c.args.steps.now in
    let step = c.step-item.result in
    let old = position_of c.args.self.now in
    let more : take (k + 1) steps ≡ take k steps ++ step ∷ [] = take_more steps k step c.loop-step-test.true ∙ ap (λ x. take k steps ++ x ∷ []) (sym c.step-item.is) in
    subst (λ (xs : List Step). AreNoted xs old (position_of c.tell.new.self) (notes_of c.tell.new.notes)) (sym more)
    (noted-more old (position_of c.loop-step.self) (position_of c.tell.new.self) (take k steps) step (notes_of c.loop-step.notes) (notes_of c.tell.new.notes) c.loop-step.invariant c.in_ok-tell.ensures)
