use Rattle.std.proofs.Common.{List, map, subst}
use Rattle.std.proofs.lemmas.Result.{IfOk-weaker}
use Rattle.interp.specs.Image.{image_in}
use Rattle.scenario.specs.declared.scenario.Step.{Step}
use Rattle.runner.specs.Run.{IsChronicle}
use Rattle.runner.specs.declared.chronicle.Chronicle.{Chronicle}
use Rattle.runner.proofs.chronicle.chronicle_of.Goals as goal

pub returns : goal.returns
returns c =
    let images = map image_in c.args.images.items in
    let told : List Step → Chronicle → Type 0 = λ steps it. IsChronicle images steps it.entries.items it.moments.items it.sent.items it.shown.items in
    IfOk-weaker c.chronicle.result _ _ (λ it all. subst (λ steps. told steps it) c.as_slice.ensures.value (all images c.in_ok-player.ensures)) c.chronicle.ensures
