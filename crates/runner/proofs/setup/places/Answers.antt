use Rattle.std.proofs.Common.{◌∙◌, ◌++◌, ◌∷◌, [], List, ap}
use Rattle.std.specs.Prelude.{None, Option}
use Rattle.std.proofs.lemmas.List.{replicate_more}
use Rattle.sessions.specs.Job.{TheJob}
use Rattle.runner.proofs.setup.places.Goals as goal

pub loop-place-preserved : goal.loop-place-preserved
loop-place-preserved c =
    c.in_ok-push.ensures.items ∙ ap (λ (held : List (Option TheJob)). held ++ None ∷ []) c.loop-place.invariant ∙ replicate_more c.loop-place.place None
