use Rattle.std.proofs.Common.{◌∙◌, List, ℕ, ap, subst, sym}
use Rattle.std.specs.Arc.{arc_value}
use Rattle.interp.specs.Handler.{image_of}
use Rattle.verifier.specs.declared.any_image.AnyImage.{AnyImage}
use Rattle.process.specs.Job.{TheJob, IsLaid}
use Rattle.process.specs.declared.job.HandlerJob.TheInside.{Inside}
use Rattle.process.proofs.job.HandlerJob.lay.Goals as goal

pub returns-in-Flat : goal.returns-in-Flat
returns-in-Flat c =
    let array = c.lay_flat.new.array in
    let call = c.self-inside.inside.0.0 in
    let same = ap image_of (sym c.in-Flat.is ∙ c.deref.ensures) in
    let laid = subst (λ (x : AnyImage). IsLaid x c.as_slice-state.result.now call.payload array) same c.lay_flat.ensures in
    let whole = subst (λ (s : List ℕ). IsLaid (image_of (arc_value call.image)) s call.payload array) c.as_slice-state.ensures.value laid in
    let job = ap (λ (inside : Inside). inside.call) c.self-inside.view_is ∙ c.self.view_is in
    subst (λ (j : TheJob). IsLaid j.image j.state j.payload array) job whole
