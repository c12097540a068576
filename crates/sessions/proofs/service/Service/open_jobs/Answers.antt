use Rattle.std.proofs.Common.{◌≡◌, sym, subst, ◌∙◌, map}
use Rattle.interp.specs.Image.{image_in}
use Rattle.world.specs.Bounds.{open_jobs}
use Rattle.machine.proofs.Status.{jobs}
use Rattle.sessions.specs.Journal.{TheSession, world_at}
use Rattle.sessions.proofs.Steps.{here}
use Rattle.sessions.proofs.service.Service.open_jobs.Goals as goal

pub returns : goal.returns
returns c =
    let m = c.self.inside.machine in
    let es = c.self.inside.journal.entries in
    let P : TheSession → Type 0 = λ s. c.open_jobs.result ≡ open_jobs (world_at s) in
    subst P c.self.view_is (c.open_jobs.ensures.value ∙ sym (jobs m (here (map image_in c.self.inside.images.items) es) c.self.invariant.0.leads))
