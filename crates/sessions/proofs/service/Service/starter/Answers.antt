use Rattle.std.proofs.Common.{◌≡◌, map, subst}
use Rattle.interp.specs.Image.{image_in}
use Rattle.sessions.specs.Fields.{starter}
use Rattle.sessions.specs.Journal.{TheSession, world_at}
use Rattle.sessions.proofs.Steps.{here}
use Rattle.sessions.proofs.service.Service.starter.Goals as goal

pub returns-in-Arrive : goal.returns-in-Arrive
returns-in-Arrive c =
    let w = here (map image_in c.self.inside.images.items) c.self.inside.journal.entries in
    let P : TheSession → Type 0 = λ s. c.receiver.result ≡ starter (world_at s) c.args.call.now in
    subst P c.self.view_is (rw c.in-Arrive.is (c.receiver.ensures w c.self.invariant.0.leads))
