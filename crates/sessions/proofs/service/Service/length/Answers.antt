use Rattle.std.proofs.Common.{◌≡◌, subst, map}
use Rattle.interp.specs.Image.{image_in}
use Rattle.world.specs.Logs.{length_of}
use Rattle.sessions.specs.Journal.{TheSession, world_at}
use Rattle.sessions.proofs.Steps.{here}
use Rattle.sessions.proofs.service.Service.length.Goals as goal

pub returns : goal.returns
returns c =
    let m = c.self.inside.machine in
    let es = c.self.inside.journal.entries in
    let P : TheSession → Type 0 = λ s. c.length.result ≡ length_of (world_at s) c.args.p in
    subst P c.self.view_is (c.length.ensures (here (map image_in c.self.inside.images.items) es) c.self.invariant.0.leads)
