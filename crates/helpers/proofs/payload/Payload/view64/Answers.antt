use Rattle.std.proofs.Common.{◌∙◌, ap}
use Rattle.helpers.specs.Payload.{view64}
use Rattle.helpers.proofs.Filled.{view_of}
use Rattle.helpers.proofs.payload.Payload.view64.Goals as goal

pub returns : goal.returns
returns c =
    c.in-Some.ensures.cases.same ∙ view_of c.self.inside.len c.self.inside.bytes c.self.invariant ∙ ap view64 c.self.view_is
