use Rattle.std.proofs.Common.{refl}
use Rattle.c_cluster.proofs.gateways.calls.hear.Goals as goal

pub returns-in-Ok : goal.returns-in-Ok
returns-in-Ok c =
    let x = c.in-Ok.ensures.found in
    ((x.0, x.1, c.in-Ok.ensures.value x.0 x.1, c.in-Ok.ensures.since, c.in-Ok.ensures.acts x.0 x.1), refl)
