use Rattle.std.proofs.Common.{map, refl}
use Rattle.interp.specs.Image.{image_in}
use Rattle.sessions.proofs.Steps.{opened}
use Rattle.sessions.proofs.service.Service.open.Goals as goal

pub invariant_of-result : goal.invariant_of-result
invariant_of-result c =
    let is = map image_in c.args.images.items in
    let o = rw (c.in_ok-lengths.ensures.values, c.as_slice.ensures.value) at c.in_ok-machine.ensures in
    (rw c.new-journal.ensures (opened is c.in_ok-machine.machine o), rw c.new-journal.ensures refl)
