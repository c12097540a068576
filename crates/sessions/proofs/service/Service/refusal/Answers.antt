use Rattle.std.proofs.Common.{◌≡◌, map, subst}
use Rattle.interp.specs.Image.{image_in}
use Rattle.world.specs.Refusals.{refusal_of, cause_of}
use Rattle.sessions.specs.Journal.{TheSession, room_at, world_at}
use Rattle.sessions.proofs.Steps.{caused, here}
use Rattle.sessions.proofs.service.Service.refusal.Goals as goal

pub returns : goal.returns
returns c =
    let w = here (map image_in c.self.inside.images.items) c.self.inside.journal.entries in
    let P : TheSession → Type 0 = λ s. refusal_of (world_at s) (room_at s) c.args.call.now ≡ cause_of c.unwrap_or.result in
    subst P c.self.view_is (subst (λ n. refusal_of w n c.args.call.now ≡ cause_of c.unwrap_or.result) c.room.ensures.value (caused w c.room.result c.args.call.now c.cause-cause.result c.unwrap_or.result (c.cause-cause.ensures.cause w c.self.invariant.0.leads) c.unwrap_or.ensures))
