use Rattle.std.proofs.Common.{◌≡◌, ◌-◌, length, subst, map}
use Rattle.std.specs.Prelude.{IfNone, IfSome}
use Rattle.limits.specs.declared.TheConstants.{ENTRIES}
use Rattle.interp.specs.Image.{image_in}
use Rattle.machine.specs.Choice.{IsPick}
use Rattle.machine.proofs.Picks.{if_none, if_some}
use Rattle.sessions.specs.Journal.{TheSession, world_at, room_at}
use Rattle.sessions.specs.Driver.{IsQuiet}
use Rattle.sessions.proofs.Driven.{takes-none}
use Rattle.sessions.proofs.Steps.{here}
use Rattle.sessions.proofs.service.Service.pick.Goals as goal

pub returns-clause-some : goal.returns-clause-some
returns-clause-some c =
    let m = c.self.inside.machine in
    let es = c.self.inside.journal.entries in
    let room : c.room.result ≡ ENTRIES - length es = c.room.ensures.value in
    let P : TheSession → Type 0 = λ s. IfSome c.pick.result (λ call. IsPick (world_at s) (room_at s) call) in
    subst P c.self.view_is (if_some c.pick.result (λ call k. subst (λ r. IsPick (here (map image_in c.self.inside.images.items) es) r call) room (k (here (map image_in c.self.inside.images.items) es) c.self.invariant.0.leads)) c.pick.ensures.some)

pub returns-clause-none : goal.returns-clause-none
returns-clause-none c =
    let m = c.self.inside.machine in
    let es = c.self.inside.journal.entries in
    let room : c.room.result ≡ ENTRIES - length es = c.room.ensures.value in
    let P : TheSession → Type 0 = λ s. IfNone c.pick.result (IsQuiet s) in
    subst P c.self.view_is (if_none c.pick.result (λ none call. subst (λ r. ¬ IsPick (here (map image_in c.self.inside.images.items) es) r call) room (none (here (map image_in c.self.inside.images.items) es) c.self.invariant.0.leads call)) c.pick.ensures.none)

pub returns-clause-result : goal.returns-clause-result
returns-clause-result c = if_some c.pick.result takes-none c.pick.ensures.moves
