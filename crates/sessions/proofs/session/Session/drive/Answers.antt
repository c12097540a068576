use Rattle.std.proofs.Common.{◌-◌, length, subst, ◌∙◌}
use Rattle.sessions.specs.Journal.{answered_more}
use Rattle.sessions.specs.Driver.{Driven}
use Rattle.sessions.specs.Service.{seat_of}
use Rattle.sessions.proofs.Together.{drives}
use Rattle.sessions.proofs.session.Session.drive.Goals as goal

pub returns : goal.returns
returns g c =
    let s = c.self.inside.service in
    let new = c.drive_of-driven.new.self in
    let made = subst (λ k. Driven c.args.budget s new (seat_of k s) (seat_of k new) c.drive_of-driven.result) c.worker.ensures.value c.drive_of-driven.ensures in
    let seat = c.answer.ensures.seat ∙ (λ i. answered_more (length (c.journal.ensures.entries i) - length (c.journal-before.ensures.entries i)) c.args.by.now) in
    rw (← c.self.view_is) (drives c.self.inside.seats.items c.args.budget s new c.args.by.now c.answer.new.self c.drive_of-driven.result made seat)
