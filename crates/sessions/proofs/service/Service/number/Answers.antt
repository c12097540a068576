use Rattle.std.proofs.Common.{◌∙◌, ap, subst, sym}
use Rattle.std.specs.Prelude.{Ok}
use Rattle.world.specs.declared.answer.Answer.{Answer}
use Rattle.sessions.specs.Fields.{numbered}
use Rattle.sessions.specs.Journal.{Adds}
use Rattle.sessions.specs.Service.{Returns, seat_of}
use Rattle.sessions.proofs.Numbers.{is-number}
use Rattle.sessions.proofs.service.Service.number.Goals as goal

pub returns-clause-adds : goal.returns-clause-adds
returns-clause-adds c =
    let old = c.args.self.now in
    let new = c.answer_to.new.self in
    let call = c.args.call.now in
    let adds = c.in_ok-answer.ensures.adds in
    let is = is-number old new (seat_of 0 old) (seat_of 0 new) call c.in_ok-answer.answer c.requires.number adds ∙ ap (numbered call) (sym c.number_in.ensures) in
    subst (λ (a : Answer). Adds old new (seat_of 0 old) (seat_of 0 new) call (Ok a)) is adds

pub returns-clause-exactly : goal.returns-clause-exactly
returns-clause-exactly c =
    let old = c.args.self.now in
    let new = c.answer_to.new.self in
    let call = c.args.call.now in
    let is = is-number old new (seat_of 0 old) (seat_of 0 new) call c.in_ok-answer.answer c.requires.number c.in_ok-answer.ensures.adds ∙ ap (numbered call) (sym c.number_in.ensures) in
    subst (Returns old new call) is c.in_ok-answer.ensures.exactly
