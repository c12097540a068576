use Rattle.std.proofs.Common.{rules, refl, arith}
use Rattle.std.proofs.lemmas.Grind.{common_steps}
use Rattle.std.specs.Box.{box_value}
use Rattle.interp.specs.HandlerCall.{Handled}
use Rattle.process.specs.Work.{given_of}
use Rattle.process.specs.Job.{IsNext, IsCallOf, TakesBack}
use Rattle.process.proofs.Workings.{works-as}
use Rattle.process.proofs.process.Member.done.Goals as goal

pub take_answer-requires : goal.take_answer-requires
take_answer-requires c =
    let next : IsNext c.args.self.now c.in-Some.message c.in-Some.who = first_of (search rules, grind (arith, common_steps)) in
    (c.in-Some.message, next)

pub returns-clause-ok : goal.returns-clause-ok
returns-clause-ok c =
    let old = c.args.self.now in
    let new = c.take_answer.new.self in
    let d = c.done.inside in
    let h : Handled = record { state = d.next.items; effects = box_value d.effects; r0 = d.end.r0; steps = d.end.steps } in
    let next : IsNext old c.in-Some.message c.in-Some.who = first_of (search rules, grind (arith, common_steps)) in
    let call : IsCallOf old c.in-Some.message c.in-Some.who d.call = first_of (search rules, grind (arith, common_steps)) in
    let taken : TakesBack h.state (given_of c.in-Some.who h.effects) old new = rw (c.as_slice.ensures.value, c.deref.ensures) at c.in_ok-take_answer.ensures.ok in
    works-as old new c.in-Some.message c.in-Some.who d.call h (given_of c.in-Some.who h.effects) next call c.done.invariant refl taken
