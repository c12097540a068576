use Rattle.std.proofs.Common.{rules, ◌≡◌, ◌≤◌, length, subst, arith}
use Rattle.std.specs.Prelude.{Some}
use Rattle.std.proofs.lemmas.Grind.{common_steps}
use Rattle.std.specs.Arc.{arc_value}
use Rattle.interp.specs.HandlerCall.{Handled}
use Rattle.interp.specs.Answer.{answer_by}
use Rattle.interp.specs.Handler.{image_of}
use Rattle.node.specs.declared.node.TheConstants.{MOST_GIVEN}
use Rattle.process.specs.Process.{TheProcess, state_of}
use Rattle.process.specs.Work.{given_of, Works}
use Rattle.process.specs.Job.{IsNext, TakesBack}
use Rattle.process.proofs.Workings.{may-take-back, works}
use Rattle.process.proofs.process.Member.run.Goals as goal

pub take_back-requires : goal.take_back-requires
take_back-requires c =
    let e = c.call-end.new.out in
    let old : TheProcess = record { image = image_of (arc_value c.self.inside.image); lifecycle = c.self.inside.lifecycle } in
    let given = c.deref-2.result.now in
    let next : IsNext old c.in-Some.job c.in-Some.who = first_of (search rules, grind (arith, common_steps)) in
    let items : given ≡ given_of c.in-Some.who e = first_of (search rules, grind (arith, common_steps)) in
    let few : length given ≤ MOST_GIVEN = first_of (search rules, grind (arith, common_steps)) in
    may-take-back old c.in-Some.job c.in-Some.who e given next items few

pub returns-clause-works : goal.returns-clause-works
returns-clause-works c = λ yes.
    let image = image_of (arc_value c.self.inside.image) in
    let old : TheProcess = record { image = image; lifecycle = c.self.inside.lifecycle } in
    let new = c.take_back.new.self in
    let h : Handled = record { state = c.call-end.new.state; effects = c.call-end.new.out; r0 = c.call-end.result.r0; steps = c.call-end.result.steps } in
    let given = c.deref-2.result.now in
    let state = c.as_mut_slice.result.now in
    let next : IsNext old c.in-Some.job c.in-Some.who = first_of (search rules, grind (arith, common_steps)) in
    let is_state : state ≡ state_of old.lifecycle = first_of (search rules, grind (arith, common_steps)) in
    let a : answer_by image c.in-Some.who state c.in-Some.job.payload ≡ Some h = first_of (search rules, grind (arith, common_steps)) in
    let items : given ≡ given_of c.in-Some.who h.effects = first_of (search rules, grind (arith, common_steps)) in
    let taken : TakesBack h.state given old new = first_of (search rules, grind (arith, common_steps)) in
    subst (λ (v : TheProcess). Works v new) c.self.view_is (works old new c.in-Some.job c.in-Some.who state h given next is_state a items taken)
