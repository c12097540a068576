use Rattle.std.proofs.Common.{◌<◌, arith, sym, ap, ◌∙◌}
use Rattle.std.specs.Prelude.{not}
use Rattle.world.specs.Useful.{works_on, is_unacknowledged}
use Rattle.session_process.specs.Process.{TheProcess}
use Rattle.session_process.specs.declared.mode.Mode.TheVariants.{Live}
use Rattle.machine.specs.Work.{phase_of}
use Rattle.machine.proofs.Wants.{wants-next, wants-other, flag-is}
use Rattle.machine.proofs.machine.Machine.wants.Goals as goal

pub returns-then-is_next : goal.returns-then-is_next
returns-then-is_next c =
    let inside : 0 < c.args.to = omega (arith, c.if-to-eq0.false) in
    let working = c.working.ensures ∙ ap (λ (x : TheProcess). x.working) c.process.ensures.value in
    λ w s. ap not (c.works_on.ensures ∙ ap (λ o. works_on (phase_of 0 Live o) c.args.from c.args.ssn) working)
    ∙ sym (wants-next c.args.self.now w s c.args.from c.args.to c.args.ssn inside c.requires.peers.to_within c.requires.peers.to_up c.requires.ssn (c.if-is_next.true ∙ c.next_ssn.ensures.value w s))

pub returns-in-Some : goal.returns-in-Some
returns-in-Some c =
    let inside : 0 < c.args.to = omega (arith, c.if-to-eq0.false) in
    let flag = rw (c.receipts.ensures, c.process-in-Some.ensures.value) at c.is_acknowledged.ensures in
    λ w s. ap not (flag ∙ flag-is c.args.self.now w s c.args.to inside c.requires.peers.to_within c.in-Some.rsn c.in-Some.ensures.bound.0 c.in-Some.ensures.bound.1)
    ∙ ap (is_unacknowledged (w.acknowledged c.args.to)) (c.in-Some.ensures.value w s)
    ∙ sym (wants-other c.args.self.now w s c.args.from c.args.to c.args.ssn inside c.requires.peers.to_within c.requires.peers.to_up c.requires.ssn (λ e. c.if-is_next.false (e ∙ sym (c.next_ssn.ensures.value w s))))

pub returns-in-None : goal.returns-in-None
returns-in-None c =
    let inside : 0 < c.args.to = omega (arith, c.if-to-eq0.false) in
    λ w s. ap (is_unacknowledged (w.acknowledged c.args.to)) (c.in-None.ensures.value w s)
    ∙ sym (wants-other c.args.self.now w s c.args.from c.args.to c.args.ssn inside c.requires.peers.to_within c.requires.peers.to_up c.requires.ssn (λ e. c.if-is_next.false (e ∙ sym (c.next_ssn.ensures.value w s))))
