use Rattle.std.proofs.Common.{◌≡◌, ◌≤◌, length, sym, ◌∙◌, false, arith}
use Rattle.std.specs.Prelude.{◌==◌}
use Rattle.std.proofs.lemmas.Bool.Decides.{nat_tests}
use Rattle.machine.proofs.RecoveryCauses.{others-all, others-not}
use Rattle.machine.proofs.machine.Machine.others_are_up.Goals as goal

pub returns-then-not-is_up : goal.returns-then-not-is_up
returns-then-not-is_up c =
    let within : c.loop-q.q ≤ length c.args.self.now.processes = omega (arith, c.loop-q-test.true, c.count-q-end.ensures.value) in
    let apart = c.if-q-p.true in
    let other : (c.loop-q.q == c.args.p) ≡ false = grind (arith, nat_tests) in
    λ w s. sym (others-not c.args.self.now w s c.args.p c.loop-q.q within other (sym c.is_up.ensures ∙ c.if-not-is_up.true))

pub returns : goal.returns
returns c = λ w s. sym (others-all c.args.self.now w s c.args.p (λ k positive h e. c.loop-q.invariant k positive (omega (arith, h, c.loop-q-test.false, c.count-q-end.ensures.value)) e))
