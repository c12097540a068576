use Rattle.std.proofs.Common.{◌≡◌, ◌≤◌, length, true, refl, arith, sym, ◌∙◌}
use Rattle.std.specs.Prelude.{nat_lt}
use Rattle.std.proofs.lemmas.Bool.Decides.{nat_tests}
use Rattle.machine.proofs.Status.{up_at}
use Rattle.machine.proofs.machine.Machine.started_by.Goals as goal

pub returns-in-Next-clause-value : goal.returns-in-Next-clause-value
returns-in-Next-clause-value c =
    let within : c.in-Delivery.to ≤ length c.args.self.now.processes = (rw c.in-Delivery.is at c.requires).0 in
    let above = c.if-to-gt0.true in
    let positive : nat_lt 0 c.in-Delivery.to ≡ true = grind (arith, nat_tests) in
    λ w s. rw (c.in-Delivery.is, positive, up_at c.args.self.now w s c.in-Delivery.to within (sym c.is_up.ensures ∙ c.if-is_up.true), c.in-Next.ensures.verdict w s) refl
