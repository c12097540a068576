use Rattle.std.proofs.Common.{length, sym, ◌∙◌}
use Rattle.machine.proofs.RecoveryCauses.{inside-of, recover-rest}
use Rattle.machine.proofs.machine.Machine.recover_cause.Goals as goal

pub returns-clause-cause : goal.returns-clause-cause
returns-clause-cause c =
    let i = inside-of (length c.args.self.now.processes) c.args.p (sym c.is_inside.ensures ∙ c.if-not-is_inside.false) in
    λ w s. rw c.return_cause.ensures (recover-rest c.args.self.now w s c.args.room c.args.p i.0 i.1 (sym (c.others_are_up.ensures w s) ∙ c.if-not-others_are_up.false))
