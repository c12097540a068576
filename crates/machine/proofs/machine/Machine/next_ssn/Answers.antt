use Rattle.std.proofs.Common.{◌<◌, arith, ◌∙◌}
use Rattle.machine.proofs.Wants.{next-at}
use Rattle.machine.proofs.machine.Machine.next_ssn.Goals as goal

pub returns-clause-value : goal.returns-clause-value
returns-clause-value c =
    let inside : 0 < c.args.to = omega (arith, c.if-to-eq0.false) in
    λ w s. rw (c.receipts.ensures, c.process.ensures.value) at c.next.ensures.value ∙ next-at c.args.self.now w s c.args.from c.args.to inside c.requires.to_within c.requires.to_up
