use Rattle.std.proofs.Common.{◌≡◌, ap, ◌∙◌, arith}
use Rattle.recovery.specs.Restoration.{TheRestoring}
use Rattle.recovery.proofs.RestorationInquiries.{only-below}
use Rattle.recovery.proofs.restoration.Restoring.ask_all.Goals as goal

pub ask-requires : goal.ask-requires
ask-requires c =
    let count : c.loop-to.self.own.count ≡ c.args.self.now.own.count = ap (λ (n : TheRestoring). n.own.count) (c.loop-to.invariant ∙ only-below c.args.self.now c.loop-to.to) in
    omega (arith, count, c.count-to-end.ensures.value, ap (λ (n : TheRestoring). n.own.count) c.self.view_is)
