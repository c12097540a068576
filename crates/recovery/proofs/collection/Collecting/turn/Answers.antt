use Rattle.std.proofs.Common.{rules, ◌≤◌, sym, ap, subst, arith}
use Rattle.node.specs.declared.job.OpenJob.{OpenJob}
use Rattle.node.specs.declared.node.TheConstants.{MOST_RECEIVED}
use Rattle.node.specs.Node.{IsPeer}
use Rattle.node.specs.Stands.{Each}
use Rattle.recovery.specs.Collection.{TheCollecting}
use Rattle.recovery.proofs.collection.Collecting.turn.Goals as goal

pub invariant_of-result : goal.invariant_of-result
invariant_of-result c =
    let base = ap (λ (n : TheCollecting). n.own.base) c.self.view_is in
    let young : c.self.inside.own.base ≤ MOST_RECEIVED = first_of (search rules, omega arith) in
    record {
      within = omega arith;
      few = omega (arith, c.requires.fits.few);
      young = omega (arith, c.requires.fits.few, base, young);
      short = λ d. (let s = c.self.invariant.short d in omega (arith, s));
      received = c.requires.receipts;
      peers = subst (λ (n : TheCollecting). Each (λ (j : OpenJob). IsPeer n.own.me n.own.count j.sender) c.args.plan.items) (sym c.self.view_is) c.requires.fits.senders;
    }
