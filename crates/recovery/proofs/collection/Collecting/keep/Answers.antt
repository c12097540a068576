use Rattle.std.proofs.Common.{◌≡◌, ◌≤◌, ◌<◌, List, sym, ap, ◌∙◌, subst, arith}
use Rattle.rsn.specs.declared.receipts.TheConstants.{SENDERS}
use Rattle.node.specs.declared.job.OpenJob.{OpenJob}
use Rattle.node.specs.Node.{IsPeer}
use Rattle.node.specs.Stands.{Each}
use Rattle.recovery.specs.Collection.{TheCollecting}
use Rattle.recovery.specs.Plan.{Fits}
use Rattle.recovery.proofs.Lists.{each-more}
use Rattle.recovery.proofs.collection.Collecting.keep.Goals as goal

pub received-requires-clause-senders : goal.received-requires-clause-senders
received-requires-clause-senders c =
    let n = c.args.self.now in
    let jobs = c.in-Some.plan.items in
    let fits : Fits n jobs = rw c.in-Some.is at c.in-Ok.ensures.fits in
    let few : n.own.count ≤ 15 = (let is : c.count-few.result ≡ n.own.count = c.count-few.ensures.value ∙ ap (λ (z : TheCollecting). z.own.count) c.self.view_is in omega (arith, is, c.count-few.ensures.few)) in
    let P : List OpenJob → Type 0 = λ z. Each (λ (j : OpenJob). j.sender < SENDERS) z in
    subst P (sym c.as_slice.ensures.value) (each-more (λ (j : OpenJob). IsPeer n.own.me n.own.count j.sender) (λ (j : OpenJob). j.sender < SENDERS) jobs (λ j l. omega (arith, l.0, few)) fits.senders)
