use Rattle.std.proofs.Common.{◌≡◌, ◌+◌, ℕ, suc, length, sym, ap, ◌∙◌, subst, arith}
use Rattle.node.specs.declared.job.OpenJob.{OpenJob}
use Rattle.node.specs.Node.{IsPeer}
use Rattle.node.specs.Stands.{Each}
use Rattle.recovery.specs.Own.{TheOwn}
use Rattle.recovery.specs.Overlap.{handed}
use Rattle.recovery.specs.Replays.{TheReplaying}
use Rattle.recovery.specs.StandsAtReplay.{IsHanded}
use Rattle.recovery.proofs.Meetings.{replaying-handed}
use Rattle.recovery.proofs.replays.Replaying.receive.Goals as goal

pub invariant_of-self : goal.invariant_of-self
invariant_of-self c =
    let i = c.self.invariant in
    let old = c.self.inside in
    let same = c.receive.ensures.same in
    let P : ℕ → Type 0 = λ m. Each (λ (j : OpenJob). IsPeer m old.own.count j.sender) old.plan.items in
    let Q : ℕ → Type 0 = λ k. Each (λ (j : OpenJob). IsPeer c.receive.new.self.me k j.sender) old.plan.items in
    record {
      within = i.within;
      few = i.few;
      young = omega (arith, same.1.1, i.young);
      short = λ d. omega (arith, same.1.1, c.receive.ensures.short (old.own.base + old.done) i.short d);
      received = i.received;
      peers = subst Q (sym same.1.0) (subst P (sym same.0) i.peers);
    }

pub returns-clause-acts : goal.returns-clause-acts
returns-clause-acts c =
    let n = c.args.self.now in
    let was = c.self.inside in
    let x = c.args.packet.now in
    let W : TheReplaying → Type 0 = λ v. (length v.own.heard ≡ suc v.own.count) × (length v.own.logs ≡ suc v.own.count) in
    let with_own : TheOwn → TheReplaying = λ o. record { own = o; plan = was.plan.items; done = was.done } in
    let is : with_own c.receive.new.self ≡ record n { own = handed x n.own } = ap with_own c.receive.ensures.value ∙ ap (λ (z : TheReplaying). record z { own = handed x z.own }) c.self.view_is in
    let P : TheReplaying → Type 0 = λ v. IsHanded x n v in
    subst P (sym is) (replaying-handed n x (subst W c.self.view_is c.receive.ensures.wide))
