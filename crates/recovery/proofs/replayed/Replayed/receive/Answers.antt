use Rattle.std.proofs.Common.{◌≡◌, ◌+◌, ℕ, suc, length, sym, ap, ◌∙◌, subst, arith}
use Rattle.std.specs.List.{AllByRecursion}
use Rattle.node.specs.Node.{IsPeer}
use Rattle.recovery.specs.Own.{TheOwn}
use Rattle.recovery.specs.Overlap.{handed}
use Rattle.recovery.specs.Replayed.{TheReplayed, IsHanded}
use Rattle.recovery.proofs.Meetings.{replayed-handed}
use Rattle.recovery.proofs.replayed.Replayed.receive.Goals as goal

pub invariant_of-self : goal.invariant_of-self
invariant_of-self c =
    let i = c.self.invariant in
    let old = c.self.inside in
    let same = c.receive.ensures.same in
    let P : ℕ → Type 0 = λ m. AllByRecursion (IsPeer m old.own.count) old.receipts.senders in
    let Q : ℕ → Type 0 = λ k. AllByRecursion (IsPeer c.receive.new.self.me k) old.receipts.senders in
    record {
      young = omega (arith, same.1.1, i.young);
      short = λ d. omega (arith, same.1.1, c.receive.ensures.short (old.own.base + length old.receipts.senders) i.short d);
      peers = subst Q (sym same.1.0) (subst P (sym same.0) i.peers);
    }

pub returns-clause-acts : goal.returns-clause-acts
returns-clause-acts c =
    let n = c.args.self.now in
    let was = c.self.inside in
    let x = c.args.packet.now in
    let W : TheReplayed → Type 0 = λ v. (length v.own.heard ≡ suc v.own.count) × (length v.own.logs ≡ suc v.own.count) in
    let with_own : TheOwn → TheReplayed = λ o. record { own = o; receipts = was.receipts } in
    let is : with_own c.receive.new.self ≡ record n { own = handed x n.own } = ap with_own c.receive.ensures.value ∙ ap (λ (z : TheReplayed). record z { own = handed x z.own }) c.self.view_is in
    let P : TheReplayed → Type 0 = λ v. IsHanded x n v in
    subst P (sym is) (replayed-handed n x (subst W c.self.view_is c.receive.ensures.wide))
