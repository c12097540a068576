use Rattle.std.proofs.Common.{◌≡◌, ◌<◌, ◌+◌, length, false, ap, sym, ◌∙◌, subst, arith}
use Rattle.std.specs.Prelude.{nat_le}
use Rattle.std.proofs.lemmas.Bool.Decides.{nat_tests}
use Rattle.node.specs.declared.job.OpenJob.{OpenJob}
use Rattle.node.specs.Node.{IsPeer}
use Rattle.node.specs.Stands.{Each}
use Rattle.recovery.specs.Own.{TheOwn, ran}
use Rattle.recovery.specs.Replays.{TheReplaying, next_job, is_over, did_replay}
use Rattle.recovery.proofs.ReplayLemmas.{did-next}
use Rattle.recovery.proofs.replays.Replaying.replay.Goals as goal

pub invariant_of-self-2 : goal.invariant_of-self-2
invariant_of-self-2 c =
    let i = c.self.invariant in
    let old = c.self.inside in
    let number = c.base.result + old.done + 1 in
    let own : c.run.new.self ≡ ran number c.args.state.items c.args.given.now old.own = c.in_ok-run.ensures.ok in
    let base : c.run.new.self.base ≡ old.own.base = ap (λ (o : TheOwn). o.base) own in
    let over : nat_le (length old.plan.items) old.done ≡ false = ap is_over c.self.view_is ∙ sym c.is_over.ensures ∙ c.if-is_over.false in
    record {
      within = (let l : old.done < length old.plan.items = grind (arith, nat_tests) in omega (arith, l));
      few = i.few;
      young = omega (arith, base, i.young);
      short = λ d. omega (arith, base, c.in_ok-run.ensures.short (old.own.base + old.done) i.short d);
      received = i.received;
      peers = subst (λ (o : TheOwn). Each (λ (j : OpenJob). IsPeer o.me o.count j.sender) old.plan.items) (sym own) i.peers;
    }

pub returns-clause-ok : goal.returns-clause-ok
returns-clause-ok c =
    let old = c.self.inside in
    let state = c.args.state.items in
    let given = c.args.given.now in
    let m : TheReplaying = record { own = old.own; plan = old.plan.items; done = old.done } in
    let over : nat_le (length old.plan.items) old.done ≡ false = ap is_over c.self.view_is ∙ sym c.is_over.ensures ∙ c.if-is_over.false in
    let left : old.done < length old.plan.items = grind (arith, nat_tests) in
    let own : c.run.new.self ≡ ran (c.base.result + old.done + 1) state given old.own = c.in_ok-run.ensures.ok in
    let same : c.run.new.self ≡ ran (old.own.base + old.done + 1) state given old.own = own ∙ ap (λ k. ran (k + old.done + 1) state given old.own) c.base.ensures.value in
    let F : TheOwn → TheReplaying = λ o. record { own = o; plan = old.plan.items; done = old.done + 1 } in
    let P : TheReplaying → Type 0 = λ z. F c.run.new.self ≡ did_replay state given (next_job z) z in
    subst P c.self.view_is (ap F same ∙ sym (did-next m state given left))
