use Rattle.std.proofs.Common.{◌≡◌, ◌≤◌, ℕ, List, [], ◌∷◌, length, map, true, sym, ap, ◌∙◌, subst, arith}
use Rattle.std.specs.Prelude.{nat_le}
use Rattle.std.specs.List.{AllByRecursion}
use Rattle.std.proofs.lemmas.Bool.Decides.{nat_tests}
use Rattle.std.proofs.lemmas.List.{length-map}
use Rattle.rsn.specs.Receipts.{Received}
use Rattle.node.specs.declared.job.OpenJob.{OpenJob}
use Rattle.node.specs.Node.{IsPeer}
use Rattle.node.specs.Stands.{Each}
use Rattle.recovery.specs.Replays.{TheReplaying, is_over}
use Rattle.recovery.specs.Replayed.{TheReplayed}
use Rattle.recovery.specs.StandsAtReplay.{Ends, replayed_of}
use Rattle.recovery.proofs.ReplayLemmas.{ends-so}
use Rattle.recovery.proofs.replays.Replaying.finish.Goals as goal

pub returns-clause-stands : goal.returns-clause-stands
returns-clause-stands c =
    let old = c.self.inside in
    let n = c.args.self in
    let within : n.done ≤ length n.plan = (let P : TheReplaying → Type 0 = λ z. z.done ≤ length z.plan in subst P c.self.view_is c.self.invariant.within) in
    let same : replayed_of n ≡ c.new.result = sym (c.new.ensures ∙ ap (λ r. record { own = old.own; receipts = r }) c.self.invariant.received ∙ ap replayed_of c.self.view_is) in
    let P : TheReplayed → Type 0 = λ v. Ends n v in
    subst P same (ends-so n c.requires within)

-- the senders of these messages are peers
peers-of : (me count : ℕ) (jobs : List OpenJob) → Each (λ (j : OpenJob). IsPeer me count j.sender) jobs → AllByRecursion (IsPeer me count) (map (λ (j : OpenJob). j.sender) jobs)
peers-of me count [] h = tt
peers-of me count (j ∷ jobs) h = (h.0, peers-of me count jobs h.1)

pub new-requires : goal.new-requires
new-requires c =
    let i = c.self.invariant in
    let old = c.self.inside in
    let jobs = old.plan.items in
    let over : length jobs ≤ old.done = (let e : nat_le (length jobs) old.done ≡ true = ap is_over c.self.view_is ∙ c.requires in grind (arith, nat_tests)) in
    let senders : old.receipts.senders ≡ map (λ (j : OpenJob). j.sender) jobs = ap (λ (r : Received). r.senders) i.received in
    let many : length old.receipts.senders ≡ length jobs = ap length senders ∙ length-map jobs (λ (j : OpenJob). j.sender) in
    record {
      young = omega (arith, many, i.young);
      short = λ d. omega (arith, many, i.short d, i.within, over);
      peers = subst (AllByRecursion (IsPeer old.own.me old.own.count)) (sym senders) (peers-of old.own.me old.own.count jobs i.peers);
    }
