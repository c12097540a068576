use Rattle.std.proofs.Common.{◌≡◌, ◌<◌, length, map, get_or, sym, ap, ◌∙◌, arith}
use Rattle.std.proofs.lemmas.List.{length-map, get_or-map}
use Rattle.rsn.specs.Receipts.{accepted}
use Rattle.rsn.proofs.ReceiptLemmas.{taken-more}
use Rattle.node.specs.declared.job.OpenJob.{OpenJob}
use Rattle.recovery.proofs.moment.received.Goals as goal

pub loop-job-preserved : goal.loop-job-preserved
loop-job-preserved c =
    let jobs = c.args.jobs.now in
    let i = c.loop-job.job-index in
    let senders = map (λ (j : OpenJob). j.sender) jobs in
    let inside : i < length jobs = c.loop-job-test.true in
    let at : c.job-item.result.sender ≡ get_or senders i 0 = ap (λ (j : OpenJob). j.sender) c.job-item.is ∙ sym (get_or-map (λ (j : OpenJob). j.sender) jobs i c.job-item.result 0 inside) in
    taken-more senders i c.in_ok-number.number c.loop-job.receipts c.accept.new.self c.acknowledge.new.self (omega (arith, inside, length-map jobs (λ (j : OpenJob). j.sender))) c.loop-job.invariant c.in_ok-number.ensures.ok.0
    (c.in_ok-number.ensures.ok.1 ∙ ap (λ z. accepted z c.loop-job.receipts) at) c.acknowledge.ensures
