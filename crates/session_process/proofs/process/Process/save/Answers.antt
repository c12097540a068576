use Rattle.std.proofs.Common.{◌≡◌, length, subst, ap, ◌∙◌}
use Rattle.rsn.specs.Receipts.{Received, run_of}
use Rattle.send_gate.specs.Gate.{Releases}
use Rattle.session_process.specs.Process.{TheProcess, IsSaved}
use Rattle.session_process.proofs.StableLemmas.{run-replicate}
use Rattle.session_process.proofs.process.Process.save.Goals as goal

pub returns : goal.returns
returns c =
    let x = c.self.inside in
    let old : TheProcess = record { state = x.state.items; incarnation = x.incarnation; receipts = x.receipts; outbox = x.outbox; working = x.working; saved = x.stable; mode = x.mode } in
    let new : TheProcess = record old { receipts = c.acknowledge_all.new.self; outbox = c.release.new.self; saved = c.args.stable } in
    let run : run_of c.acknowledge_all.new.self.acknowledged ≡ length x.receipts.senders = ap (λ (r : Received). run_of r.acknowledged) c.acknowledge_all.ensures ∙ run-replicate (length x.receipts.senders) in
    subst (λ (o : TheProcess). IsSaved c.args.stable o new) c.self.view_is
    (record {
      releases = subst (λ k. Releases k x.outbox.gate c.release.new.self.gate) run c.release.ensures.gate;
      others = λ i. record old { receipts = c.acknowledge_all.ensures i; outbox = c.release.ensures.others i; saved = c.args.stable };
    })
