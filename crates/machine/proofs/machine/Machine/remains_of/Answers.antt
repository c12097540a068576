use Rattle.std.proofs.Common.{◌≡◌, ◌<◌, ◌≤◌, length, map, subst, sym, ap, ◌∙◌, arith}
use Rattle.std.proofs.lemmas.List.{length-map}
use Rattle.rsn.specs.Receipts.{Received}
use Rattle.checkpoint.specs.declared.form.CheckpointForm.TheVariants.{Second}
use Rattle.checkpoint.specs.Saved.{TheSaved, Fits, log_again, receipts_again}
use Rattle.replay.specs.Plan.{IsPlan, found}
use Rattle.session_process.specs.Process.{TheProcess, idle_process}
use Rattle.session_process.specs.Outbox.{outbox_again}
use Rattle.machine.specs.Fields.{view_of, IsLogOf}
use Rattle.machine.specs.Recoveries.{logs_of}
use Rattle.machine.specs.Simulation.{TheMachine, process_at}
use Rattle.machine.proofs.Soundness.{sound_at}
use Rattle.machine.proofs.Restoration.{log-again}
use Rattle.machine.proofs.machine.Machine.remains_of.Goals as goal

pub returns : goal.returns
returns c =
    let m = c.args.self.now in
    let p = c.args.p in
    let positive : 0 < p = omega (arith, c.requires.0) in
    let x = process_at m p in
    let saved : c.stable-stable.result.now ≡ x.saved = c.stable-stable.ensures ∙ ap (λ (z : TheProcess). z.saved) c.process.ensures.value in
    let receipts : c.in_ok-receipts.receipts ≡ receipts_again x.saved = c.in_ok-receipts.ensures.receipts ∙ ap receipts_again saved in
    let senders = ap (λ (r : Received). r.senders) receipts in
    let old : TheMachine = view_of c.self.inside in
    let x_is : (process_at old p).saved ≡ x.saved = ap (λ (v : TheMachine). (process_at v p).saved) c.self.view_is in
    let fits : Fits Second (process_at old p).saved = subst (Fits Second) (saved ∙ sym x_is) c.in_ok-receipts.ensures.fits in
    let log_old : IsLogOf (length old.processes) p (log_again (process_at old p).saved) =
    log-again (length old.processes) p _ c.self.inside.calls (process_at old p) (sound_at c.self.inside c.self.invariant p (idle_process 0 0 0) 0 positive (subst (λ (v : TheMachine). p ≤ length v.processes) (sym c.self.view_is) c.requires.1)) fits in
    record {
      state = c.in_ok-state.ensures.items ∙ c.state.ensures ∙ ap (λ (z : TheSaved). z.state) saved;
      receipts = receipts;
      outbox = c.in_ok-receipts.ensures.outbox ∙ ap outbox_again saved;
      log = subst (λ (v : TheMachine). IsLogOf (length v.processes) p (log_again (process_at v p).saved)) c.self.view_is log_old;
      fits = subst (Fits Second) saved c.in_ok-receipts.ensures.fits;
      plan = subst (λ ss. IsPlan (found (logs_of m) p) ss c.in_ok-plan.plan.messages) senders c.in_ok-plan.ensures.plan;
      before = c.in_ok-plan.ensures.start.0 ∙ ap length senders;
      fresh = c.in_ok-plan.ensures.start.1;
    }
