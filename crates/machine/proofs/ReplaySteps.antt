-- The step by which a job is replayed
use Rattle.std.proofs.Common.{◌≡◌, ◌≢◌, ℕ, ◌+◌, ◌-◌, ◌<◌, ◌≤◌, List, length, take, set, Bool, true, false, refl, sym, ap, ◌∙◌, subst, arith}
use Rattle.std.specs.Prelude.{◌==◌, nat_lt, Option, Some, None, Result, Ok, Err, IfOk, IfErr, slice_get, slice_index_or}
use Rattle.std.proofs.lemmas.Bool.{false≢true}
use Rattle.std.proofs.lemmas.Bool.Decides.{nat_tests}
use Rattle.sender_log.specs.Log.{queue_of}
use Rattle.helpers.specs.declared.effects.Who.{Who}
use Rattle.replay.specs.Plan.{ThePlan}
use Rattle.replay.specs.Task.{TheTask}
use Rattle.world.specs.declared.message.Message.{Message}
use Rattle.world.specs.declared.call.Call.TheVariants.{ReplayBegin}
use Rattle.world.specs.declared.answer.Answer.TheVariants.{Started}
use Rattle.world.specs.Phases.{Phase, Replaying, is_up, is_down}
use Rattle.world.specs.World.{World, put}
use Rattle.world.specs.Logs.{sent}
use Rattle.world.specs.declared.refusal.Refusal.{Refusal}
use Rattle.world.specs.declared.refusal.Refusal.TheVariants.{Memory}
use Rattle.world.specs.Refusals.{refusal_of, cause_of}
use Rattle.theorems.proofs.ListLemmas.{take-length}
use Rattle.session_process.specs.Process.{TheProcess}
use Rattle.session_process.specs.Mode.{next_job}
use Rattle.session_process.specs.declared.mode.Mode.{Mode}
use Rattle.session_process.specs.declared.mode.Mode.TheVariants as modes
use Rattle.machine.specs.Work.{phase_of, MayWork, Replays}
use Rattle.machine.specs.Simulation.{TheMachine, StandsAt, Keeps, Shows, Stands, Steps, Simulates, answering, process_at, log_at}
use Rattle.machine.specs.Jobs.{Begins}
use Rattle.machine.proofs.Status.{at_process, keeps_at}
use Rattle.machine.proofs.JobLemmas.{slice_get-behind}
use Rattle.machine.proofs.Steps.{step}
use Rattle.machine.proofs.OneProcess.{Same, shows-one}
use Rattle.machine.proofs.Crashes.{self-same}

-- one with a next job replays
pub mode-of-next : (t : Mode) (x : Message) → next_job t ≡ Some x → (plan : ThePlan) × (alone : Bool) × (t ≡ modes.Replaying plan alone) × (slice_get plan.messages plan.replayed ≡ Some x)
mode-of-next modes.Live x e = absurd (cc)
mode-of-next modes.Down x e = absurd (cc)
mode-of-next (modes.Replaying plan alone) x e = (plan, alone, refl, e)
mode-of-next (modes.Resync peers) x e = absurd (cc)

-- the next of the plan is the next of the history
pub plan-next : (plan : ThePlan) (o : Option Message) (saved : ℕ) (h : List Message) (x : Message) → Replays plan o saved h → saved ≤ length h → slice_get plan.messages plan.replayed ≡ Some x → slice_get h (saved + plan.replayed) ≡ Some x
plan-next plan o saved h x may l next =
    let covered : length (take saved h) ≡ saved = take-length h saved l in
    ap (λ j. slice_get h (j + plan.replayed)) (sym covered)
    ∙ ap (λ xs. slice_get xs (length (take saved h) + plan.replayed)) (sym may.messages)
    ∙ slice_get-behind (take saved h) plan.messages plan.replayed
    ∙ next

module _ (m : TheMachine) (w : World) (s : Stands m w) (room p calls : ℕ) (x : Message) (positive : 0 < p) (within : p ≤ length m.processes) (idle : (process_at m p).working ≡ None) (job : next_job (process_at m p).mode ≡ Some x) where
  replays : (plan : ThePlan) × (alone : Bool) × ((process_at m p).mode ≡ modes.Replaying plan alone) × (slice_get plan.messages plan.replayed ≡ Some x)
  replays = mode-of-next (process_at m p).mode x job

  abbrev begun : TheProcess
  begun = record (process_at m p) { working = Some x }

  at : StandsAt (length m.processes) p (process_at m p) (w.handlers.state p) (w.handlers.sends p) (w.history p) (w.phase p) (w.incarnation p) (w.acknowledged p) (w.saved p) (w.saved_trims p)
  at = at_process m w s p positive within

  works : Replays replays.0 None (w.saved p) (w.history p)
  works = subst (λ z. MayWork z None (w.saved p) (w.history p)) replays.2 (subst (λ o. MayWork (process_at m p).mode o (w.saved p) (w.history p)) idle at.works)

  works_now : Replays replays.0 (Some x) (w.saved p) (w.history p)
  works_now = record { before = works.before; messages = works.messages; left = works.left; next = replays.3 }

  phase_was : w.phase p ≡ Replaying replays.0.replayed false replays.1
  phase_was = at.phase_is ∙ (λ i. phase_of (length m.processes) (replays.2 i) (idle i))

  -- its sender is another
  pub from-another : (x.sender ≤ length m.processes) × (x.sender ≢ p)
  from-another =
      let got = s.sound.received p (w.saved p + replays.0.replayed) x (plan-next replays.0 None (w.saved p) (w.history p) x works (s.sound.saved p) replays.3) in
      (omega (arith, got.from, s.shows.count), got.other)

  abbrev working : Phase
  working = Replaying replays.0.replayed true replays.1

  others : (q : ℕ) → (q == p) ≡ false → Same w w.history (put w.phase p working) w.saved w.saved_trims w.acknowledged w.released w.incarnation w.trims w.numbers q
  others q e = record { history_is = refl; phase_is = rw e refl; saved_is = refl; saved_trims_is = refl; acknowledged_is = refl; released_is = refl; incarnation_is = refl; trims_is = refl; numbers_is = refl }

  here : StandsAt (length m.processes) p begun (w.handlers.state p) (w.handlers.sends p) (w.history p) working (w.incarnation p) (w.acknowledged p) (w.saved p) (w.saved_trims p)
  here =
      record {
        state_is = at.state_is;
        gone = at.gone;
        senders = at.senders;
        flags = at.flags;
        acknowledged_is = at.acknowledged_is;
        in_order = at.in_order;
        phase_is = sym (ap (λ z. phase_of (length m.processes) z (Some x)) replays.2);
        works = subst (λ z. MayWork z (Some x) (w.saved p) (w.history p)) (sym replays.2) works_now;
        incarnation_is = at.incarnation_is;
        saves = at.saves;
      }

  apart : (p == 0) ≡ false
  apart = grind (arith, nat_tests)

  kept : (d : ℕ) → d ≤ length m.processes → p ≢ d → Keeps (queue_of d (process_at m p).outbox.log) (w.trims p d) (w.handlers.sends p (take (w.saved p + replays.0.replayed) (w.history p)) d) (w.numbers p d)
  kept d to other =
      let log_is : log_at m p ≡ (process_at m p).outbox.log = rw apart refl in
      let sent_is : sent w p d ≡ w.handlers.sends p (take (w.saved p + replays.0.replayed) (w.history p)) d = rw (apart, phase_was) refl in
      subst (λ ps. Keeps (queue_of d (process_at m p).outbox.log) (w.trims p d) ps (w.numbers p d)) sent_is (subst (λ l. Keeps (queue_of d l) (w.trims p d) (sent w p d) (w.numbers p d)) log_is (keeps_at m w s p d within to other (ap is_down phase_was)))

  shows_after : Shows (record m { processes = set m.processes (p - 1) begun; started = m.started + 1; calls = calls }) (record w { phase = put w.phase p working; started = w.started + 1 })
  shows_after =
      shows-one m w s.shows p positive within begun (m.started + 1) calls (w.started + 1) (ap (λ k. k + 1) s.shows.started) w.history (put w.phase p working) w.saved w.saved_trims w.acknowledged w.released w.incarnation w.trims w.numbers others
      (rw (self-same p) here)
      (λ d to other back. rw (self-same p, apart) (kept d to other))
      (λ d to other up. let e = rw (self-same p) at up in absurd (false≢true e))
      (λ d down. s.shows.shut p d positive within (ap is_up phase_was))

  -- a job of the next message of the plan is a step
  pub begins-again : refusal_of w room (ReplayBegin p) ≡ None → (serial : ℕ) → serial ≡ m.started + 1 → Steps m (record m { processes = set m.processes (p - 1) begun; started = m.started + 1; calls = calls }) room (ReplayBegin p) (Started serial) w
  begins-again accepted serial is =
      step m (record m { processes = set m.processes (p - 1) begun; started = m.started + 1; calls = calls }) room (ReplayBegin p) (Started serial) w s accepted (ap Started (is ∙ ap (λ k. k + 1) (sym s.shows.started)))
      (rw phase_was shows_after)
      refl

-- what begins is a step
pub begun-step : (m new : TheMachine) (room p : ℕ) (x : Message) (r : Result TheTask Refusal) → IfOk r (λ job. Begins m new p x job) → IfErr r (λ e. (e ≡ Memory) × (new ≡ m))
    → 0 < p → p ≤ length m.processes → (process_at m p).working ≡ None → next_job (process_at m p).mode ≡ Some x → ((w : World) → Stands m w → refusal_of w room (ReplayBegin p) ≡ None)
    → Simulates m new room (ReplayBegin p) (answering (λ (job : TheTask). Started job.serial) r)
begun-step m new room p x (Ok job) ok err positive within idle next accepted =
    λ w s. subst (λ v. Steps m v room (ReplayBegin p) (Started job.serial) w) (sym ok.becomes) (begins-again m w s room p (m.calls + 1) x positive within idle next (accepted w s) job.serial ok.serial)
begun-step m new room p x (Err e) ok err positive within idle next accepted = (err.1, λ w s. accepted w s ∙ sym (ap cause_of err.0))
