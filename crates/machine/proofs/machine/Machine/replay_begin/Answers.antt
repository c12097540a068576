use Rattle.std.proofs.Common.{◌≡◌, ◌≢◌, ◌≤◌, length, refl, sym, ap, ◌∙◌, arith}
use Rattle.std.specs.Prelude.{Result, Ok, Err, IfOk, Some}
use Rattle.session_process.specs.Process.{TheProcess}
use Rattle.session_process.specs.Mode.{next_job}
use Rattle.machine.specs.Arrival.{IsHandedOut}
use Rattle.machine.specs.Jobs.{Begins}
use Rattle.machine.specs.Simulation.{process_at}
use Rattle.machine.proofs.JobLemmas.{handed-out}
use Rattle.machine.proofs.ReplaySteps.{from-another, begun-step}
use Rattle.machine.proofs.machine.Machine.replay_begin.Goals as goal
use Rattle.machine.proofs.machine.Machine.replay_begin.Goals.{then-message-count-via-then-message-count, then-message-count-via-else-message-count+then-message-p}

if-ok : {X E : Type 0} (r : Result X E) (P Q : X → Type 0) → IfOk r P → ((x : X) → P x → Q x) → IfOk r Q
if-ok (Ok x) P Q p f = f x p
if-ok (Err e) P Q p f = tt

pub returns-then-message-count-clause-step : goal.returns-then-message-count-clause-step
returns-then-message-count-clause-step c =
    let m = c.args.self.now in
    let x = c.in-Some-next_job.message in
    let may = c.in_default.ensures.none.0 in
    let job : next_job (process_at m c.args.p).mode ≡ Some x = sym (c.next_job.ensures ∙ ap next_job (c.mode.ensures ∙ ap (λ (z : TheProcess). z.mode) c.process.ensures.value)) ∙ c.in-Some-next_job.is in (
      refl,
      λ w s.
          let got : (x.sender ≤ length m.processes) × (x.sender ≢ c.args.p) = from-another m w s 0 c.args.p 0 x may.inside may.within may.idle job in
          let none : ⊥ = elim c.then-message-count.branch [
            | then-message-count-via-then-message-count b ↦ (let high = b.if-message-count.true in let from = got.0 in let many = c.count.ensures.value in absurd (omega (arith, high, from, many)))
            | then-message-count-via-else-message-count+then-message-p b ↦ got.1 b.if-message-p.true
          ] in
          absurd none,
    )

pub returns-clause-step : goal.returns-clause-step
returns-clause-step c =
    let m = c.args.self.now in
    let x = c.in-Some-next_job.message in
    let may = c.in_default.ensures.none.0 in
    let job : next_job (process_at m c.args.p).mode ≡ Some x = sym (c.next_job.ensures ∙ ap next_job (c.mode.ensures ∙ ap (λ (z : TheProcess). z.mode) c.process.ensures.value)) ∙ c.in-Some-next_job.is in
    begun-step m c.begin.new.self c.args.room c.args.p x c.begin.result c.begin.ensures.ok c.begin.ensures.err may.inside may.within may.idle job c.in_default.ensures.cause

pub returns-clause-job : goal.returns-clause-job
returns-clause-job c =
    let m = c.args.self.now in
    let x = c.in-Some-next_job.message in
    let may = c.in_default.ensures.none.0 in
    if-ok c.begin.result (λ job. Begins m c.begin.new.self c.args.p x job) (IsHandedOut c.begin.new.self) c.begin.ensures.ok (λ job b. handed-out m c.begin.new.self c.args.p x job c.begin.new.self.slots b may.inside may.within)
