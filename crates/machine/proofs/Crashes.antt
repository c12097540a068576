-- The steps of crashes
use Rattle.std.proofs.Common.{◌≡◌, ℕ, ◌+◌, ◌-◌, ◌<◌, ◌≤◌, length, set, Bool, true, false, refl, sym, ap, ◌∙◌, arith, true≢false}
use Rattle.std.specs.Prelude.{◌==◌, None, nat_lt, slice_index_or, replicate}
use Rattle.std.proofs.lemmas.Bool.Decides.{nat_tests}
use Rattle.std.proofs.lemmas.List.{get_or-replicate, length-replicate}
use Rattle.std.proofs.Math.ListN.{get_or-eq_default}
use Rattle.limits.specs.declared.TheConstants.{PARTIES}
use Rattle.sender_log.specs.Queue.{TheQueue, no_queue}
use Rattle.world.specs.declared.call.Call.TheVariants.{Crash}
use Rattle.world.specs.declared.answer.Answer.TheVariants.{Crashed}
use Rattle.world.specs.Phases.{Down}
use Rattle.world.specs.World.{World, put}
use Rattle.world.specs.Refusals.{refusal_of}
use Rattle.session_process.specs.Process.{TheProcess, crashed}
use Rattle.session_process.specs.Outbox.{TheOutbox, empty_outbox}
use Rattle.machine.specs.Fields.{IsSoundAt}
use Rattle.machine.specs.Simulation.{TheMachine, Stands, StandsAt, Steps, process_at}
use Rattle.machine.proofs.Status.{at_process}
use Rattle.machine.proofs.Steps.{step}
use Rattle.machine.proofs.OneProcess.{Same, shows-one}

-- a list of zeros has 0 at each place, and past its end
zeros : (n i : ℕ) → let none : ℕ = 0 in slice_index_or (replicate n none) i none ≡ none
zeros n i = by_size (nat_lt i n) refl
  where
    by_size : (b : Bool) → nat_lt i n ≡ b → let none : ℕ = 0 in slice_index_or (replicate n none) i none ≡ none
    by_size true e = get_or-replicate n i 0 0 (grind (arith, nat_tests))
    by_size false e = let past : n ≤ i = grind (arith, nat_tests) in let none : ℕ = 0 in let made = length-replicate {A = ℕ} n none in get_or-eq_default (replicate n none) none (omega (arith, past, made))

pub self-same : (p : ℕ) → (p == p) ≡ true
self-same p = grind (arith, nat_tests)

module _ (m : TheMachine) (w : World) (s : Stands m w) (room p calls : ℕ) (outbox : TheOutbox) (positive : 0 < p) (within : p ≤ length m.processes) (is : outbox ≡ empty_outbox p (length m.processes)) where
  at : StandsAt (length m.processes) p (process_at m p) (w.handlers.state p) (w.handlers.sends p) (w.history p) (w.phase p) (w.incarnation p) (w.acknowledged p) (w.saved p) (w.saved_trims p)
  at = at_process m w s p positive within

  others : (q : ℕ) → (q == p) ≡ false → Same w w.history (put w.phase p Down) w.saved w.saved_trims (put w.acknowledged p (λ k. false)) (put w.released p (λ d. 0)) (put w.incarnation p (w.incarnation p + 1)) (put w.trims p (w.saved_trims p)) (put w.numbers p (λ d i. None)) q
  others q e = record { history_is = refl; phase_is = rw e refl; saved_is = refl; saved_trims_is = refl; acknowledged_is = rw e refl; released_is = rw e refl; incarnation_is = rw e refl; trims_is = rw e refl; numbers_is = rw e refl }

  -- a crash is a step
  pub crash-step : refusal_of w room (Crash p) ≡ None → Steps m (record m { processes = set m.processes (p - 1) (crashed outbox (process_at m p)); calls = calls }) room (Crash p) (Crashed ((process_at m p).incarnation + 1)) w
  crash-step accepted =
      step m (record m { processes = set m.processes (p - 1) (crashed outbox (process_at m p)); calls = calls }) room (Crash p) (Crashed ((process_at m p).incarnation + 1)) w s accepted (ap (λ n. Crashed (n + 1)) (sym at.incarnation_is))
      (shows-one m w s.shows p positive within (crashed outbox (process_at m p)) m.started calls w.started s.shows.started w.history (put w.phase p Down) w.saved w.saved_trims (put w.acknowledged p (λ k. false)) (put w.released p (λ d. 0)) (put w.incarnation p (w.incarnation p + 1)) (put w.trims p (w.saved_trims p)) (put w.numbers p (λ d i. None)) others
      (rw (self-same p) (record {
        state_is = λ e. absurd (true≢false e);
        gone = λ e. (refl, is);
        senders = refl;
        flags = refl;
        acknowledged_is = λ k h. absurd (omega (arith, h));
        in_order = at.in_order;
        phase_is = refl;
        works = refl;
        incarnation_is = ap (λ n. n + 1) at.incarnation_is;
        saves = at.saves;
      }))
      (λ d to apart back. let e = rw (self-same p) at back in absurd (true≢false e))
      (λ d to apart up. let e = rw (self-same p) at up in absurd (true≢false (sym e)))
      (λ d down. ap (λ (o : TheOutbox). slice_index_or o.gate.released d 0) is ∙ zeros PARTIES d))
      refl

-- a crashed process is sound
pub crashed-sound : (n me len calls : ℕ) (was : TheProcess) (outbox : TheOutbox) → outbox ≡ empty_outbox me n → IsSoundAt n me len calls was → IsSoundAt n me len (calls + 1) (crashed outbox was)
crashed-sound n me len calls was outbox is s =
    record {
      short = s.short;
      state = λ e. absurd (true≢false e);
      log = record { owner = ap (λ (o : TheOutbox). o.log.owner) is; width = let many = ap (λ (o : TheOutbox). length o.log.queues) is in let made = length-replicate {A = TheQueue} (n + 1) no_queue in omega (arith, many, made) };
      senders = refl;
      whole = λ e. refl;
      planned = refl;
      begun_by = omega arith;
      incarnation = omega (arith, s.incarnation);
      own = s.own;
      count = s.count;
      saved_state = s.saved_state;
      saved_by = omega (arith, s.saved_by);
    }
