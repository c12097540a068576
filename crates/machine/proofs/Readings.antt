-- What is read of a process, as each world that the machine stands for has it
use Rattle.std.proofs.Common.{◌≡◌, ℕ, ◌+◌, ◌<◌, ◌≤◌, List, [], length, map, take, Bool, true, false, refl, sym, ap, ◌∙◌, arith}
use Rattle.std.specs.Prelude.{◌==◌, if◌then◌else◌}
use Rattle.std.proofs.lemmas.Bool.{false≢true}
use Rattle.std.proofs.lemmas.Bool.Decides.{nat_tests}
use Rattle.std.proofs.lemmas.List.{length-map}
use Rattle.theorems.specs.Invariants.Sound.{Replays}
use Rattle.theorems.proofs.ListLemmas.{take-length}
use Rattle.sender_log.specs.Queue.{no_queue}
use Rattle.sender_log.specs.Log.{queue_of}
use Rattle.world.specs.declared.message.Message.{Message}
use Rattle.world.specs.Phases.{Phase, Up, Busy, Down, Replaying, Resync, is_down}
use Rattle.world.specs.World.{World}
use Rattle.world.specs.Logs.{length_in, length_of, state_of}
use Rattle.session_process.specs.Process.{received}
use Rattle.session_process.specs.Outbox.{TheOutbox}
use Rattle.session_process.specs.Mode.{is_lost}
use Rattle.session_process.specs.declared.mode.Mode.{Mode}
use Rattle.session_process.specs.declared.mode.Mode.TheVariants as modes
use Rattle.machine.specs.Work.{held_by, phase_of}
use Rattle.machine.specs.Simulation.{TheMachine, StandsAt, Stands, process_at, log_at, gate_at}
use Rattle.machine.specs.Readings.{ReceiptsStand, LogStands, GateStands}
use Rattle.machine.proofs.Status.{at_process, down_is, held_at, keeps_at, holds_at}
use Rattle.machine.proofs.Openings.{replicate-at}

-- no process has more messages in its state than in its history
length_in-within : (x : Phase) (h : List Message) (saved : ℕ) → saved ≤ length h → Replays saved (length h) x → length_in h saved x ≤ length h
length_in-within Up h saved l r = omega arith
length_in-within (Busy m) h saved l r = omega arith
length_in-within Down h saved l r = l
length_in-within (Replaying j working alone) h saved l r = omega arith
length_in-within (Resync todo) h saved l r = omega arith

length_in-down : (x : Phase) (h : List Message) (saved : ℕ) → is_down x ≡ true → length_in h saved x ≡ saved
length_in-down Up h saved e = absurd (false≢true e)
length_in-down (Busy m) h saved e = absurd (false≢true e)
length_in-down Down h saved e = refl
length_in-down (Replaying j working alone) h saved e = absurd (false≢true e)
length_in-down (Resync todo) h saved e = absurd (false≢true e)

held-lost : (t : Mode) (saved : ℕ) (h : List Message) → is_lost t ≡ true → held_by t saved h ≡ []
held-lost modes.Live saved h e = absurd (false≢true e)
held-lost modes.Down saved h e = refl
held-lost (modes.Replaying plan alone) saved h e = absurd (false≢true e)
held-lost (modes.Resync peers) saved h e = absurd (false≢true e)

module _ (m : TheMachine) (w : World) (s : Stands m w) (p : ℕ) (inside : 0 < p) (within : p ≤ length m.processes) where
  at : StandsAt (length m.processes) p (process_at m p) (w.handlers.state p) (w.handlers.sends p) (w.history p) (w.phase p) (w.incarnation p) (w.acknowledged p) (w.saved p) (w.saved_trims p)
  at = at_process m w s p inside within

  mode_is : (b : Bool) → is_down (w.phase p) ≡ b → is_lost (process_at m p).mode ≡ b
  mode_is b e = sym (down_is m w s p inside within) ∙ e

  -- one that isn't down has the state of its history
  pub state-back : is_down (w.phase p) ≡ false → (process_at m p).state ≡ state_of w p
  state-back e =
      let back : is_lost (process_at m p).mode ≡ false = mode_is false e in
      at.state_is back ∙ ap (w.handlers.state p) (sym (held_at m w s p inside within back))

  -- one that is down has none
  pub state-gone : is_down (w.phase p) ≡ true → (process_at m p).state ≡ []
  state-gone e = (at.gone (mode_is true e)).0

  -- one that has its state has as many messages in it as it received
  pub length-back : is_lost (process_at m p).mode ≡ false → received (process_at m p) ≡ length_of w p
  length-back back =
      ap length at.senders ∙ length-map (held_by (process_at m p).mode (w.saved p) (w.history p)) (λ (x : Message). x.sender)
      ∙ ap length (sym (held_at m w s p inside within back))
      ∙ take-length (w.history p) (length_of w p) (length_in-within (w.phase p) (w.history p) (w.saved p) (s.sound.saved p) (s.sound.replays p))

  -- one that is down, as many as its checkpoint
  pub length-gone : is_lost (process_at m p).mode ≡ true → length (process_at m p).saved.senders ≡ length_of w p
  length-gone lost =
      ap length at.saves.senders_are ∙ length-map (take (w.saved p) (w.history p)) (λ (x : Message). x.sender)
      ∙ take-length (w.history p) (w.saved p) (s.sound.saved p)
      ∙ sym (length_in-down (w.phase p) (w.history p) (w.saved p) (down_is m w s p inside within ∙ lost))

  -- its phase, incarnation, receipts and gate are those of the world
  pub phase-is : w.phase p ≡ phase_of (length m.processes) (process_at m p).mode (process_at m p).working
  phase-is = at.phase_is

  pub receipts-stand : ReceiptsStand w p (process_at m p).receipts
  receipts-stand =
      record {
        senders = λ e. at.senders ∙ ap (map (λ (x : Message). x.sender)) (sym (held_at m w s p inside within (mode_is false e)));
        none = λ e. at.senders ∙ ap (map (λ (x : Message). x.sender)) (held-lost (process_at m p).mode (w.saved p) (w.history p) (mode_is true e));
        flags = at.flags;
        acknowledged = at.acknowledged_is;
      }

  pub gate-stands : GateStands w p (gate_at m p)
  gate-stands d to apart =
      let near : d ≤ length m.processes = omega (arith, to, s.shows.count) in
      record { holds = λ up. holds_at m w s p d inside within near apart up; shut = λ off. s.shows.shut p d inside within off }

-- a log that is read. That of a process that is down is empty
pub log-stands : (m : TheMachine) (w : World) → Stands m w → (p : ℕ) → p ≤ length m.processes → LogStands w p (log_at m p)
log-stands m w s p within d to apart =
    let near : d ≤ length m.processes = omega (arith, to, s.shows.count) in
    record { kept = λ back. keeps_at m w s p d within near apart back; none = λ down. by_sender (p == 0) refl down }
  where
    by_sender : (b : Bool) → (p == 0) ≡ b → is_down (w.phase p) ≡ true → queue_of d (if b then m.outside.log else (process_at m p).outbox.log) ≡ no_queue
    by_sender true e down =
        let none : p ≡ 0 = grind (arith, nat_tests) in
        absurd (false≢true (sym (ap is_down s.shows.outside) ∙ ap (λ q. is_down (w.phase q)) (sym none) ∙ down))
    by_sender false e down =
        let inside : 0 < p = grind (arith, nat_tests) in
        let empty = ((at_process m w s p inside within).gone (sym (down_is m w s p inside within) ∙ down)).1 in
        ap (λ (b : TheOutbox). queue_of d b.log) empty ∙ replicate-at (length m.processes + 1) d no_queue
