-- Open jobs, as the fields and as the worlds tell them
use Rattle.std.proofs.Common.{◌≡◌, ℕ, zero, suc, ◌+◌, ◌-◌, ◌<◌, ◌≤◌, List, [], ◌∷◌, ◌++◌, length, take, false, refl, sym, ap, ◌∙◌, subst, arith}
use Rattle.std.specs.Prelude.{Option, Some, None, slice_get, slice_index_or}
use Rattle.std.proofs.lemmas.Bool.Decides.{nat_tests}
use Rattle.std.proofs.lemmas.List.{get_or-set_same, length-set}
use Rattle.std.proofs.lemmas.Option.{slice_get-get_or}
use Rattle.helpers.specs.declared.effects.Who.{Who}
use Rattle.replay.specs.Task.{TheTask}
use Rattle.theorems.proofs.ListLemmas.{take-length}
use Rattle.world.specs.declared.message.Message.{Message}
use Rattle.world.specs.declared.packet.Packet.{Packet}
use Rattle.world.specs.History.{nth}
use Rattle.world.specs.World.{World}
use Rattle.world.specs.Logs.{length_of, state_of, open_in, open_message}
use Rattle.session_process.specs.Process.{TheProcess, idle_process, received}
use Rattle.session_process.specs.Mode.{is_lost}
use Rattle.session_process.specs.declared.mode.Mode.{Mode}
use Rattle.session_process.specs.declared.mode.Mode.TheVariants as modes
use Rattle.machine.specs.Simulation.{TheMachine, StandsAt, Stands, process_at}
use Rattle.machine.specs.Work.{phase_of, MayWork}
use Rattle.machine.specs.Jobs.{Begins, Matches}
use Rattle.machine.specs.Arrival.{HasItsLength, IsHandedOut, IsOpen}
use Rattle.machine.proofs.Status.{at_process, down_is}
use Rattle.machine.proofs.Readings.{length-back, state-back}

-- the elements of the second list follow those of the first
pub slice_get-behind : {X : Type 0} (xs ys : List X) (j : ℕ) → slice_get (xs ++ ys) (length xs + j) ≡ slice_get ys j
slice_get-behind [] ys j = let e : 0 + j ≡ j = omega arith in ap (slice_get ys) e
slice_get-behind (x ∷ xs) ys j = let e : suc (length xs) + j ≡ suc (length xs + j) = omega arith in ap (slice_get (x ∷ xs ++ ys)) e ∙ slice_get-behind xs ys j

-- the message that a process in this mode works on is its open one: a replayed one is the next of its history
open_in-phase_of : (n : ℕ) (t : Mode) (o : Option Message) (saved : ℕ) (h : List Message) → saved ≤ length h → MayWork t o saved h → open_in h saved (phase_of n t o) ≡ o
open_in-phase_of n modes.Live None saved h l may = refl
open_in-phase_of n modes.Live (Some m) saved h l may = refl
open_in-phase_of n modes.Down o saved h l may = sym may
open_in-phase_of n (modes.Resync peers) o saved h l may = sym may
open_in-phase_of n (modes.Replaying plan alone) None saved h l may = refl
open_in-phase_of n (modes.Replaying plan alone) (Some m) saved h l may =
    let at : saved + plan.replayed + 1 ≡ suc (length (take saved h) + plan.replayed) = omega (arith, take-length h saved l) in
    ap (nth h) at ∙ ap (λ xs. slice_get xs (length (take saved h) + plan.replayed)) (sym may.messages) ∙ slice_get-behind (take saved h) plan.messages plan.replayed ∙ may.next

-- a process that works isn't down
working-back : (t : Mode) (o : Option Message) (saved : ℕ) (h : List Message) (x : Message) → MayWork t o saved h → o ≡ Some x → is_lost t ≡ false
working-back modes.Live o saved h x may e = refl
working-back modes.Down o saved h x may e = absurd (cc)
working-back (modes.Replaying plan alone) o saved h x may e = refl
working-back (modes.Resync peers) o saved h x may e = refl

module _ (m : TheMachine) (t : TheTask) (w : World) (s : Stands m w) where
  module _ (inside : 0 < t.who.me) (within : t.who.me ≤ length m.processes) where
    at : StandsAt (length m.processes) t.who.me (process_at m t.who.me) (w.handlers.state t.who.me) (w.handlers.sends t.who.me) (w.history t.who.me) (w.phase t.who.me) (w.incarnation t.who.me) (w.acknowledged t.who.me) (w.saved t.who.me) (w.saved_trims t.who.me)
    at = at_process m w s t.who.me inside within

    open_is : open_message w t.who.me ≡ (process_at m t.who.me).working
    open_is = ap (open_in (w.history t.who.me) (w.saved t.who.me)) at.phase_is ∙ open_in-phase_of (length m.processes) (process_at m t.who.me).mode (process_at m t.who.me).working (w.saved t.who.me) (w.history t.who.me) (s.sound.saved t.who.me) at.works

    incarnation_is : w.incarnation t.who.me ≡ (process_at m t.who.me).incarnation
    incarnation_is = at.incarnation_is

    module _ (working : (process_at m t.who.me).working ≡ Some t.message) where
      lost : is_lost (process_at m t.who.me).mode ≡ false
      lost = working-back (process_at m t.who.me).mode (process_at m t.who.me).working (w.saved t.who.me) (w.history t.who.me) t.message at.works working

      rsn_is : received (process_at m t.who.me) + 1 ≡ length_of w t.who.me + 1
      rsn_is = ap (λ j. j + 1) (length-back m w s t.who.me inside within lost)

      state_is : (process_at m t.who.me).state ≡ state_of w t.who.me
      state_is = state-back m w s t.who.me inside within (down_is m w s t.who.me inside within ∙ lost)

  -- a task that matches its process is that of an open job in the world
  pub opens : Matches m t → IsOpen t w
  opens k =
      record {
        inside = grind (arith, nat_tests, s.shows.count, k.inside, k.within);
        incarnation = sym k.incarnation ∙ sym (incarnation_is k.inside k.within);
        rsn = sym k.rsn ∙ rsn_is k.inside k.within k.message;
        state = sym k.state ∙ state_is k.inside k.within k.message;
        message = open_is k.inside k.within ∙ k.message;
        from = k.from;
        count = k.count ∙ sym s.shows.count;
      }

  -- and the other way round
  pub matches : IsOpen t w → Matches m t
  matches o =
      let inside : 0 < t.who.me = grind (arith, nat_tests, o.inside) in
      let within : t.who.me ≤ length m.processes = grind (arith, nat_tests, o.inside, s.shows.count) in
      let message : (process_at m t.who.me).working ≡ Some t.message = sym (open_is inside within) ∙ o.message in
      record {
        inside = inside;
        within = within;
        message = message;
        incarnation = sym (incarnation_is inside within) ∙ sym o.incarnation;
        rsn = rsn_is inside within message ∙ sym o.rsn;
        state = state_is inside within message ∙ sym o.state;
        from = o.from;
        count = o.count ∙ s.shows.count;
      }

-- the job that a process begins matches, whatever is on the wire
begun-matches : (m new : TheMachine) (to : ℕ) (x : Message) (t : TheTask) (slots : List (Option Packet)) → Begins m new to x t → 0 < to → to ≤ length m.processes → Matches (record new { slots = slots }) t
begun-matches m new to x t slots b positive within =
    let y : TheProcess = record (process_at m to) { working = Some x } in
    let me_is : t.who.me ≡ to = ap (λ (q : Who). q.me) b.who in
    let len : length new.processes ≡ length m.processes = ap (λ (v : TheMachine). length v.processes) b.becomes ∙ length-set m.processes (to - 1) y in
    let kept : process_at new to ≡ y = ap (λ (v : TheMachine). process_at v to) b.becomes ∙ get_or-set_same m.processes (to - 1) y (idle_process 0 0 0) (omega arith) in
    let at : process_at new t.who.me ≡ y = ap (process_at new) me_is ∙ kept in
    record {
      inside = omega (arith, me_is);
      within = omega (arith, me_is, len);
      message = ap (λ (z : TheProcess). z.working) at ∙ ap Some (sym b.message_is);
      incarnation = ap (λ (z : TheProcess). z.incarnation) at ∙ sym b.incarnation;
      rsn = ap (λ (z : TheProcess). received z + 1) at ∙ sym b.rsn;
      state = ap (λ (z : TheProcess). z.state) at ∙ sym b.state;
      from = ap (λ (q : Who). q.from) b.who ∙ ap (λ (z : Message). z.sender) (sym b.message_is);
      count = ap (λ (q : Who). q.count) b.who ∙ sym len;
    }

-- its state is as long as that of its process
begun-length : (m new : TheMachine) (to : ℕ) (x : Message) (t : TheTask) → Begins m new to x t → HasItsLength new t
begun-length m new to x t b e =
    let me_is : to ≡ t.who.me = sym (ap (λ (q : Who). q.me) b.who) in
    let same : m.lengths ≡ new.lengths = sym (ap (λ (v : TheMachine). v.lengths) b.becomes) in
    b.size e ∙ (λ i. slice_index_or (same i) (me_is i - 1) e)

-- the task that a process begins is that of its open job, whatever is on the wire
pub handed-out : (m new : TheMachine) (to : ℕ) (x : Message) (t : TheTask) (slots : List (Option Packet)) → Begins m new to x t → 0 < to → to ≤ length m.processes → IsHandedOut (record new { slots = slots }) t
handed-out m new to x t slots b positive within =
    (begun-length m new to x t b, λ w s. opens (record new { slots = slots }) t w s (begun-matches m new to x t slots b positive within))
