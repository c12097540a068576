-- The jobs that calls start
use Rattle.std.proofs.Common.{◌≡◌, ℕ, zero, suc, Bool, true, false, refl, sym, ap, subst, arith, true≢false}
use Rattle.std.specs.Prelude.{◌&&◌, nat_lt, Option, Some, None, Ok, slice_index_or}
use Rattle.std.proofs.lemmas.Bool.Decides.{nat_tests}
use Rattle.replay.specs.Task.{TheTask}
use Rattle.world.specs.declared.message.Message.{Message}
use Rattle.world.specs.declared.packet.Packet.{Packet}
use Rattle.world.specs.declared.packet.Packet.TheVariants.{Delivery, Number, Acknowledgement}
use Rattle.world.specs.declared.call.Call.TheVariants.{Arrive}
use Rattle.world.specs.declared.answer.Answer.TheVariants.{Started}
use Rattle.world.specs.Phases.{is_up}
use Rattle.world.specs.World.{World}
use Rattle.world.specs.Answers.{Receives, ReceivesIf, ReceivesAs, NumbersAs, AcknowledgesAs, Verdict, Next, Known, Ahead, judge}
use Rattle.world.specs.Refusals.{starts, is_next}
use Rattle.machine.specs.Simulation.{TheMachine, Stands, Simulates}
use Rattle.machine.specs.Arrival.{answer_of, IsJobFor, IsJobOf}
use Rattle.machine.specs.declared.arrival.Arrival.{Arrival}
use Rattle.machine.specs.declared.arrival.Arrival.TheVariants as arrivals
use Rattle.machine.specs.Dispatch.{Opened, begun_by, job_of, job_in}

-- an answer that starts a job is that of a message which does
verdict-starts : (w : World) (key d n : ℕ) (m : Message) (v : Verdict) → ReceivesAs w key d m v (Started n) → (nat_lt 0 d && is_next v) ≡ true
verdict-starts w key zero n m Next e = absurd (cc)
verdict-starts w key zero n m Known e = absurd (cc)
verdict-starts w key zero n m Ahead e = absurd (cc)
verdict-starts w key (suc d) n m Next e = let here : nat_lt 0 (suc d) ≡ true = grind (arith, nat_tests) in rw here refl
verdict-starts w key (suc d) n m Known e = let no = e.2 in absurd (cc)
verdict-starts w key (suc d) n m Ahead e = absurd (cc)

starts-if : (w : World) (key d n : ℕ) (m : Message) (b : Bool) → ReceivesIf b w key (Delivery d m) (Started n) → (nat_lt 0 d && b && is_next (judge w d m)) ≡ true
starts-if w key d n m true e = both (nat_lt 0 d) (is_next (judge w d m)) (verdict-starts w key d n m (judge w d m) e)
  where
    both : (a b : Bool) → (a && b) ≡ true → (a && true && b) ≡ true
    both true true e = refl
    both true false e = e
    both false b e = e
starts-if w key d n m false e = absurd (cc)

number-starts : (w : World) (key n : ℕ) (b : Bool) → ¬ NumbersAs w key b (Started n)
number-starts w key n true e = let no = e.2 in cc
number-starts w key n false e = cc

acknowledgement-starts : (n : ℕ) (b : Bool) → ¬ AcknowledgesAs b (Started n)
acknowledgement-starts n true e = cc
acknowledgement-starts n false e = cc

-- an arrival that answers with a started job is of a packet that starts one
pub started-starts : (w : World) (key n : ℕ) (found : Option Packet) → Receives w key found (Started n) → starts w found ≡ true
started-starts w key n None e = absurd e
started-starts w key n (Some (Delivery d m)) e = starts-if w key d n m (is_up (w.phase d)) e
started-starts w key n (Some (Number r s i k incarnation)) e = absurd (by_phase (is_up (w.phase s)) e)
  where
    by_phase : (b : Bool) → ¬ ReceivesIf b w key (Number r s i k incarnation) (Started n)
    by_phase true e = number-starts w key n _ e
    by_phase false e = cc
started-starts w key n (Some (Acknowledgement s r k incarnation)) e = absurd (by_phase (is_up (w.phase r)) e)
  where
    by_phase : (b : Bool) → ¬ ReceivesIf b w key (Acknowledgement s r k incarnation) (Started n)
    by_phase true e = acknowledgement-starts n _ e
    by_phase false e = cc

begun-for : (w : World) (t : TheTask) (found : Option Packet) → starts w found ≡ true → IsJobFor found (arrivals.Started t) → begun_by (Started t.serial) found ≡ Some t.who.me
begun-for w t None e mine = absurd (true≢false (sym e))
begun-for w t (Some (Delivery d m)) e mine = by_place (nat_lt 0 d) refl
  where
    by_place : (b : Bool) → nat_lt 0 d ≡ b → Some d ≡ Some t.who.me
    by_place true f = ap Some (sym (mine d m (grind (arith, nat_tests)) refl))
    by_place false f = absurd (true≢false (sym (rw f at e)))
begun-for w t (Some (Number r s i k incarnation)) e mine = absurd (true≢false (sym e))
begun-for w t (Some (Acknowledgement s r k incarnation)) e mine = absurd (true≢false (sym e))

-- an arrival hands out the job that its answer tells, and otherwise none
pub arrival-opens : (old new : TheMachine) (room key : ℕ) (a : Arrival TheTask) → Simulates old new room (Arrive key) (Ok (answer_of a)) → IsJobOf new a → IsJobFor (slice_index_or old.slots key None) a
    → (w : World) → Stands old w → Opened new (job_of w (Arrive key) (answer_of a)) (job_in a)
arrival-opens old new room key (arrivals.Started t) step job mine w s =
    let found : IsJobFor (w.wire key) (arrivals.Started t) = subst (λ found. IsJobFor found (arrivals.Started t)) (sym (s.shows.wire key)) mine in
    (begun-for w t (w.wire key) (started-starts w key t.serial (w.wire key) (step w s).answered) found, job)
arrival-opens old new room key (arrivals.Duplicate k) step job mine w s = refl
arrival-opens old new room key arrivals.Early step job mine w s = refl
arrival-opens old new room key (arrivals.Shown ssn) step job mine w s = refl
arrival-opens old new room key arrivals.ShownBefore step job mine w s = refl
arrival-opens old new room key (arrivals.Numbered k) step job mine w s = refl
arrival-opens old new room key arrivals.Acknowledged step job mine w s = refl
arrival-opens old new room key arrivals.Unreachable step job mine w s = refl
arrival-opens old new room key arrivals.Stale step job mine w s = refl
