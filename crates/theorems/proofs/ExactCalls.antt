-- Every call of a single failure keeps a world exact, and loses nothing that is secured
use Rattle.std.proofs.Common.{◌≡◌, ◌≢◌, ℕ, zero, suc, ◌+◌, ◌<◌, ◌≤◌, List, [], ◌∷◌, ◌++◌, length, Bool, true, false, refl, sym, ap, ◌∙◌, subst, arith}
use Rattle.std.specs.Prelude.{Option, Some, None, nat_lt, nat_le, not, ◌&&◌, if◌then◌else◌, ◌==◌}
use Rattle.std.proofs.lemmas.Bool.Decides.{nat_tests}
use Rattle.world.specs.declared.message.Message.{Message}
use Rattle.world.specs.declared.packet.Packet.{Packet}
use Rattle.world.specs.declared.packet.Packet.TheVariants.{Delivery, Number, Acknowledgement}
use Rattle.world.specs.Phases.{Phase, Up, Busy, Down, Replaying, Resync, is_down, is_up, without, is_working, is_replaying}
use Rattle.world.specs.World.{World, put, is_inside}
use Rattle.world.specs.Logs.{length_of, is_entry}
use Rattle.world.specs.Plan.{chosen}
use Rattle.world.specs.Calls.{begin, phase_with, released_with, ready, peers, replay, finish, checkpoint, keep, recover, replay_begin, resync, arrive, after}
use Rattle.world.specs.Answers.{MayAnswer, Receives, ReceivesIf, ReceivesUp, ReceivesAs, NumbersAs, AcknowledgesAs, Finishes, Verdict, Next, Known, Ahead, judge, target_of}
use Rattle.world.specs.Refusals.{causes, refusal_of, is_to_busy}
use Rattle.world.specs.Legal.{is_single}
use Rattle.world.specs.declared.call.Call.{Call}
use Rattle.world.specs.declared.call.Call.TheVariants.{Input, Transmit, Copy, Lose, Arrive, Finish, Checkpoint, Trim, Crash, Recover, RecoverAlone, ReplayBegin, Resync as ResyncWith}
use Rattle.world.specs.declared.answer.Answer.{Answer}
use Rattle.world.specs.declared.answer.Answer.TheVariants.{Unreachable, Kept}
use Rattle.theorems.specs.Invariants.Secured.{Safe}
use Rattle.theorems.specs.Invariants.Sound.{PacketShape, is_recovering, Sound}
use Rattle.theorems.specs.Invariants.Exact.{PacketTrue, Exact}
use Rattle.theorems.proofs.Tests.{not-false, both}
use Rattle.theorems.proofs.PhaseLemmas.{up-down, up-phase, down-phase, resync-phase}
use Rattle.theorems.proofs.SecuredLemmas.{Carries, carries-grown, carries-self, carries-trans, carries-beside}
use Rattle.theorems.proofs.Frames.{Moves, grown-phase}
use Rattle.theorems.proofs.Wire.{exact-put, exact-transmit, carries-input, exact-input}
use Rattle.theorems.proofs.Arrivals.{exact-duplicate, exact-show, moves-begin, exact-begin}
use Rattle.theorems.proofs.Receipts.{carries-recorded, exact-note, acknowledged-at, carries-acknowledged, exact-acknowledge}
use Rattle.theorems.proofs.Commits.{grown-received, exact-commit}
use Rattle.theorems.proofs.Crashes.{carries-crash, exact-crash}
use Rattle.theorems.proofs.Checkpoints.{carries-checkpoint, exact-checkpoint}
use Rattle.theorems.proofs.Trims.{carries-trim, exact-trim}
use Rattle.theorems.proofs.Replays.{moves-ready, moves-replay, exact-replay, moves-replay_begin, exact-replay_begin}
use Rattle.theorems.proofs.Resyncs.{renumbered, sound-renumbered, carries-renumbered, exact-resync}
use Rattle.theorems.proofs.PlanLemmas.{chosen-none, plan-is}
use Rattle.theorems.proofs.Recoveries.{cut, carries-shortened, carries-revived, gathered, revives-replaying, revives-with, exact-recover}
use Rattle.theorems.proofs.Accepted.{clear, inside-is, verdict-next, transmits, checkpoints, others-are}

-- w is exact, and nothing that was secured in v is lost
pub record Preserves (v w : World) : Type 0 where
  pub carries : Carries v w
  pub exact : Exact w

preserves-wire : (w : World) (key : ℕ) (x : Option Packet) → PacketTrue w x → Exact w → Preserves w (record w { wire = put w.wire key x })
preserves-wire w key x t h = record { carries = carries-beside (carries-self w) w.released w.shown (put w.wire key x) w.started; exact = exact-put w key x t h }

preserves-begin : (w : World) (key d : ℕ) (m : Message) → Moves w d (Busy m) → w.phase d ≡ Up → Safe w d m → Sound w → Exact w → Preserves w (begin w key d m)
preserves-begin w key d m moves up is s h =
    record { carries = carries-beside (carries-grown (grown-phase w d (Busy m) moves s)) w.released w.shown (put w.wire key None) (w.started + 1); exact = exact-begin w key d m moves up is s h }

preserves-arrive-up : (w : World) (key : ℕ) (k : Packet) (a : Answer) → is_up (w.phase (target_of k)) ≡ true → is_to_busy w (Some k) ≡ false → PacketShape w (Some k) → PacketTrue w (Some k) → ReceivesUp w key k a → Sound w → Exact w → Preserves w (arrive w key (Some k) a)
preserves-arrive-up w key (Delivery zero m) a up busy shape is may s h = split (judge w zero m) refl may
  where
    split : (v : Verdict) → judge w zero m ≡ v → ReceivesAs w key zero m v a → Preserves w (arrive w key (Some (Delivery zero m)) a)
    split Next e may = rw may (record { carries = carries-beside (carries-self w) w.released (w.shown ++ m ∷ []) (put w.wire key None) w.started; exact = exact-show w key m is h })
    split Known e may = rw may (preserves-wire w key None tt h)
    split Ahead e may = rw may (preserves-wire w key None tt h)
preserves-arrive-up w key (Delivery (suc d) m) a up busy shape is may s h = split (judge w (suc d) m) refl may
  where
    idle : w.phase (suc d) ≡ Up
    idle = up-phase (w.phase (suc d)) up busy

    split : (v : Verdict) → judge w (suc d) m ≡ v → ReceivesAs w key (suc d) m v a → Preserves w (arrive w key (Some (Delivery (suc d) m)) a)
    split Next e may = rw may (preserves-begin w key (suc d) m (moves-begin w (suc d) m (omega arith) shape.inside idle shape.other shape.from (verdict-next _ _ e)) idle is s h)
    split Known e may = rw may.2 (record { carries = carries-beside (carries-self w) w.released w.shown _ w.started; exact = exact-duplicate w key (suc d) m may.0 h })
    split Ahead e may = rw may (preserves-wire w key None tt h)
preserves-arrive-up w key (Number r t i m k) a up busy shape is may s h = split ((k == w.incarnation r) && is_entry w t r i) refl may
  where
    present : ((k == w.incarnation r) && is_entry w t r i) ≡ true → k ≡ w.incarnation r
    present e = let x : (k == w.incarnation r) ≡ true = (both (k == w.incarnation r) (is_entry w t r i) e).0 in grind (arith, nat_tests)

    split : (b : Bool) → ((k == w.incarnation r) && is_entry w t r i) ≡ b → NumbersAs w key b a → Preserves w (arrive w key (Some (Number r t i m k)) a)
    split true e may = rw may.2 (record {
      carries = carries-beside (carries-recorded w r t i m (up-down _ (shape.live (present e)))) w.released w.shown _ w.started;
      exact = exact-note w key r t i m k may.0 (present e) (up-down _ (shape.live (present e))) (is (present e)) s h;
    })
    split false e may = rw may (preserves-wire w key None tt h)
preserves-arrive-up w key (Acknowledgement t r m k) a up busy shape is may s h = split ((k == w.incarnation r) && nat_le m (length_of w r)) refl may
  where
    present : ((k == w.incarnation r) && nat_le m (length_of w r)) ≡ true → k ≡ w.incarnation r
    present e = let x : (k == w.incarnation r) ≡ true = (both (k == w.incarnation r) (nat_le m (length_of w r)) e).0 in grind (arith, nat_tests)

    split : (b : Bool) → ((k == w.incarnation r) && nat_le m (length_of w r)) ≡ b → AcknowledgesAs b a → Preserves w (arrive w key (Some (Acknowledgement t r m k)) a)
    split true e may = rw may (record { carries = carries-beside (carries-acknowledged w r m) (acknowledged-at w r m).released w.shown (put w.wire key None) w.started; exact = exact-acknowledge w key t r m (up-down _ (shape.live (present e))) (is (present e)).recorded s h })
    split false e may = rw may (preserves-wire w key None tt h)

preserves-unreachable : (w : World) (key : ℕ) (k : Packet) → Exact w → Preserves w (arrive w key (Some k) Unreachable)
preserves-unreachable w key (Delivery d m) h = preserves-wire w key None tt h
preserves-unreachable w key (Number r s i m k) h = preserves-wire w key None tt h
preserves-unreachable w key (Acknowledgement s r m k) h = preserves-wire w key None tt h

preserves-arrive : (w : World) (key : ℕ) (x : Option Packet) (a : Answer) → is_to_busy w x ≡ false → PacketShape w x → PacketTrue w x → Receives w key x a → Sound w → Exact w → Preserves w (arrive w key x a)
preserves-arrive w key None a busy shape is may s h = absurd may
preserves-arrive w key (Some k) a busy shape is may s h = split (is_up (w.phase (target_of k))) refl may
  where
    split : (b : Bool) → is_up (w.phase (target_of k)) ≡ b → ReceivesIf b w key k a → Preserves w (arrive w key (Some k) a)
    split true e may = preserves-arrive-up w key k a e busy shape is may s h
    split false e may = rw may (preserves-unreachable w key k h)

carries-ready : (w : World) (p : ℕ) (rs : List ℕ) → 0 < p → p ≤ w.count → is_recovering (w.phase p) ≡ true → Sound w → Carries w (ready w p rs)
carries-ready w p rs a b e s = carries-beside (carries-grown (grown-phase w p (phase_with rs) (moves-ready w p rs a b e s) s)) (put w.released p (released_with w p rs)) w.shown w.wire w.started

preserves-replay : (w : World) (p j : ℕ) (working : Bool) → 0 < p → p ≤ w.count → w.phase p ≡ Replaying j working false → Sound w → Exact w → Preserves w (replay w p j false)
preserves-replay w p j working a b e s h = record { carries = split (nat_lt (w.saved p + suc j) (length (w.history p))) refl; exact = exact-replay w p j working a b e s h }
  where
    split : (c : Bool) → nat_lt (w.saved p + suc j) (length (w.history p)) ≡ c → Carries w (if c then record w { phase = put w.phase p (Replaying (suc j) false false) } else ready w p (peers w p false))
    split true f = carries-grown (grown-phase w p (Replaying (suc j) false false) (moves-replay w p j working false a b e f) s)
    split false f = carries-ready w p (peers w p false) a b (rw e refl) s

preserves-finish : (w : World) (p : ℕ) (x : Phase) (a : Answer) → 0 < p → p ≤ w.count → w.phase p ≡ x → Finishes w p x a → Sound w → Exact w → Preserves w (finish w p x a)
preserves-finish w p Up a i b e may s h = absurd may
preserves-finish w p (Busy m) a i b e may s h = rw may.2 (record { carries = carries-beside (carries-grown (grown-received w p m e s)) w.released w.shown _ w.started; exact = exact-commit w p m may.0 e s h })
preserves-finish w p Down a i b e may s h = absurd may
preserves-finish w p (Replaying j working alone) a i b e may s h =
    let not-alone : alone ≡ false = rw e at (h.alone p) in
    let e' : w.phase p ≡ Replaying j working false = e ∙ ap (λ c. Replaying j working c) not-alone in
    rw (may, not-alone) (preserves-replay w p j working i b e' s h)
preserves-finish w p (Resync todo) a i b e may s h = absurd may

preserves-begins-replay : (w : World) (p : ℕ) (x : Phase) → 0 < p → p ≤ w.count → w.phase p ≡ x → is_replaying x ≡ true → Sound w → Exact w → Preserves w (replay_begin w p)
preserves-begins-replay w p Up i b e r s h = absurd (cc)
preserves-begins-replay w p (Busy m) i b e r s h = absurd (cc)
preserves-begins-replay w p Down i b e r s h = absurd (cc)
preserves-begins-replay w p (Replaying j working alone) i b e r s h =
    let not-alone : alone ≡ false = rw e at (h.alone p) in
    let e' : w.phase p ≡ Replaying j working false = e ∙ ap (λ c. Replaying j working c) not-alone in
    record { carries = begun (rw e' refl); exact = exact-replay_begin w p j working i b e' s h }
  where
    begun : replay_begin w p ≡ replay_begin w p → Carries w (replay_begin w p)
    begun _ = rw e (carries-beside (carries-grown (grown-phase w p (Replaying j true alone) (moves-replay_begin w p j working alone i b e s) s)) w.released w.shown w.wire (w.started + 1))
preserves-begins-replay w p (Resync todo) i b e r s h = absurd (cc)

preserves-resync : (w : World) (p r : ℕ) (todo : List ℕ) → 0 < p → p ≤ w.count → w.phase p ≡ Resync todo → is_down (w.phase r) ≡ false → Sound w → Exact w → Preserves w (resync w p r)
preserves-resync w p r todo a b e live s h =
    record { carries = rw e (carries-trans (carries-renumbered w p r s h live) (carries-ready (renumbered w p r) p (without todo r) a b (rw e refl) (sound-renumbered w p r s))); exact = exact-resync w p r s h todo a b e live }

preserves-recover : (w : World) (p k : ℕ) → 0 < p → p ≤ w.count → w.phase p ≡ Down → w.saved p ≤ k → length (gathered w p k) ≡ k → chosen w p (gathered w p k) ≡ None → Sound w → Exact w → Preserves w (recover w p k false)
preserves-recover w p k a b down l e none s h = record { carries = split (nat_lt (w.saved p) k) refl; exact = exact-recover w p k a b down l e none s h }
  where
    kept : Carries w (keep w p k)
    kept =
        let r = plan-is w p s h k l e in
        let P : List Message → Type 0 = λ g. chosen w p g ≡ None in
        let Q : List Message → Type 0 = λ g. Carries w (cut w p g k) in
        subst Q (sym r.0) (carries-shortened w p k down l r.1 r.2 (chosen-none w p s h k r.1 (subst P r.0 none)) s h)

    split : (c : Bool) → nat_lt (w.saved p) k ≡ c → Carries w (if c then record (keep w p k) { phase = put w.phase p (Replaying 0 false false) } else ready (keep w p k) p (peers w p false))
    split true t = carries-trans kept (carries-revived (keep w p k) p (Replaying 0 false false) (revives-replaying w p k false a b down (grind (arith, nat_tests)) e))
    split false t = carries-trans kept (carries-beside (carries-revived (keep w p k) p (phase_with (peers w p false)) (revives-with w p k (peers w p false) a b down e)) (put w.released p (released_with (keep w p k) p (peers w p false))) w.shown w.wire w.started)

pub preserves-call : (room : ℕ) (w : World) (call : Call) (a : Answer) → refusal_of w room call ≡ None → MayAnswer w call a → is_single w call ≡ true → Sound w → Exact w → Preserves w (after w call a)
preserves-call room w (Input d feed x) a free may one s h = record { carries = carries-input w d feed x; exact = exact-input w d feed x s h }
preserves-call room w (Transmit p d i) a free may one s h = let t = transmits room w p d i free in
    rw may.2 (record { carries = carries-beside (carries-self w) w.released w.shown _ w.started; exact = exact-transmit w p d i may.0 t.3 s h })
preserves-call room w (Copy key) a free may one s h = rw may.2 (preserves-wire w may.0 (w.wire key) (h.packets key) h)
preserves-call room w (Lose key) a free may one s h = preserves-wire w key None tt h
preserves-call room w (Arrive key) a free may one s h = preserves-arrive w key (w.wire key) a (clear (causes w room (Arrive key)) free).0 (s.packets key) (h.packets key) may s h
preserves-call room w (Finish p) a free may one s h =
    let t = both (is_inside w p) (is_working (w.phase p)) (not-false _ (clear (causes w room (Finish p)) free).0) in let i = inside-is w p (ap not t.0) in preserves-finish w p (w.phase p) a i.0 i.1 refl may s h
preserves-call room w (Checkpoint p) a free may one s h =
    record { carries = carries-beside (carries-checkpoint w p (checkpoints room w p free)) (checkpoint w p).released w.shown w.wire w.started; exact = exact-checkpoint w p (checkpoints room w p free) s h }
preserves-call room w (Trim d) a free may one s h = record { carries = carries-trim w d s h; exact = exact-trim w d s h }
preserves-call room w (Crash p) a free may one s h =
    let x = clear (causes w room (Crash p)) free in
    let others : (q : ℕ) → q ≢ p → is_up (w.phase q) ≡ true = others-are w p one s in
    record { carries = carries-crash w p others x.1.0 s h; exact = exact-crash w p others x.1.0 s h }
preserves-call room w (Recover p) (Kept k) free may one s h =
    let x = clear (causes w room (Recover p)) free in let i = inside-is w p x.0 in
    preserves-recover w p k i.0 i.1 (down-phase _ (not-false _ x.1.1.0)) may.0 may.1 may.2 s h
preserves-call room w (Recover p) a free may one s h = absurd may
preserves-call room w (RecoverAlone p) a free may one s h = absurd (cc)
preserves-call room w (ReplayBegin p) a free may one s h =
    let x = clear (causes w room (ReplayBegin p)) free in let i = inside-is w p x.0 in
    preserves-begins-replay w p (w.phase p) i.0 i.1 refl (not-false _ x.1.1.0) s h
preserves-call room w (ResyncWith p r) a free may one s h =
    let x = clear (causes w room (ResyncWith p r)) free in
    let t = both (is_inside w p) (is_inside w r) (not-false _ x.0) in let i = inside-is w p (ap not t.0) in
    let todo = resync-phase (w.phase p) r (not-false _ x.1.1.1.0) in
    preserves-resync w p r todo.0 i.0 i.1 todo.1 (up-down _ (not-false _ x.1.1.0)) s h
