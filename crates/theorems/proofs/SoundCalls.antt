-- Every call keeps a world sound
use Rattle.std.proofs.Common.{◌≡◌, ℕ, zero, suc, ◌<◌, ◌≤◌, length, Bool, true, false, refl, ap, arith}
use Rattle.std.specs.Prelude.{Option, Some, None, nat_le, not, ◌&&◌, ◌==◌}
use Rattle.world.specs.declared.packet.Packet.{Packet}
use Rattle.world.specs.declared.packet.Packet.TheVariants.{Delivery, Number, Acknowledgement}
use Rattle.world.specs.Phases.{Phase, Up, Busy, Down, Replaying, Resync, is_up, is_working, is_replaying}
use Rattle.world.specs.World.{World, is_inside}
use Rattle.world.specs.Logs.{length_of, is_entry}
use Rattle.world.specs.Calls.{finish, replay_begin, arrive, after}
use Rattle.world.specs.Answers.{MayAnswer, Receives, ReceivesIf, ReceivesUp, ReceivesAs, NumbersAs, AcknowledgesAs, Finishes, Verdict, Next, Known, Ahead, judge, target_of}
use Rattle.world.specs.Refusals.{causes, refusal_of, is_to_busy}
use Rattle.world.specs.declared.call.Call.{Call}
use Rattle.world.specs.declared.call.Call.TheVariants.{Input, Transmit, Copy, Lose, Arrive, Finish, Checkpoint, Trim, Crash, Recover, RecoverAlone, ReplayBegin, Resync as ResyncWith}
use Rattle.world.specs.declared.answer.Answer.{Answer}
use Rattle.world.specs.declared.answer.Answer.TheVariants.{Unreachable, Kept}
use Rattle.theorems.specs.Invariants.Sound.{PacketShape, Sound}
use Rattle.theorems.proofs.Tests.{at_most, not-false, both}
use Rattle.theorems.proofs.PhaseLemmas.{up-length, up-phase, down-phase, resync-phase}
use Rattle.theorems.proofs.Wire.{sound-put, sound-transmit, sound-input}
use Rattle.theorems.proofs.Arrivals.{sound-duplicate, sound-show, moves-begin, sound-begin}
use Rattle.theorems.proofs.Receipts.{sound-note, sound-acknowledge}
use Rattle.theorems.proofs.Commits.{sound-commit}
use Rattle.theorems.proofs.Crashes.{sound-crash}
use Rattle.theorems.proofs.Checkpoints.{sound-checkpoint}
use Rattle.theorems.proofs.Trims.{sound-trim}
use Rattle.theorems.proofs.Replays.{sound-replay, sound-replay_begin}
use Rattle.theorems.proofs.Resyncs.{sound-resync}
use Rattle.theorems.proofs.Recoveries.{sound-recover}
use Rattle.theorems.proofs.Accepted.{clear, inside-is, verdict-next, transmits, checkpoints}

sound-arrive-up : (w : World) (key : ℕ) (k : Packet) (a : Answer) → is_up (w.phase (target_of k)) ≡ true → is_to_busy w (Some k) ≡ false → PacketShape w (Some k) → ReceivesUp w key k a → Sound w → Sound (arrive w key (Some k) a)
sound-arrive-up w key (Delivery zero m) a up busy shape may h = split (judge w zero m) refl may
  where
    split : (v : Verdict) → judge w zero m ≡ v → ReceivesAs w key zero m v a → Sound (arrive w key (Some (Delivery zero m)) a)
    split Next e may = rw may (sound-show w key m (verdict-next _ _ e) h)
    split Known e may = rw may (sound-put w key None tt h)
    split Ahead e may = rw may (sound-put w key None tt h)
sound-arrive-up w key (Delivery (suc d) m) a up busy shape may h = split (judge w (suc d) m) refl may
  where
    is : w.phase (suc d) ≡ Up
    is = up-phase _ up busy

    split : (v : Verdict) → judge w (suc d) m ≡ v → ReceivesAs w key (suc d) m v a → Sound (arrive w key (Some (Delivery (suc d) m)) a)
    split Next e may = rw may (sound-begin w key (suc d) m (moves-begin w (suc d) m (omega arith) shape.inside is shape.other shape.from (verdict-next _ _ e)) h)
    split Known e may = rw may.2 (sound-duplicate w key (suc d) m may.0 up h)
    split Ahead e may = rw may (sound-put w key None tt h)
sound-arrive-up w key (Number r s i m k) a up busy shape may h = split ((k == w.incarnation r) && is_entry w s r i) may
  where
    split : (b : Bool) → NumbersAs w key b a → Sound (arrive w key (Some (Number r s i m k)) a)
    split true may = rw may.2 (sound-note w key r s i m k may.0 shape h)
    split false may = rw may (sound-put w key None tt h)
sound-arrive-up w key (Acknowledgement s r m k) a up busy shape may h = split ((k == w.incarnation r) && nat_le m (length_of w r)) refl may
  where
    within : ((k == w.incarnation r) && nat_le m (length_of w r)) ≡ true → m ≤ length (w.history r)
    within e = let t : nat_le m (length_of w r) ≡ true = (both (k == w.incarnation r) (nat_le m (length_of w r)) e).1 in let l : m ≤ length_of w r = at_most m (length_of w r) t in let n : length_of w r ≡ length (w.history r) = up-length (w.phase r) up (w.history r) (w.saved r) in omega arith

    split : (b : Bool) → ((k == w.incarnation r) && nat_le m (length_of w r)) ≡ b → AcknowledgesAs b a → Sound (arrive w key (Some (Acknowledgement s r m k)) a)
    split true e may = rw may (sound-acknowledge w key r m (within e) h)
    split false e may = rw may (sound-put w key None tt h)

sound-unreachable : (w : World) (key : ℕ) (k : Packet) → Sound w → Sound (arrive w key (Some k) Unreachable)
sound-unreachable w key (Delivery d m) h = sound-put w key None tt h
sound-unreachable w key (Number r s i m k) h = sound-put w key None tt h
sound-unreachable w key (Acknowledgement s r m k) h = sound-put w key None tt h

sound-arrive : (w : World) (key : ℕ) (x : Option Packet) (a : Answer) → is_to_busy w x ≡ false → PacketShape w x → Receives w key x a → Sound w → Sound (arrive w key x a)
sound-arrive w key None a busy shape may h = absurd may
sound-arrive w key (Some k) a busy shape may h = split (is_up (w.phase (target_of k))) refl may
  where
    split : (b : Bool) → is_up (w.phase (target_of k)) ≡ b → ReceivesIf b w key k a → Sound (arrive w key (Some k) a)
    split true e may = sound-arrive-up w key k a e busy shape may h
    split false e may = rw may (sound-unreachable w key k h)

sound-finish : (w : World) (p : ℕ) (x : Phase) (a : Answer) → 0 < p → p ≤ w.count → w.phase p ≡ x → Finishes w p x a → Sound w → Sound (finish w p x a)
sound-finish w p Up a i b e may h = absurd may
sound-finish w p (Busy m) a i b e may h = rw may.2 (sound-commit w p m may.0 e h)
sound-finish w p Down a i b e may h = absurd may
sound-finish w p (Replaying j working alone) a i b e may h = rw may (sound-replay w p j working alone i b e h)
sound-finish w p (Resync todo) a i b e may h = absurd may

sound-begins-replay : (w : World) (p : ℕ) (x : Phase) → 0 < p → p ≤ w.count → w.phase p ≡ x → is_replaying x ≡ true → Sound w → Sound (replay_begin w p)
sound-begins-replay w p Up i b e r h = absurd (cc)
sound-begins-replay w p (Busy m) i b e r h = absurd (cc)
sound-begins-replay w p Down i b e r h = absurd (cc)
sound-begins-replay w p (Replaying j working alone) i b e r h = sound-replay_begin w p j working alone i b e h
sound-begins-replay w p (Resync todo) i b e r h = absurd (cc)

pub sound-call : (room : ℕ) (w : World) (call : Call) (a : Answer) → refusal_of w room call ≡ None → MayAnswer w call a → Sound w → Sound (after w call a)
sound-call room w (Input d feed x) a free may h = sound-input w d feed x h
sound-call room w (Transmit p d i) a free may h = let t = transmits room w p d i free in rw may.2 (sound-transmit w p d i may.0 t.0 t.1 t.2 h)
sound-call room w (Copy key) a free may h = rw may.2 (sound-put w may.0 (w.wire key) (h.packets key) h)
sound-call room w (Lose key) a free may h = sound-put w key None tt h
sound-call room w (Arrive key) a free may h = sound-arrive w key (w.wire key) a (clear (causes w room (Arrive key)) free).0 (h.packets key) may h
sound-call room w (Finish p) a free may h =
    let t = both (is_inside w p) (is_working (w.phase p)) (not-false _ (clear (causes w room (Finish p)) free).0) in let i = inside-is w p (ap not t.0) in sound-finish w p (w.phase p) a i.0 i.1 refl may h
sound-call room w (Checkpoint p) a free may h = sound-checkpoint w p (checkpoints room w p free) h
sound-call room w (Trim d) a free may h = sound-trim w d h
sound-call room w (Crash p) a free may h = let i = inside-is w p (clear (causes w room (Crash p)) free).0 in sound-crash w p i.0 i.1 h
sound-call room w (Recover p) (Kept k) free may h =
    let x = clear (causes w room (Recover p)) free in let i = inside-is w p x.0 in
    sound-recover w p k false i.0 i.1 (down-phase _ (not-false _ x.1.1.0)) may.0 may.1 h
sound-call room w (Recover p) a free may h = absurd may
sound-call room w (RecoverAlone p) (Kept k) free may h =
    let x = clear (causes w room (RecoverAlone p)) free in let i = inside-is w p x.0 in
    sound-recover w p k true i.0 i.1 (down-phase _ (not-false _ x.1.0)) may.0 may.1 h
sound-call room w (RecoverAlone p) a free may h = absurd may
sound-call room w (ReplayBegin p) a free may h =
    let x = clear (causes w room (ReplayBegin p)) free in let i = inside-is w p x.0 in
    sound-begins-replay w p (w.phase p) i.0 i.1 refl (not-false _ x.1.1.0) h
sound-call room w (ResyncWith p r) a free may h =
    let x = clear (causes w room (ResyncWith p r)) free in
    let t = both (is_inside w p) (is_inside w r) (not-false _ x.0) in let i = inside-is w p (ap not t.0) in
    let todo = resync-phase (w.phase p) r (not-false _ x.1.1.1.0) in
    sound-resync w p r todo.0 i.0 i.1 todo.1 h
