-- Every call keeps a world gated
use Rattle.std.proofs.Common.{◌≡◌, ℕ, zero, suc, ◌+◌, ◌-◌, List, [], ◌∷◌, length, Bool, true, false, refl}
use Rattle.std.specs.Prelude.{Option, Some, None, nat_lt, nat_le, ◌&&◌, ◌==◌, if◌then◌else◌}
use Rattle.limits.specs.declared.TheConstants.{ENTRIES}
use Rattle.world.specs.declared.packet.Packet.{Packet}
use Rattle.world.specs.declared.packet.Packet.TheVariants.{Delivery, Number, Acknowledgement}
use Rattle.world.specs.Phases.{Phase, Up, Busy, Down, Replaying, Resync, is_up, is_replaying, without}
use Rattle.world.specs.Handlers.{Handlers}
use Rattle.world.specs.World.{World, put, opening}
use Rattle.world.specs.Logs.{length_of, is_entry}
use Rattle.world.specs.Calls.{finish, replay, replay_begin, ready, peers, recover, keep, arrive, after}
use Rattle.world.specs.Answers.{MayAnswer, Receives, ReceivesIf, ReceivesUp, ReceivesAs, NumbersAs, AcknowledgesAs, Finishes, Verdict, Next, Known, Ahead, judge, target_of}
use Rattle.world.specs.Refusals.{causes, refusal_of}
use Rattle.world.specs.Legal.{LegalFrom, Legal, world_after, world_of}
use Rattle.world.specs.declared.call.Call.{Call}
use Rattle.world.specs.declared.call.Call.TheVariants.{Input, Transmit, Copy, Lose, Arrive, Finish, Checkpoint, Trim, Crash, Recover, RecoverAlone, ReplayBegin, Resync as ResyncWith}
use Rattle.world.specs.declared.answer.Answer.{Answer}
use Rattle.world.specs.declared.answer.Answer.TheVariants.{Unreachable, Kept}
use Rattle.world.specs.declared.entry.Entry.{Entry}
use Rattle.theorems.specs.Growth.{Grows, Starts}
use Rattle.theorems.specs.Invariants.Sound.{Sound}
use Rattle.theorems.specs.Invariants.Gated.{Gated}
use Rattle.theorems.proofs.Tests.{not-false}
use Rattle.theorems.proofs.PhaseLemmas.{down-phase, resync-phase}
use Rattle.theorems.proofs.Accepted.{clear}
use Rattle.theorems.proofs.Resyncs.{renumbered}
use Rattle.theorems.proofs.Recoveries.{gathered, keeps-all}
use Rattle.theorems.proofs.GateLemmas.{opens-gated, gated-input, gated-phase, gated-ready, gated-acknowledge, gated-commit, gated-checkpoint, gated-crash, gated-keep}
use Rattle.theorems.proofs.SoundCalls.{sound-call}
use Rattle.theorems.proofs.Journals.{opens-sound}

gated-replay : (w : World) (p j : ℕ) (working alone : Bool) → w.phase p ≡ Replaying j working alone → Sound w → Gated w → Gated (replay w p j alone)
gated-replay w p j working alone e s h = split (nat_lt (w.saved p + suc j) (length (w.history p)))
  where
    split : (c : Bool) → Gated (if c then record w { phase = put w.phase p (Replaying (suc j) false alone) } else ready w p (peers w p alone))
    split true = gated-phase w p (Replaying (suc j) false alone) (λ u. absurd (cc)) h
    split false = gated-ready w p (peers w p alone) (s.recovering p (rw e refl)) h

gated-recover : (w : World) (p k : ℕ) (alone : Bool) → w.phase p ≡ Down → length (gathered w p k) ≡ k → Gated w → Gated (recover w p k alone)
gated-recover w p k alone down e h = split (nat_lt (w.saved p) k) (gated-keep w p k down h)
  where
    split : (c : Bool) → Gated (keep w p k) → Gated (if c then record (keep w p k) { phase = put w.phase p (Replaying 0 false alone) } else ready (keep w p k) p (peers w p alone))
    split true t = gated-phase (keep w p k) p (Replaying 0 false alone) (λ u. absurd (cc)) t
    split false t = gated-ready (keep w p k) p (peers w p alone) (keeps-all w p k e) t

gated-arrive-up : (w : World) (key : ℕ) (k : Packet) (a : Answer) → is_up (w.phase (target_of k)) ≡ true → ReceivesUp w key k a → Sound w → Gated w → Gated (arrive w key (Some k) a)
gated-arrive-up w key (Delivery zero m) a up may s h = split (judge w zero m) may
  where
    split : (v : Verdict) → ReceivesAs w key zero m v a → Gated (arrive w key (Some (Delivery zero m)) a)
    split Next may = rw may h
    split Known may = rw may h
    split Ahead may = rw may h
gated-arrive-up w key (Delivery (suc d) m) a up may s h = split (judge w (suc d) m) may
  where
    split : (v : Verdict) → ReceivesAs w key (suc d) m v a → Gated (arrive w key (Some (Delivery (suc d) m)) a)
    split Next may = rw may (gated-phase w (suc d) (Busy m) (λ _. up) h)
    split Known may = rw may.2 h
    split Ahead may = rw may h
gated-arrive-up w key (Number r s i m k) a up may sound h = split ((k == w.incarnation r) && is_entry w s r i) may
  where
    split : (b : Bool) → NumbersAs w key b a → Gated (arrive w key (Some (Number r s i m k)) a)
    split true may = rw may.2 h
    split false may = rw may h
gated-arrive-up w key (Acknowledgement s r m k) a up may sound h = split ((k == w.incarnation r) && nat_le m (length_of w r)) may
  where
    split : (b : Bool) → AcknowledgesAs b a → Gated (arrive w key (Some (Acknowledgement s r m k)) a)
    split true may = rw may (gated-acknowledge w key r m sound.grows h)
    split false may = rw may h

gated-unreachable : (w : World) (key : ℕ) (k : Packet) → Gated w → Gated (arrive w key (Some k) Unreachable)
gated-unreachable w key (Delivery d m) h = h
gated-unreachable w key (Number r s i m k) h = h
gated-unreachable w key (Acknowledgement s r m k) h = h

gated-arrive : (w : World) (key : ℕ) (x : Option Packet) (a : Answer) → Receives w key x a → Sound w → Gated w → Gated (arrive w key x a)
gated-arrive w key None a may s h = absurd may
gated-arrive w key (Some k) a may s h = split (is_up (w.phase (target_of k))) refl may
  where
    split : (b : Bool) → is_up (w.phase (target_of k)) ≡ b → ReceivesIf b w key k a → Gated (arrive w key (Some k) a)
    split true e may = gated-arrive-up w key k a e may s h
    split false e may = rw may (gated-unreachable w key k h)

gated-finish : (w : World) (p : ℕ) (x : Phase) (a : Answer) → w.phase p ≡ x → Finishes w p x a → Sound w → Gated w → Gated (finish w p x a)
gated-finish w p Up a e may s h = absurd may
gated-finish w p (Busy m) a e may s h = rw may.2 (gated-commit w p m may.0 e s h)
gated-finish w p Down a e may s h = absurd may
gated-finish w p (Replaying j working alone) a e may s h = rw may (gated-replay w p j working alone e s h)
gated-finish w p (Resync todo) a e may s h = absurd may

gated-begins-replay : (w : World) (p : ℕ) (x : Phase) → w.phase p ≡ x → is_replaying x ≡ true → Gated w → Gated (replay_begin w p)
gated-begins-replay w p Up e r h = absurd (cc)
gated-begins-replay w p (Busy m) e r h = absurd (cc)
gated-begins-replay w p Down e r h = absurd (cc)
gated-begins-replay w p (Replaying j working alone) e r h = rw e (gated-phase w p (Replaying j true alone) (λ u. absurd (cc)) h)
gated-begins-replay w p (Resync todo) e r h = absurd (cc)

pub gated-call : (room : ℕ) (w : World) (call : Call) (a : Answer) → refusal_of w room call ≡ None → MayAnswer w call a → Sound w → Gated w → Gated (after w call a)
gated-call room w (Input d feed x) a free may s h = gated-input w d feed x h
gated-call room w (Transmit p d i) a free may s h = rw may.2 h
gated-call room w (Copy key) a free may s h = rw may.2 h
gated-call room w (Lose key) a free may s h = h
gated-call room w (Arrive key) a free may s h = gated-arrive w key (w.wire key) a may s h
gated-call room w (Finish p) a free may s h = gated-finish w p (w.phase p) a refl may s h
gated-call room w (Checkpoint p) a free may s h = gated-checkpoint w p h
gated-call room w (Trim d) a free may s h = h
gated-call room w (Crash p) a free may s h = gated-crash w p h
gated-call room w (Recover p) (Kept k) free may s h = let x = clear (causes w room (Recover p)) free in gated-recover w p k false (down-phase _ (not-false _ x.1.1.0)) may.1 h
gated-call room w (Recover p) a free may s h = absurd may
gated-call room w (RecoverAlone p) (Kept k) free may s h = let x = clear (causes w room (RecoverAlone p)) free in gated-recover w p k true (down-phase _ (not-false _ x.1.0)) may.1 h
gated-call room w (RecoverAlone p) a free may s h = absurd may
gated-call room w (ReplayBegin p) a free may s h = let x = clear (causes w room (ReplayBegin p)) free in gated-begins-replay w p (w.phase p) refl (not-false _ x.1.1.0) h
gated-call room w (ResyncWith p r) a free may s h =
    let x = clear (causes w room (ResyncWith p r)) free in
    let todo = resync-phase (w.phase p) r (not-false _ x.1.1.1.0) in
    rw todo.1 (gated-ready (renumbered w p r) p (without todo.0 r) (s.recovering p (rw todo.1 refl)) h)

gated-along : (k : ℕ) (w : World) (es : List Entry) → LegalFrom k w es → Sound w → Gated w → Gated (world_after w es)
gated-along k w [] l s h = h
gated-along k w (e ∷ es) l s h =
    gated-along (suc k) (after w e.call e.answer) es l.2 (sound-call (ENTRIES - k) w e.call e.answer l.1.accepted l.1.answered s) (gated-call (ENTRIES - k) w e.call e.answer l.1.accepted l.1.answered s h)

pub always-gated : (n : ℕ) (f : Handlers) (es : List Entry) → Grows f → Starts f → Legal n f es → Gated (world_of n f es)
always-gated n f es g t l = gated-along 0 (opening n f) es l (opens-sound n f g) (opens-gated n f t)
