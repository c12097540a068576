-- Every call keeps a world tidy
use Rattle.std.proofs.Common.{◌≡◌, ℕ, zero, suc, ◌+◌, ◌-◌, ◌<◌, ◌≤◌, List, [], ◌∷◌, length, Bool, true, false, refl, arith}
use Rattle.std.specs.Prelude.{Option, Some, None, nat_lt, nat_le, ◌&&◌, ◌==◌, if◌then◌else◌}
use Rattle.limits.specs.declared.TheConstants.{ENTRIES}
use Rattle.world.specs.declared.packet.Packet.{Packet}
use Rattle.world.specs.declared.packet.Packet.TheVariants.{Delivery, Number, Acknowledgement}
use Rattle.world.specs.Phases.{Phase, Up, Busy, Down, Replaying, Resync, is_up, is_replaying}
use Rattle.world.specs.World.{World}
use Rattle.world.specs.Logs.{length_of, is_entry}
use Rattle.world.specs.Calls.{finish, replay_begin, arrive, after}
use Rattle.world.specs.Answers.{MayAnswer, Receives, ReceivesIf, ReceivesUp, ReceivesAs, NumbersAs, AcknowledgesAs, Finishes, Verdict, Next, Known, Ahead, judge, target_of}
use Rattle.world.specs.Refusals.{causes, refusal_of, is_to_busy}
use Rattle.world.specs.declared.call.Call.{Call}
use Rattle.world.specs.declared.call.Call.TheVariants.{Input, Transmit, Copy, Lose, Arrive, Finish, Checkpoint, Trim, Crash, Recover, RecoverAlone, ReplayBegin, Resync as ResyncWith}
use Rattle.world.specs.declared.answer.Answer.{Answer}
use Rattle.world.specs.declared.answer.Answer.TheVariants.{Unreachable, Kept}
use Rattle.theorems.specs.Invariants.Sound.{Sound}
use Rattle.theorems.proofs.Tests.{not-false, both}
use Rattle.theorems.proofs.PhaseLemmas.{up-phase, down-phase, resync-phase}
use Rattle.theorems.proofs.Accepted.{clear, checkpoints}
use Rattle.world.specs.declared.message.Message.{Message}
use Rattle.world.specs.History.{rsn_of}
use Rattle.world.specs.Calls.{begin, replay, ready, peers, recover, keep, resync, told}
use Rattle.world.specs.Phases.{without}
use Rattle.world.specs.World.{put, opening}
use Rattle.world.specs.Logs.{sent}
use Rattle.world.specs.Handlers.{Handlers}
use Rattle.world.specs.Legal.{LegalFrom, Legal, world_after, world_of}
use Rattle.world.specs.declared.entry.Entry.{Entry}
use Rattle.theorems.specs.Growth.{Grows}
use Rattle.theorems.specs.Kept.{IsEntry}
use Rattle.theorems.specs.Invariants.Tidy.{is_behind, Tidy}
use Rattle.theorems.proofs.Changes.{choose, at-itself}
use Rattle.theorems.proofs.Tests.{is_at_most}
use Rattle.theorems.proofs.LogLemmas.{entry-when}
use Rattle.theorems.proofs.Resyncs.{renumbered}
use Rattle.theorems.proofs.Recoveries.{gathered, gathered-same, kept-length}
use Rattle.theorems.proofs.TidyLemmas.{opens-tidy, tidy-phase, tidy-numbers, tidy-input, tidy-recorded, tidy-acknowledge, tidy-commit, tidy-checkpoint, tidy-trim, tidy-crash, tidy-keep, tidy-ready}
use Rattle.theorems.proofs.SoundCalls.{sound-call}
use Rattle.theorems.proofs.Journals.{opens-sound}

tidy-begin : (w : World) (key d : ℕ) (m : Message) → w.phase d ≡ Up → Sound w → Tidy w → Tidy (begin w key d m)
tidy-begin w key d m up s h = tidy-phase w d (Busy m) s.grows (λ _. (h d).covered (rw up refl)) (λ e. absurd (cc)) (λ e. absurd (cc)) (rw up (omega arith)) h

tidy-replay : (w : World) (p j : ℕ) (working alone : Bool) → w.phase p ≡ Replaying j working alone → Sound w → Tidy w → Tidy (replay w p j alone)
tidy-replay w p j working alone e s h = split (nat_lt (w.saved p + suc j) (length (w.history p)))
  where
    left : w.saved p + j < length (w.history p)
    left = rw e at (s.replays p)

    split : (c : Bool) → Tidy (if c then record w { phase = put w.phase p (Replaying (suc j) false alone) } else ready w p (peers w p alone))
    split true = tidy-phase w p (Replaying (suc j) false alone) s.grows (λ _. (h p).covered (rw e refl)) (λ _. rw e refl) (λ _. rw e refl) (rw e (omega arith)) h
    split false = tidy-ready w p (peers w p alone) s.grows ((h p).covered (rw e refl)) (rw e refl) (rw e (let l : w.saved p + j < length (w.history p) = left in omega arith)) h

tidy-replay_begin : (w : World) (p j : ℕ) (working alone : Bool) → w.phase p ≡ Replaying j working alone → Sound w → Tidy w → Tidy (replay_begin w p)
tidy-replay_begin w p j working alone e s h = rw e (tidy-phase w p (Replaying j true alone) s.grows (λ _. (h p).covered (rw e refl)) (λ _. rw e refl) (λ _. rw e refl) (rw e (omega arith)) h)

tidy-renumbered : (w : World) (p r : ℕ) (todo : List ℕ) → w.phase p ≡ Resync todo → Tidy w → Tidy (renumbered w p r)
tidy-renumbered w p r todo e h = tidy-numbers w (put w.numbers p (put (w.numbers p) r (told w p r))) numbered unnumbered h
  where
    named : (i m : ℕ) → told w p r i ≡ Some m → (0 < i) × (i ≤ length (sent w p r))
    named i m f = split (is_entry w p r i) refl f
      where
        split : (b : Bool) → is_entry w p r i ≡ b → (if b then rsn_of (w.history r) p i else w.numbers p r i) ≡ Some m → (0 < i) × (i ≤ length (sent w p r))
        split true t f = let x : IsEntry w p r i = entry-when w p r i t in let a : w.trims p r < i = x.above in let b : i ≤ length (sent w p r) = x.within in (omega arith, b)
        split false t f = (h p).numbered r i m f

    numbered : (a d i m : ℕ) → put w.numbers p (put (w.numbers p) r (told w p r)) a d i ≡ Some m → (0 < i) × (i ≤ length (sent w a d))
    numbered = choose p (λ a b. (d i m : ℕ) → (if b then put (w.numbers p) r (told w p r) else w.numbers a) d i ≡ Some m → (0 < i) × (i ≤ length (sent w a d)))
        (choose r (λ d b. (i m : ℕ) → (if b then told w p r else w.numbers p d) i ≡ Some m → (0 < i) × (i ≤ length (sent w p d))) named (λ d _. (h p).numbered d)) (λ a _. (h a).numbered)

    unnumbered : (a : ℕ) → is_behind (w.phase a) ≡ true → (d i : ℕ) → put w.numbers p (put (w.numbers p) r (told w p r)) a d i ≡ None
    unnumbered = choose p (λ a b. is_behind (w.phase a) ≡ true → (d i : ℕ) → (if b then put (w.numbers p) r (told w p r) else w.numbers a) d i ≡ None)
        (λ t. absurd (let f : is_behind (Resync todo) ≡ true = rw e at t in cc)) (λ a _. (h a).unnumbered)

tidy-resync : (w : World) (p r : ℕ) (todo : List ℕ) → w.phase p ≡ Resync todo → Sound w → Tidy w → Tidy (resync w p r)
tidy-resync w p r todo e s h = rw e (tidy-ready (renumbered w p r) p (without todo r) s.grows ((h p).covered (rw e refl)) (rw e refl) (rw e (omega arith)) (tidy-renumbered w p r todo e h))

tidy-recover : (w : World) (p k : ℕ) (alone : Bool) → w.phase p ≡ Down → w.saved p ≤ k → length (gathered w p k) ≡ k → Sound w → Tidy w → Tidy (recover w p k alone)
tidy-recover w p k alone down l e s h = split (nat_lt (w.saved p) k) (tidy-keep w p k down (gathered-same w p k (s.saved p)) h)
  where
    covered : (m : ℕ) → 0 < m → m ≤ w.saved p → (keep w p k).acknowledged p m ≡ true
    covered m a b = at-itself p (λ c. (if c then (λ m. nat_le m k) else w.acknowledged p) m ≡ true) (is_at_most m k (omega arith))

    within : w.saved p ≤ length ((keep w p k).history p)
    within = rw (kept-length w p k e) l

    split : (c : Bool) → Tidy (keep w p k) → Tidy (if c then record (keep w p k) { phase = put w.phase p (Replaying 0 false alone) } else ready (keep w p k) p (peers w p alone))
    split true t = tidy-phase (keep w p k) p (Replaying 0 false alone) s.grows (λ _. covered) (λ _. rw down refl) (λ _. rw down refl) (rw down (omega arith)) t
    split false t = tidy-ready (keep w p k) p (peers w p alone) s.grows covered (rw down refl) (rw down within) t

tidy-arrive-up : (w : World) (key : ℕ) (k : Packet) (a : Answer) → is_up (w.phase (target_of k)) ≡ true → is_to_busy w (Some k) ≡ false → ReceivesUp w key k a → Sound w → Tidy w → Tidy (arrive w key (Some k) a)
tidy-arrive-up w key (Delivery zero m) a up busy may s h = split (judge w zero m) may
  where
    split : (v : Verdict) → ReceivesAs w key zero m v a → Tidy (arrive w key (Some (Delivery zero m)) a)
    split Next may = rw may h
    split Known may = rw may h
    split Ahead may = rw may h
tidy-arrive-up w key (Delivery (suc d) m) a up busy may s h = split (judge w (suc d) m) may
  where
    split : (v : Verdict) → ReceivesAs w key (suc d) m v a → Tidy (arrive w key (Some (Delivery (suc d) m)) a)
    split Next may = rw may (tidy-begin w key (suc d) m (up-phase _ up busy) s h)
    split Known may = rw may.2 h
    split Ahead may = rw may h
tidy-arrive-up w key (Number r s i m k) a up busy may sound h = split ((k == w.incarnation r) && is_entry w s r i) refl may
  where
    split : (b : Bool) → ((k == w.incarnation r) && is_entry w s r i) ≡ b → NumbersAs w key b a → Tidy (arrive w key (Some (Number r s i m k)) a)
    split true e may = rw may.2 (tidy-recorded w s r i m up (both (k == w.incarnation r) (is_entry w s r i) e).1 h)
    split false e may = rw may h
tidy-arrive-up w key (Acknowledgement s r m k) a up busy may sound h = split ((k == w.incarnation r) && nat_le m (length_of w r)) may
  where
    split : (b : Bool) → AcknowledgesAs b a → Tidy (arrive w key (Some (Acknowledgement s r m k)) a)
    split true may = rw may (tidy-acknowledge w key r m sound.grows up h)
    split false may = rw may h

tidy-unreachable : (w : World) (key : ℕ) (k : Packet) → Tidy w → Tidy (arrive w key (Some k) Unreachable)
tidy-unreachable w key (Delivery d m) h = h
tidy-unreachable w key (Number r s i m k) h = h
tidy-unreachable w key (Acknowledgement s r m k) h = h

tidy-arrive : (w : World) (key : ℕ) (x : Option Packet) (a : Answer) → is_to_busy w x ≡ false → Receives w key x a → Sound w → Tidy w → Tidy (arrive w key x a)
tidy-arrive w key None a busy may s h = absurd may
tidy-arrive w key (Some k) a busy may s h = split (is_up (w.phase (target_of k))) refl may
  where
    split : (b : Bool) → is_up (w.phase (target_of k)) ≡ b → ReceivesIf b w key k a → Tidy (arrive w key (Some k) a)
    split true e may = tidy-arrive-up w key k a e busy may s h
    split false e may = rw may (tidy-unreachable w key k h)

tidy-finish : (w : World) (p : ℕ) (x : Phase) (a : Answer) → w.phase p ≡ x → Finishes w p x a → Sound w → Tidy w → Tidy (finish w p x a)
tidy-finish w p Up a e may s h = absurd may
tidy-finish w p (Busy m) a e may s h = rw may.2 (tidy-commit w p m may.0 e s h)
tidy-finish w p Down a e may s h = absurd may
tidy-finish w p (Replaying j working alone) a e may s h = rw may (tidy-replay w p j working alone e s h)
tidy-finish w p (Resync todo) a e may s h = absurd may

tidy-begins-replay : (w : World) (p : ℕ) (x : Phase) → w.phase p ≡ x → is_replaying x ≡ true → Sound w → Tidy w → Tidy (replay_begin w p)
tidy-begins-replay w p Up e r s h = absurd (cc)
tidy-begins-replay w p (Busy m) e r s h = absurd (cc)
tidy-begins-replay w p Down e r s h = absurd (cc)
tidy-begins-replay w p (Replaying j working alone) e r s h = tidy-replay_begin w p j working alone e s h
tidy-begins-replay w p (Resync todo) e r s h = absurd (cc)

pub tidy-call : (room : ℕ) (w : World) (call : Call) (a : Answer) → refusal_of w room call ≡ None → MayAnswer w call a → Sound w → Tidy w → Tidy (after w call a)
tidy-call room w (Input d feed x) a free may s h = tidy-input w d feed x h
tidy-call room w (Transmit p d i) a free may s h = rw may.2 h
tidy-call room w (Copy key) a free may s h = rw may.2 h
tidy-call room w (Lose key) a free may s h = h
tidy-call room w (Arrive key) a free may s h = tidy-arrive w key (w.wire key) a (clear (causes w room (Arrive key)) free).0 may s h
tidy-call room w (Finish p) a free may s h = tidy-finish w p (w.phase p) a refl may s h
tidy-call room w (Checkpoint p) a free may s h = tidy-checkpoint w p (checkpoints room w p free) h
tidy-call room w (Trim d) a free may s h = tidy-trim w d h
tidy-call room w (Crash p) a free may s h = tidy-crash w p h
tidy-call room w (Recover p) (Kept k) free may s h = let x = clear (causes w room (Recover p)) free in tidy-recover w p k false (down-phase _ (not-false _ x.1.1.0)) may.0 may.1 s h
tidy-call room w (Recover p) a free may s h = absurd may
tidy-call room w (RecoverAlone p) (Kept k) free may s h = let x = clear (causes w room (RecoverAlone p)) free in tidy-recover w p k true (down-phase _ (not-false _ x.1.0)) may.0 may.1 s h
tidy-call room w (RecoverAlone p) a free may s h = absurd may
tidy-call room w (ReplayBegin p) a free may s h = let x = clear (causes w room (ReplayBegin p)) free in tidy-begins-replay w p (w.phase p) refl (not-false _ x.1.1.0) s h
tidy-call room w (ResyncWith p r) a free may s h =
    let x = clear (causes w room (ResyncWith p r)) free in
    let todo = resync-phase (w.phase p) r (not-false _ x.1.1.1.0) in
    tidy-resync w p r todo.0 todo.1 s h

tidy-along : (k : ℕ) (w : World) (es : List Entry) → LegalFrom k w es → Sound w → Tidy w → Tidy (world_after w es)
tidy-along k w [] l s h = h
tidy-along k w (e ∷ es) l s h =
    tidy-along (suc k) (after w e.call e.answer) es l.2 (sound-call (ENTRIES - k) w e.call e.answer l.1.accepted l.1.answered s) (tidy-call (ENTRIES - k) w e.call e.answer l.1.accepted l.1.answered s h)

pub always-tidy : (n : ℕ) (f : Handlers) (es : List Entry) → Grows f → Legal n f es → Tidy (world_of n f es)
always-tidy n f es g l = tidy-along 0 (opening n f) es l (opens-sound n f g) (opens-tidy n f)
