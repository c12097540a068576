-- A process that came back replays what it kept, and has its length again when that is done
use Rattle.std.proofs.Common.{◌≡◌, ◌≢◌, ℕ, zero, suc, ◌+◌, ◌-◌, ◌<◌, ◌≤◌, List, [], ◌∷◌, ◌++◌, length, Bool, true, false, refl, sym, ap, ◌∙◌, subst, arith}
use Rattle.std.specs.Prelude.{Option, Some, None, nat_lt, ◌&&◌, ◌==◌, if◌then◌else◌}
use Rattle.std.proofs.lemmas.Bool.Decides.{nat_tests}
use Rattle.limits.specs.declared.TheConstants.{ENTRIES}
use Rattle.world.specs.declared.message.Message.{Message}
use Rattle.world.specs.declared.packet.Packet.{Packet}
use Rattle.world.specs.declared.packet.Packet.TheVariants.{Delivery, Number, Acknowledgement}
use Rattle.world.specs.Phases.{Phase, Up, Busy, Down, Replaying, Resync, is_up, without}
use Rattle.world.specs.World.{World, put}
use Rattle.world.specs.Logs.{length_in, length_of, is_entry}
use Rattle.world.specs.Calls.{with_open_job, phase_with, ready, peers, keep, recover, replay, finish, arrive, after}
use Rattle.world.specs.Answers.{MayAnswer, Receives, ReceivesIf, ReceivesUp, ReceivesAs, NumbersAs, AcknowledgesAs, Finishes, Verdict, Next, Known, Ahead, judge, target_of}
use Rattle.world.specs.Refusals.{causes, refusal_of, is_to_busy}
use Rattle.world.specs.Legal.{LegalFrom, world_after}
use Rattle.world.specs.declared.call.Call.{Call}
use Rattle.world.specs.declared.call.Call.TheVariants.{Input, Transmit, Copy, Lose, Arrive, Finish, Checkpoint, Trim, Crash, Recover, RecoverAlone, ReplayBegin, Resync as ResyncWith}
use Rattle.world.specs.declared.answer.Answer.{Answer}
use Rattle.world.specs.declared.answer.Answer.TheVariants.{Replayed, Committed, Unreachable, Kept}
use Rattle.world.specs.declared.entry.Entry.{Entry}
use Rattle.theorems.specs.Recovery.{is_replayed, replayed, moves_on, IsReturning}
use Rattle.theorems.specs.Invariants.Sound.{Sound}
use Rattle.theorems.proofs.Changes.{choose, elsewhere, at-itself}
use Rattle.theorems.proofs.Tests.{not-false, different}
use Rattle.theorems.proofs.PhaseLemmas.{up-phase, down-phase, resync-phase}
use Rattle.theorems.proofs.Accepted.{clear, checkpoints}
use Rattle.theorems.proofs.Recoveries.{gathered}
use Rattle.theorems.proofs.SoundCalls.{sound-call}

-- a process in this phase, with a checkpoint of this many messages, has replayed c of those after the first `from`; if it replays
-- none, it has k
abbrev pub At : Phase → ℕ → ℕ → ℕ → ℕ → Type 0
At Up saved from k c = from + c ≡ k
At (Busy m) saved from k c = from + c ≡ k
At Down saved from k c = ⊥
At (Replaying j working alone) saved from k c = (saved ≡ from) × (j ≡ c)
At (Resync todo) saved from k c = from + c ≡ k

-- p received k messages, and has replayed c of those after the first `from`
abbrev pub Back : World → ℕ → ℕ → ℕ → ℕ → Type 0
Back w p from k c = record { whole : length (w.history p) ≡ k; at : At (w.phase p) (w.saved p) from k c }

at-length : (x : Phase) (h : List Message) (saved from k c : ℕ) → length h ≡ k → At x saved from k c → length_in h saved x ≡ from + c
at-length Up h saved from k c e a = omega arith
at-length (Busy m) h saved from k c e a = omega arith
at-length Down h saved from k c e a = absurd a
at-length (Replaying j working alone) h saved from k c e a = let s : saved ≡ from = a.0 in let t : j ≡ c = a.1 in omega arith
at-length (Resync todo) h saved from k c e a = omega arith

-- so its length is `from` and what it has replayed
pub back-length : (w : World) (p from k c : ℕ) → Back w p from k c → length_of w p ≡ from + c
back-length w p from k c h = at-length (w.phase p) (w.history p) (w.saved p) from k c h.whole h.at

at-most : (x : Phase) (saved from k c : ℕ) → At x saved from k c → ((j : ℕ) (working alone : Bool) → x ≡ Replaying j working alone → saved + j < k) → from + c ≤ k
at-most Up saved from k c a more = omega arith
at-most (Busy m) saved from k c a more = omega arith
at-most Down saved from k c a more = absurd a
at-most (Replaying j working alone) saved from k c a more = let s : saved ≡ from = a.0 in let t : j ≡ c = a.1 in let l : saved + j < k = more j working alone refl in omega arith
at-most (Resync todo) saved from k c a more = omega arith

-- it never replays more than there is
pub back-most : (w : World) (p from k c : ℕ) → Sound w → Back w p from k c → from + c ≤ k
back-most w p from k c s h = at-most (w.phase p) (w.saved p) from k c h.at (λ j working alone e. let l : w.saved p + j < length (w.history p) = rw e at (s.replays p) in let same : length (w.history p) ≡ k = h.whole in omega arith)

at-with : (rs : List ℕ) (saved from k c : ℕ) → from + c ≡ k → At (phase_with rs) saved from k c
at-with [] saved from k c e = e
at-with (r ∷ rs) saved from k c e = e

-- just after a recovery that keeps k, p has k messages and has replayed none
pub back-opens : (w : World) (p k : ℕ) (alone : Bool) → w.saved p ≤ k → length (gathered w p k) ≡ k → Back (recover w p k alone) p (w.saved p) k 0
back-opens w p k alone l e = split (nat_lt (w.saved p) k) refl
  where
    whole : length (put w.history p (gathered w p k) p) ≡ k
    whole = at-itself p (λ b. length (if b then gathered w p k else w.history p) ≡ k) e

    split : (c : Bool) → nat_lt (w.saved p) k ≡ c → Back (if c then record (keep w p k) { phase = put w.phase p (Replaying 0 false alone) } else ready (keep w p k) p (peers w p alone)) p (w.saved p) k 0
    split true t = record { whole = whole; at = at-itself p (λ b. At (if b then Replaying 0 false alone else w.phase p) (w.saved p) (w.saved p) k 0) (refl, refl) }
    split false t = record { whole = whole; at = at-itself p (λ b. At (if b then phase_with (peers w p alone) else w.phase p) (w.saved p) (w.saved p) k 0) (at-with (peers w p alone) (w.saved p) (w.saved p) k 0 (grind (arith, nat_tests))) }

module _ (p from k c : ℕ) where
  -- the phase of one process changes
  back-phase : (w : World) (q : ℕ) (x : Phase) → (At (w.phase q) (w.saved q) from k c → At x (w.saved q) from k c) → Back w p from k c → Back (record w { phase = put w.phase q x }) p from k c
  back-phase w q x now h =
      record { whole = h.whole; at = choose q (λ j b. At (w.phase j) (w.saved j) from k c → At (if b then x else w.phase j) (w.saved j) from k c) now (λ j _ a. a) p h.at }

  -- another process gets another history and another phase
  back-other : (w : World) (q : ℕ) (g : List Message) (x : Phase) → p ≢ q → Back w p from k c → Back (record w { history = put w.history q g; phase = put w.phase q x }) p from k c
  back-other w q g x ne h =
      elsewhere q (λ j b. Back w j from k c → record { whole : length (if b then g else w.history j) ≡ k; at : At (if b then x else w.phase j) (w.saved j) from k c }) (λ j h. h) p ne h

  -- or another phase alone
  back-beside : (w : World) (q : ℕ) (x : Phase) → p ≢ q → Back w p from k c → Back (record w { phase = put w.phase q x }) p from k c
  back-beside w q x ne h = elsewhere q (λ j b. Back w j from k c → record { whole : length (w.history j) ≡ k; at : At (if b then x else w.phase j) (w.saved j) from k c }) (λ j h. h) p ne h

  back-checkpoint : (w : World) (q n : ℕ) → w.phase q ≡ Up → Back w p from k c → Back (record w { saved = put w.saved q n }) p from k c
  back-checkpoint w q n up h =
      record { whole = h.whole; at = choose q (λ j b. At (w.phase j) (w.saved j) from k c → At (w.phase j) (if b then n else w.saved j) from k c) (λ a. rw up (rw up at a)) (λ j _ a. a) p h.at }

  -- what is down isn't back
  back-down : (w : World) (q : ℕ) → w.phase q ≡ Down → Back w p from k c → p ≢ q
  back-down w q down h e = let P : ℕ → Type 0 = λ j. At (w.phase j) (w.saved j) from k c in absurd (rw down at (subst P e h.at))

  back-recover : (w : World) (q n : ℕ) (alone : Bool) → w.phase q ≡ Down → Back w p from k c → Back (recover w q n alone) p from k c
  back-recover w q n alone down h = split (nat_lt (w.saved q) n)
    where
      split : (b : Bool) → Back (if b then record (keep w q n) { phase = put w.phase q (Replaying 0 false alone) } else ready (keep w q n) q (peers w q alone)) p from k c
      split true = back-other w q (gathered w q n) (Replaying 0 false alone) (back-down w q down h) h
      split false = back-other w q (gathered w q n) (phase_with (peers w q alone)) (back-down w q down h) h

  back-begins : (w : World) (q : ℕ) → Back w p from k c → Back (record w { phase = put w.phase q (with_open_job (w.phase q)) }) p from k c
  back-begins w q h = back-phase w q (with_open_job (w.phase q)) (go (w.phase q)) h
    where
      go : (x : Phase) → At x (w.saved q) from k c → At (with_open_job x) (w.saved q) from k c
      go Up a = a
      go (Busy m) a = a
      go Down a = a
      go (Replaying j working alone) a = a
      go (Resync todo) a = a

  back-resync : (w : World) (q : ℕ) (todo rs : List ℕ) → w.phase q ≡ Resync todo → Back w p from k c → Back (record w { phase = put w.phase q (phase_with rs) }) p from k c
  back-resync w q todo rs e h = back-phase w q (phase_with rs) (λ a. at-with rs (w.saved q) from k c (rw e at a)) h

  back-arrive-up : (w : World) (key : ℕ) (x : Packet) (a : Answer) → is_up (w.phase (target_of x)) ≡ true → is_to_busy w (Some x) ≡ false → ReceivesUp w key x a → Back w p from k c → Back (arrive w key (Some x) a) p from k c
  back-arrive-up w key (Delivery zero m) a up busy may h = split (judge w zero m) may
    where
      split : (v : Verdict) → ReceivesAs w key zero m v a → Back (arrive w key (Some (Delivery zero m)) a) p from k c
      split Next may = rw may h
      split Known may = rw may h
      split Ahead may = rw may h
  back-arrive-up w key (Delivery (suc d) m) a up busy may h = split (judge w (suc d) m) may
    where
      split : (v : Verdict) → ReceivesAs w key (suc d) m v a → Back (arrive w key (Some (Delivery (suc d) m)) a) p from k c
      split Next may = rw may (back-phase w (suc d) (Busy m) (λ a. rw (up-phase _ up busy) at a) h)
      split Known may = rw may.2 h
      split Ahead may = rw may h
  back-arrive-up w key (Number r s i m n) a up busy may h = split ((n == w.incarnation r) && is_entry w s r i) may
    where
      split : (b : Bool) → NumbersAs w key b a → Back (arrive w key (Some (Number r s i m n)) a) p from k c
      split true may = rw may.2 h
      split false may = rw may h
  back-arrive-up w key (Acknowledgement s r m n) a up busy may h = split _ may
    where
      split : (b : Bool) → AcknowledgesAs b a → Back (arrive w key (Some (Acknowledgement s r m n)) a) p from k c
      split true may = rw may h
      split false may = rw may h

  back-unreachable : (w : World) (key : ℕ) (x : Packet) → Back w p from k c → Back (arrive w key (Some x) Unreachable) p from k c
  back-unreachable w key (Delivery d m) h = h
  back-unreachable w key (Number r s i m n) h = h
  back-unreachable w key (Acknowledgement s r m n) h = h

  back-arrive : (w : World) (key : ℕ) (x : Option Packet) (a : Answer) → is_to_busy w x ≡ false → Receives w key x a → Back w p from k c → Back (arrive w key x a) p from k c
  back-arrive w key None a busy may h = absurd may
  back-arrive w key (Some x) a busy may h = split (is_up (w.phase (target_of x))) refl may
    where
      split : (b : Bool) → is_up (w.phase (target_of x)) ≡ b → ReceivesIf b w key x a → Back (arrive w key (Some x) a) p from k c
      split true e may = back-arrive-up w key x a e busy may h
      split false e may = rw may (back-unreachable w key x h)

  -- it replays one more message itself
  replays-one : (w : World) (j : ℕ) (working alone : Bool) → w.phase p ≡ Replaying j working alone → Sound w → Back w p from k c → Back (replay w p j alone) p from k (suc c)
  replays-one w j working alone e s h = split (nat_lt (w.saved p + suc j) (length (w.history p))) refl
    where
      was : (w.saved p ≡ from) × (j ≡ c)
      was = rw e at h.at

      left : w.saved p + j < length (w.history p)
      left = rw e at (s.replays p)

      split : (b : Bool) → nat_lt (w.saved p + suc j) (length (w.history p)) ≡ b → Back (if b then record w { phase = put w.phase p (Replaying (suc j) false alone) } else ready w p (peers w p alone)) p from k (suc c)
      split true t = record { whole = h.whole; at = at-itself p (λ b. At (if b then Replaying (suc j) false alone else w.phase p) (w.saved p) from k (suc c)) (was.0, ap suc was.1) }
      split false t =
          let a : w.saved p ≡ from = was.0 in let b : j ≡ c = was.1 in let l : w.saved p + j < length (w.history p) = left in let n : length (w.history p) ≡ k = h.whole in
          let end : length (w.history p) ≤ w.saved p + suc j = grind (arith, nat_tests) in
          record { whole = h.whole; at = at-itself p (λ b. At (if b then phase_with (peers w p alone) else w.phase p) (w.saved p) from k (suc c)) (at-with (peers w p alone) (w.saved p) from k (suc c) (omega arith)) }

  -- or another process does
  replays-other : (w : World) (q j : ℕ) (alone : Bool) → p ≢ q → Back w p from k c → Back (replay w q j alone) p from k c
  replays-other w q j alone ne h = split (nat_lt (w.saved q + suc j) (length (w.history q)))
    where
      split : (b : Bool) → Back (if b then record w { phase = put w.phase q (Replaying (suc j) false alone) } else ready w q (peers w q alone)) p from k c
      split true = back-beside w q (Replaying (suc j) false alone) ne h
      split false = back-beside w q (phase_with (peers w q alone)) ne h

  back-replay : (w : World) (q j : ℕ) (working alone : Bool) → w.phase q ≡ Replaying j working alone → Sound w → Back w p from k c → Back (replay w q j alone) p from k (if q == p then suc c else c)
  back-replay w q j working alone e s h = split (q == p) refl
    where
      split : (b : Bool) → (q == p) ≡ b → Back (replay w q j alone) p from k (if b then suc c else c)
      split true t =
          let same : p ≡ q = grind (arith, nat_tests) in
          let P : ℕ → Type 0 = λ i. Back (replay w i j alone) p from k (suc c) in
          let here : w.phase p ≡ Replaying j working alone = ap w.phase same ∙ e in
          subst P same (replays-one w j working alone here s h)
      split false t = replays-other w q j alone (let ne : q ≢ p = different q p t in λ i. ne (sym i)) h

  back-finish : (w : World) (q : ℕ) (x : Phase) (a : Answer) → w.phase q ≡ x → moves_on p (Finish q) a ≡ false → Finishes w q x a → Sound w → Back w p from k c → Back (finish w q x a) p from k (if is_replayed p (Finish q) a then suc c else c)
  back-finish w q Up a e stays may s h = absurd may
  back-finish w q (Busy m) a e stays may s h =
      let t : (q == p) ≡ false = rw may.2 at stays in
      let ne : q ≢ p = different q p t in
      rw may.2 (back-other w q (w.history q ++ m ∷ []) Up (λ i. ne (sym i)) h)
  back-finish w q Down a e stays may s h = absurd may
  back-finish w q (Replaying j working alone) a e stays may s h = rw may (back-replay w q j working alone e s h)
  back-finish w q (Resync todo) a e stays may s h = absurd may

  back-call : (room : ℕ) (w : World) (call : Call) (a : Answer) → refusal_of w room call ≡ None → MayAnswer w call a → moves_on p call a ≡ false → Sound w → Back w p from k c → Back (after w call a) p from k (if is_replayed p call a then suc c else c)
  back-call room w (Input d feed x) a free may stays s h = h
  back-call room w (Transmit q d i) a free may stays s h = rw may.2 h
  back-call room w (Copy key) a free may stays s h = rw may.2 h
  back-call room w (Lose key) a free may stays s h = h
  back-call room w (Arrive key) a free may stays s h = back-arrive w key (w.wire key) a (clear (causes w room (Arrive key)) free).0 may h
  back-call room w (Finish q) a free may stays s h = back-finish w q (w.phase q) a refl stays may s h
  back-call room w (Checkpoint q) a free may stays s h = back-checkpoint w q (length (w.history q)) (checkpoints room w q free) h
  back-call room w (Trim d) a free may stays s h = h
  back-call room w (Crash q) a free may stays s h = let ne : q ≢ p = different q p stays in back-beside w q Down (λ i. ne (sym i)) h
  back-call room w (Recover q) (Kept n) free may stays s h = let x = clear (causes w room (Recover q)) free in back-recover w q n false (down-phase _ (not-false _ x.1.1.0)) h
  back-call room w (Recover q) a free may stays s h = absurd may
  back-call room w (RecoverAlone q) (Kept n) free may stays s h = let x = clear (causes w room (RecoverAlone q)) free in back-recover w q n true (down-phase _ (not-false _ x.1.0)) h
  back-call room w (RecoverAlone q) a free may stays s h = absurd may
  back-call room w (ReplayBegin q) a free may stays s h = back-begins w q h
  back-call room w (ResyncWith q r) a free may stays s h =
      let x = clear (causes w room (ResyncWith q r)) free in
      let todo = resync-phase (w.phase q) r (not-false _ x.1.1.1.0) in
      rw todo.1 (back-resync w q todo.0 (without todo.0 r) todo.1 h)

-- and so do all that follow: each replayed call of p counts
pub back-along : (p from k c i : ℕ) (w : World) (es : List Entry) → LegalFrom i w es → IsReturning p es → Sound w → Back w p from k c → Back (world_after w es) p from k (c + replayed p es) × Sound (world_after w es)
back-along p from k c i w [] l r s h = let none : c + 0 ≡ c = omega arith in (rw none h, s)
back-along p from k c i w (e ∷ es) l r s h =
    more (is_replayed p e.call e.answer) (back-call p from k c (ENTRIES - i) w e.call e.answer l.1.accepted l.1.answered r.0 s h)
    (λ n. back-along p from k n (suc i) (after w e.call e.answer) es l.2 r.1 (sound-call (ENTRIES - i) w e.call e.answer l.1.accepted l.1.answered s))
  where
    more : (b : Bool) → Back (after w e.call e.answer) p from k (if b then suc c else c)
        → ((n : ℕ) → Back (after w e.call e.answer) p from k n → Back (world_after (after w e.call e.answer) es) p from k (n + replayed p es) × Sound (world_after (after w e.call e.answer) es))
        → Back (world_after (after w e.call e.answer) es) p from k (c + (if b then suc (replayed p es) else replayed p es)) × Sound (world_after (after w e.call e.answer) es)
    more true h rest = let next : c + suc (replayed p es) ≡ suc c + replayed p es = omega arith in rw next (rest (suc c) h)
    more false h rest = rest c h
