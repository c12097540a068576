-- A message is replayed, and the last one
use Rattle.std.proofs.Common.{◌≡◌, ◌≢◌, ◌⊎◌, inr, ℕ, zero, suc, ◌+◌, ◌<◌, ◌≤◌, List, [], ◌∷◌, length, Bool, true, false, refl, sym, ◌∙◌, arith}
use Rattle.std.specs.Prelude.{Some, slice_get, nat_lt, not, ◌&&◌, ◌||◌, if◌then◌else◌, ◌==◌}
use Rattle.std.proofs.lemmas.Bool.Decides.{nat_tests}
use Rattle.world.specs.Phases.{Replaying, is_down, is_up, has, those}
use Rattle.world.specs.World.{World, put}
use Rattle.world.specs.Logs.{sent_in_all}
use Rattle.world.specs.Calls.{phase_with, released_with, ready, peers, replay, replay_begin}
use Rattle.theorems.specs.Invariants.Secured.{Covers}
use Rattle.theorems.specs.Invariants.Exact.{is_restored, Exact}
use Rattle.theorems.specs.Invariants.Sound.{is_recovering, Sound}
use Rattle.theorems.proofs.Changes.{at-itself}
use Rattle.theorems.proofs.ListLemmas.{at-number}
use Rattle.theorems.proofs.PhaseLemmas.{with-down, with-alone, with-next, with-safe, with-replays, with-length, with-restored, recovering-down, recovering-idle, recovering-length}
use Rattle.theorems.proofs.SecuredLemmas.{covers-all}
use Rattle.theorems.proofs.Frames.{Told, sound-wire, exact-wire, Moves, sound-phase, exact-phase, sound-released, exact-released}

-- a process that recovers may go on to restore its numbers from these peers, or be up if there are none
pub moves-ready : (w : World) (p : ℕ) (rs : List ℕ) → 0 < p → p ≤ w.count → is_recovering (w.phase p) ≡ true → Sound w → Moves w p (phase_with rs)
moves-ready w p rs a b e s =
    record {
      inside = a;
      below = b;
      was = recovering-down _ e;
      now = with-down rs;
      stays = λ u. absurd (recovering-idle _ e u);
      next = with-next rs _ _ _;
      replays = with-replays rs _ _;
      recovering = λ _. e;
      forth = rw (with-length rs (w.history p) (w.saved p)) (recovering-length _ _ _ e (s.replays p));
    }

pub sound-ready : (w : World) (p : ℕ) (rs : List ℕ) → 0 < p → p ≤ w.count → is_recovering (w.phase p) ≡ true → Sound w → Sound (ready w p rs)
sound-ready w p rs a b e s = sound-released (record w { phase = put w.phase p (phase_with rs) }) p (released_with w p rs) (sound-phase w p (phase_with rs) (moves-ready w p rs a b e s) s)

pub exact-ready : (w : World) (p : ℕ) (rs : List ℕ) → 0 < p → p ≤ w.count → is_recovering (w.phase p) ≡ true → ((q : ℕ) → has rs q ≡ false → (is_restored (w.phase p) q ≡ true) ⊎ Told w p q) → Sound w → Exact w → Exact (ready w p rs)
exact-ready w p rs a b e less s h =
    let v : World = record w { phase = put w.phase p (phase_with rs) } in
    let x : Exact v = exact-phase w p (phase_with rs) (moves-ready w p rs a b e s) (with-alone rs) (with-safe rs w p) (λ q f. less q (with-restored rs q f)) s h in
    exact-released v p (released_with w p rs) (split x rs) x
  where
    live : is_down (put w.phase p (phase_with rs) p) ≡ false
    live = at-itself p (λ c. is_down (if c then phase_with rs else w.phase p) ≡ false) (with-down rs)

    split : Exact (record w { phase = put w.phase p (phase_with rs) }) → (qs : List ℕ) → (d : ℕ) → Covers (record w { phase = put w.phase p (phase_with rs) }) p d (released_with w p qs d)
    split x [] d = covers-all (record w { phase = put w.phase p (phase_with rs) }) p d (sent_in_all w p d) live (s.recovering p e) (omega arith)
    split x (q ∷ qs) d = x.released p d

pub has-those : (test : ℕ → Bool) (n q : ℕ) → 0 < q → q ≤ n → test q ≡ true → has (those test n) q ≡ true
has-those test zero q a b e = absurd (omega arith)
has-those test (suc k) q a b e = split (test (suc k)) refl (q == suc k) refl (has-those test k q a)
  where
    split : (t : Bool) → test (suc k) ≡ t → (c : Bool) → (q == suc k) ≡ c → (q ≤ k → test q ≡ true → has (those test k) q ≡ true) → has (if t then suc k ∷ those test k else those test k) q ≡ true
    split true f true g more = rw g refl
    split true f false g more = rw g (more (grind (arith, nat_tests)) e)
    split false f true g more = absurd (let same : q ≡ suc k = grind (arith, nat_tests) in let u : test (suc k) ≡ true = rw same at e in cc)
    split false f false g more = more (grind (arith, nat_tests)) e

-- the process is no sender of anything that others than its peers received
pub told-others : (w : World) (p q : ℕ) → Sound w → has (peers w p false) q ≡ false → Told w p q
told-others w p q s none m x a e i =
    let at : (k : ℕ) × (m ≡ suc k) × (slice_get (w.history q) k ≡ Some x) = at-number (w.history q) m x e in
    let next = s.received q at.0 x at.2 in
    let ne : q ≢ p = λ f. next.other (i ∙ sym f) in
    let t : (q == p) ≡ false = grind (arith, nat_tests) in
    let there : has (peers w p false) q ≡ true = has-those (λ a. not (a == p) && (not false || is_up (w.phase a))) w.count q next.target next.inside (rw t refl) in
    absurd (cc)

-- a process that replays goes on to the next message, if there is one
pub moves-replay : (w : World) (p j : ℕ) (working alone : Bool) → 0 < p → p ≤ w.count → w.phase p ≡ Replaying j working alone → nat_lt (w.saved p + suc j) (length (w.history p)) ≡ true → Moves w p (Replaying (suc j) false alone)
moves-replay w p j working alone a b e f = record { inside = a; below = b; was = rw e refl; now = refl; stays = λ u. absurd (let t : is_up (Replaying j working alone) ≡ true = rw e at u in cc); next = tt; replays = grind (arith, nat_tests); recovering = λ _. rw e refl; forth = rw e (omega arith) }

pub sound-replay : (w : World) (p j : ℕ) (working alone : Bool) → 0 < p → p ≤ w.count → w.phase p ≡ Replaying j working alone → Sound w → Sound (replay w p j alone)
sound-replay w p j working alone a b e s = split (nat_lt (w.saved p + suc j) (length (w.history p))) refl
  where
    split : (c : Bool) → nat_lt (w.saved p + suc j) (length (w.history p)) ≡ c → Sound (if c then record w { phase = put w.phase p (Replaying (suc j) false alone) } else ready w p (peers w p alone))
    split true f = sound-phase w p (Replaying (suc j) false alone) (record { inside = a; below = b; was = rw e refl; now = refl; stays = λ u. absurd (let t : is_up (Replaying j working alone) ≡ true = rw e at u in cc); next = tt; replays = grind (arith, nat_tests); recovering = λ _. rw e refl; forth = rw e (omega arith) }) s
    split false f = sound-ready w p (peers w p alone) a b (rw e refl) s

pub exact-replay : (w : World) (p j : ℕ) (working : Bool) → 0 < p → p ≤ w.count → w.phase p ≡ Replaying j working false → Sound w → Exact w → Exact (replay w p j false)
exact-replay w p j working a b e s h = split (nat_lt (w.saved p + suc j) (length (w.history p))) refl
  where
    split : (c : Bool) → nat_lt (w.saved p + suc j) (length (w.history p)) ≡ c → Exact (if c then record w { phase = put w.phase p (Replaying (suc j) false false) } else ready w p (peers w p false))
    split true f = exact-phase w p (Replaying (suc j) false false) (record { inside = a; below = b; was = rw e refl; now = refl; stays = λ u. absurd (let t : is_up (Replaying j working false) ≡ true = rw e at u in cc); next = tt; replays = grind (arith, nat_tests); recovering = λ _. rw e refl; forth = rw e (omega arith) }) refl tt (λ q f. absurd (cc)) s h
    split false f = exact-ready w p (peers w p false) a b (rw e refl) (λ q none. inr (told-others w p q s none)) s h

-- and may open a job on that one
pub moves-replay_begin : (w : World) (p j : ℕ) (working alone : Bool) → 0 < p → p ≤ w.count → w.phase p ≡ Replaying j working alone → Sound w → Moves w p (Replaying j true alone)
moves-replay_begin w p j working alone a b e s =
    record { inside = a; below = b; was = rw e refl; now = refl; stays = λ u. absurd (let t : is_up (Replaying j working alone) ≡ true = rw e at u in cc); next = tt; replays = rw e at (s.replays p); recovering = λ _. rw e refl; forth = rw e (omega arith) }

pub sound-replay_begin : (w : World) (p j : ℕ) (working alone : Bool) → 0 < p → p ≤ w.count → w.phase p ≡ Replaying j working alone → Sound w → Sound (replay_begin w p)
sound-replay_begin w p j working alone a b e s =
    let x : Sound (record w { phase = put w.phase p (Replaying j true alone) }) = sound-phase w p (Replaying j true alone) (moves-replay_begin w p j working alone a b e s) s in
    rw e (sound-wire (record w { phase = put w.phase p (Replaying j true alone) }) w.wire (w.started + 1) x.packets x)

pub exact-replay_begin : (w : World) (p j : ℕ) (working : Bool) → 0 < p → p ≤ w.count → w.phase p ≡ Replaying j working false → Sound w → Exact w → Exact (replay_begin w p)
exact-replay_begin w p j working a b e s h =
    let x : Exact (record w { phase = put w.phase p (Replaying j true false) }) = exact-phase w p (Replaying j true false) (moves-replay_begin w p j working false a b e s) refl tt (λ q f. absurd (cc)) s h in
    rw e (exact-wire (record w { phase = put w.phase p (Replaying j true false) }) w.wire (w.started + 1) x.packets x)
