-- Which processes have an open job, by the names of their phases.
use Rattle.std.proofs.Common.{◌≡◌, ◌≢◌, ℕ, zero, suc, ◌+◌, ◌<◌, ◌≤◌, length, Bool, true, false, refl, arith}
use Rattle.std.specs.Prelude.{None, if◌then◌else◌}
use Rattle.std.proofs.lemmas.Bool.Decides.{nat_tests}
use Rattle.limits.specs.declared.TheConstants.{ENTRIES, PROCESSES}
use Rattle.world.specs.declared.call.Call.TheVariants.{ReplayBegin}
use Rattle.world.specs.declared.phase.PhaseName.TheVariants as names
use Rattle.world.specs.Bounds.{count_below, journal_full, open_jobs}
use Rattle.world.specs.Phases.{Phase, Up, Busy, Down, Replaying, Resync, is_working, name_of}
use Rattle.world.specs.Refusals.{refusal_of}
use Rattle.world.specs.World.{is_inside, opening}
use Rattle.world.proofs.Runs.{world_after-setting}
use Rattle.sessions.specs.Driver.{IsDone}
use Rattle.sessions.specs.Fold.{handlers_of}
use Rattle.sessions.specs.Journal.{TheSession, world_at}
use Rattle.runner.specs.Rest.{AreNoneIn, AreNoneWorking}

-- a process that is neither busy nor replays has no open job
idle-named : (f : Phase) → name_of f ≢ names.Busy → name_of f ≢ names.Replaying → is_working f ≡ false
idle-named Up a b = refl
idle-named (Busy m) a b = absurd (a refl)
idle-named Down a b = refl
idle-named (Replaying j working alone) a b = absurd (b refl)
idle-named (Resync todo) a b = refl

pub none-works : (s : TheSession) → AreNoneIn s names.Busy → AreNoneIn s names.Replaying → AreNoneWorking s
none-works s busy replaying p low high = idle-named ((world_at s).phase p) (busy p low high) (replaying p low high)

-- no more numbers pass a test than there are
count-most : (test : ℕ → Bool) (n : ℕ) → count_below test n ≤ n
count-most test zero = omega arith
count-most test (suc n) = by_test (count_below test n) (count-most test n) (test n)
  where
    by_test : (k : ℕ) → k ≤ n → (b : Bool) → (if b then 1 else 0) + k ≤ suc n
    by_test k few true = omega arith
    by_test k few false = omega arith

-- an empty journal has room for one more job
room-for-one : (jobs n : ℕ) → jobs ≤ suc n → n ≤ PROCESSES → journal_full ENTRIES (jobs + 1) ≡ false
room-for-one jobs n few small = grind (arith, nat_tests)

-- a process that replays while no call is left has an open job
pub replay-works : (s : TheSession) (p : ℕ) → IsDone s → 0 < p → p ≤ length s.images → length s.images ≤ PROCESSES
    → name_of ((world_at s).phase p) ≡ names.Replaying → is_working ((world_at s).phase p) ≡ true
replay-works s p done low high few = by_phase ((world_at s).phase p) refl
  where
    count : (world_at s).count ≡ length s.images
    count = (world_after-setting (opening (length s.images) (handlers_of s.images)) s.entries).0

    inside : is_inside (world_at s) p ≡ true
    inside = grind (arith, nat_tests, count)

    room : journal_full ENTRIES (open_jobs (world_at s) + 1) ≡ false
    room = room-for-one (open_jobs (world_at s)) (world_at s).count (count-most (λ q. is_working ((world_at s).phase q)) (suc (world_at s).count)) (omega (arith, count))

    by_phase : (f : Phase) → (world_at s).phase p ≡ f → name_of f ≡ names.Replaying → is_working f ≡ true
    by_phase Up e n = absurd (cc)
    by_phase (Busy m) e n = absurd (cc)
    by_phase Down e n = absurd (cc)
    by_phase (Replaying j true alone) e n = refl
    by_phase (Replaying j false alone) e n =
        let accepted : refusal_of (world_at s) ENTRIES (ReplayBegin p) ≡ None = rw (inside, e, room) refl in
        absurd (done (ReplayBegin p) (record { useful = rw e refl; accepted = accepted }))
    by_phase (Resync todo) e n = absurd (cc)
