-- The causes that refuse a checkpoint, a crash or a return, as the machine's fields tell them
use Rattle.std.proofs.Common.{◌≡◌, ℕ, zero, suc, ◌+◌, ◌-◌, ◌<◌, ◌≤◌, List, [], ◌∷◌, length, Bool, true, false, refl, ap, ◌∙◌, arith}
use Rattle.std.specs.Prelude.{◌==◌, ◌&&◌, ◌||◌, not, nat_lt, nat_le, cond, None, Some, is_some, count_by, slice_index_or, option_and_then}
use Rattle.std.proofs.lemmas.Bool.Decides.{nat_tests}
use Rattle.std.proofs.lemmas.List.Sums.{sum_by-cons}
use Rattle.world.specs.declared.call.Call.TheVariants.{Checkpoint, Trim, Crash, Recover, RecoverAlone}
use Rattle.world.specs.Phases.{is_up, is_busy, is_working}
use Rattle.world.specs.World.{World}
use Rattle.world.specs.Bounds.{any_below}
use Rattle.world.specs.Refusals.{least, refusal_of, cause_of, one_if, others_up}
use Rattle.session_process.specs.Process.{TheProcess, idle_process}
use Rattle.session_process.specs.Mode.{is_live, is_lost}
use Rattle.machine.specs.Simulation.{TheMachine, Stands, process_at, is_up_at}
use Rattle.machine.specs.Transmission.{busy}
use Rattle.machine.specs.Recoveries.{returning}
use Rattle.machine.proofs.Status.{jobs, at_process, up_is, down_is, is_working-phase_of, is_busy-phase_of}

-- a journal has no place for a call where its room is no more than the open jobs
pub late : (room n : ℕ) → room ≤ n → nat_lt room (n + 1) ≡ true
late room n h = grind (arith, nat_tests)

-- and it has one where the room is more
pub early : (room n : ℕ) → n < room → nat_lt room (n + 1) ≡ false
early room n h = grind (arith, nat_tests)

-- a number that is a process's
pub inside-of : (n p : ℕ) → (nat_lt 0 p && nat_le p n) ≡ true → (0 < p) × (p ≤ n)
inside-of n p e = (grind (arith, nat_tests), grind (arith, nat_tests))

any-none : (test : ℕ → Bool) (n : ℕ) → ((k : ℕ) → k < n → test k ≡ false) → any_below test n ≡ false
any-none test zero none = refl
any-none test (suc n) none = rw (none n (omega arith)) (any-none test n (λ k h. none k (omega (arith, h))))

or-true : (c b : Bool) → b ≡ true → (c || b) ≡ true
or-true true b e = refl
or-true false b e = e

any-some : (test : ℕ → Bool) (n k : ℕ) → k < n → test k ≡ true → any_below test n ≡ true
any-some test zero k h e = absurd (omega (arith, h))
any-some test (suc n) k h e = by_last (k == n) refl (λ less. any-some test n k less e)
  where
    by_last : (b : Bool) → (k == n) ≡ b → (k < n → any_below test n ≡ true) → any_below test (suc n) ≡ true
    by_last true t onward = let same : n ≡ k = grind (arith, nat_tests) in let here : test n ≡ true = ap test same ∙ e in rw here refl
    by_last false t onward = or-true (test n) (any_below test n) (onward (grind (arith, nat_tests, h)))

-- whether all others are up
module _ (m : TheMachine) (w : World) (s : Stands m w) (p : ℕ) where
  pub others-all : ((k : ℕ) → 0 < k → k ≤ length m.processes → (k == p) ≡ false → is_up_at m k ≡ true) → others_up w p ≡ true
  others-all all = ap not (any-none (λ q. not (q == p) && not (is_up (w.phase q))) (suc w.count) (λ k h. by_number k (omega (arith, h, s.shows.count)) (k == p) refl))
    where
      by_number : (k : ℕ) → k ≤ length m.processes → (b : Bool) → (k == p) ≡ b → (not b && not (is_up (w.phase k))) ≡ false
      by_number k h true e = refl
      by_number zero h false e = rw s.shows.outside refl
      by_number (suc k) h false e = ap not (up_is m w s (suc k) h ∙ all (suc k) (omega arith) h e)

  pub others-not : (k : ℕ) → k ≤ length m.processes → (k == p) ≡ false → is_up_at m k ≡ false → others_up w p ≡ false
  others-not k h e down = ap not (any-some (λ q. not (q == p) && not (is_up (w.phase q))) (suc w.count) k (omega (arith, h, s.shows.count)) (rw (e, up_is m w s k h, down) refl))

module _ (m : TheMachine) (w : World) (s : Stands m w) (room p : ℕ) where
  module _ (positive : 0 < p) (within : p ≤ length m.processes) where
    inside : (nat_lt 0 p && nat_le p w.count) ≡ true
    inside = let count = s.shows.count in grind (arith, nat_tests)

    working_is : is_working (w.phase p) ≡ is_some (process_at m p).working
    working_is = let at = at_process m w s p positive within in ap is_working at.phase_is ∙ is_working-phase_of _ _ _ _ _ at.works

    busy_is : is_busy (w.phase p) ≡ (is_live (process_at m p).mode && is_some (process_at m p).working)
    busy_is = ap is_busy (at_process m w s p positive within).phase_is ∙ is_busy-phase_of _ _ _

    -- a checkpoint
    pub checkpoint-down : is_up_at m p ≡ false → refusal_of w room (Checkpoint p) ≡ Some 2
    checkpoint-down down = rw (inside, up_is m w s p within, down) refl

    module _ (up : is_up_at m p ≡ true) where
      pub checkpoint-busy : (is_live (process_at m p).mode && is_some (process_at m p).working) ≡ true → refusal_of w room (Checkpoint p) ≡ Some 3
      checkpoint-busy works = rw (inside, up_is m w s p within, up, busy_is, works) refl

      module _ (idle : (is_live (process_at m p).mode && is_some (process_at m p).working) ≡ false) where
        pub checkpoint-full : room ≤ busy m → refusal_of w room (Checkpoint p) ≡ Some 12
        checkpoint-full full = rw (inside, up_is m w s p within, up, busy_is, idle, jobs m w s, late room (busy m) full) refl

        pub checkpoint-free : busy m < room → refusal_of w room (Checkpoint p) ≡ None
        checkpoint-free free = rw (inside, up_is m w s p within, up, busy_is, idle, jobs m w s, early room (busy m) free) refl

    -- one process works, or more
    one-works : (xs : List TheProcess) (k : ℕ) (d : TheProcess) → k < length xs → one_if (is_some (slice_index_or xs k d).working) ≤ count_by (λ (x : TheProcess). is_some x.working) xs
    one-works [] k d h = absurd (omega arith)
    one-works (x ∷ xs) zero d h = rw (sum_by-cons (λ (z : TheProcess). cond (is_some z.working) 1 0) x xs) (by_first (is_some x.working))
      where
        by_first : (b : Bool) → one_if b ≤ cond b 1 0 + count_by (λ (x : TheProcess). is_some x.working) xs
        by_first true = omega arith
        by_first false = omega arith
    one-works (x ∷ xs) (suc k) d h = let onward = one-works xs k d (omega (arith, h)) in omega (arith, onward, sum_by-cons (λ (z : TheProcess). cond (is_some z.working) 1 0) x xs)

    -- a crash
    module _ (back : is_lost (process_at m p).mode ≡ false) where
      own : ℕ
      own = one_if (is_some (process_at m p).working)

      own-some : own ≤ busy m
      unfolding own
      own-some = one-works m.processes (p - 1) (idle_process 0 0 0) (omega (arith, positive, within))

      crash-is : refusal_of w room (Crash p) ≡ least ((nat_lt room (busy m - own + 1), 12) ∷ [])
      unfolding own
      crash-is = rw (inside, down_is m w s p positive within, back, jobs m w s, working_is) refl

      pub crash-full : room + one_if (is_some (process_at m p).working) ≤ busy m → refusal_of w room (Crash p) ≡ Some 12
      unfolding own
      crash-full full = crash-is ∙ rw (late room (busy m - own) (omega (arith, full))) refl

      pub crash-free : busy m < room + one_if (is_some (process_at m p).working) → refusal_of w room (Crash p) ≡ None
      unfolding own
      crash-free free = crash-is ∙ rw (early room (busy m - own) (omega (arith, free, own-some))) refl

    -- one that may come back
    return-is : (lost full : Bool) → is_lost (process_at m p).mode ≡ lost → nat_le room (busy m) ≡ full
        → least ((not (is_lost (process_at m p).mode), 10) ∷ (nat_lt room (busy m + 1), 12) ∷ []) ≡ option_and_then cause_of (returning m room p)
    return-is false full e f = rw e refl
    return-is true true e f = rw (e, f, late room (busy m) (grind (arith, nat_tests))) refl
    return-is true false e f = rw (e, f, early room (busy m) (grind (arith, nat_tests))) refl

    -- past these causes, `returning` tells why p doesn't come back
    pub recover-rest : others_up w p ≡ true → refusal_of w room (Recover p) ≡ option_and_then cause_of (returning m room p)
    recover-rest up = rw (inside, up, down_is m w s p positive within, jobs m w s) (return-is (is_lost (process_at m p).mode) (nat_le room (busy m)) refl refl)

    -- and so it does of p alone
    pub alone-rest : refusal_of w room (RecoverAlone p) ≡ option_and_then cause_of (returning m room p)
    alone-rest = rw (inside, down_is m w s p positive within, jobs m w s) (return-is (is_lost (process_at m p).mode) (nat_le room (busy m)) refl refl)

  -- a trim
  module _ (within : p ≤ length m.processes) where
    below : nat_lt (length m.processes) p ≡ false
    below = grind (arith, nat_tests)

    pub trim-full : room ≤ busy m → refusal_of w room (Trim p) ≡ Some 12
    trim-full full = rw (jobs m w s, s.shows.count, below, late room (busy m) full) refl

    pub trim-free : busy m < room → refusal_of w room (Trim p) ≡ None
    trim-free free = rw (jobs m w s, s.shows.count, below, early room (busy m) free) refl
