-- The causes that refuse a job that is replayed, or numbers that are restored, as the machine's fields tell them
use Rattle.std.proofs.Common.{◌≡◌, ◌≢◌, ℕ, zero, suc, ◌+◌, ◌<◌, ◌≤◌, List, [], ◌∷◌, length, Bool, true, false, refl, sym, ap, ◌∙◌, arith}
use Rattle.std.specs.Prelude.{◌==◌, ◌&&◌, nat_lt, nat_le, if◌then◌else◌, Option, None, Some, is_some, slice_index_or}
use Rattle.std.proofs.lemmas.Bool.Decides.{nat_tests}
use Rattle.std.proofs.lemmas.Option.{slice_get-get_or}
use Rattle.world.specs.declared.message.Message.{Message}
use Rattle.world.specs.declared.call.Call.TheVariants.{ReplayBegin, Resync as ResyncWith}
use Rattle.world.specs.Phases.{is_working, is_replaying, todo_of, has, those}
use Rattle.world.specs.World.{World}
use Rattle.world.specs.Refusals.{refusal_of}
use Rattle.session_process.specs.declared.mode.Mode.{Mode}
use Rattle.session_process.specs.declared.mode.Mode.TheVariants as modes
use Rattle.session_process.specs.Mode.{next_job}
use Rattle.machine.specs.Work.{phase_of, is_to_do, MayWork}
use Rattle.machine.specs.Simulation.{TheMachine, Stands, process_at, is_up_at}
use Rattle.machine.specs.Transmission.{busy}
use Rattle.machine.proofs.Status.{jobs, at_process, up_is, is_working-phase_of}
use Rattle.machine.proofs.RecoveryCauses.{late, early}

-- a process that replays has a message to replay
is_replaying-phase_of : (n : ℕ) (t : Mode) (o : Option Message) (saved : ℕ) (h : List Message) → MayWork t o saved h → is_replaying (phase_of n t o) ≡ is_some (next_job t)
is_replaying-phase_of n modes.Live None saved h may = refl
is_replaying-phase_of n modes.Live (Some m) saved h may = refl
is_replaying-phase_of n modes.Down o saved h may = refl
is_replaying-phase_of n (modes.Replaying plan alone) o saved h may = sym (ap is_some (slice_get-get_or plan.messages plan.replayed (record { sender = 0; ssn = 0; payload = [] }) may.left))
is_replaying-phase_of n (modes.Resync peers) o saved h may = refl

-- the list of those that pass a test has these, up to n
has-those : (f : ℕ → Bool) (n r : ℕ) → has (those f n) r ≡ (nat_lt 0 r && nat_le r n && f r)
has-those f zero zero = refl
has-those f zero (suc r) =
    let low : nat_lt 0 (suc r) ≡ true = grind (arith, nat_tests) in
    let above : nat_le (suc r) 0 ≡ false = grind (arith, nat_tests) in
    rw (low, above) refl
has-those f (suc n) r = by_last (has-those f n r) (f (suc n)) refl (r == suc n) refl
  where
    same_low : (r == suc n) ≡ false → nat_le r n ≡ nat_le r (suc n)
    same_low other = grind (arith, nat_tests)

    last_false : (a b : Bool) → b ≡ false → (a && b) ≡ false
    last_false true b e = e
    last_false false b e = refl

    by_last : has (those f n) r ≡ (nat_lt 0 r && nat_le r n && f r) → (b : Bool) → f (suc n) ≡ b → (c : Bool) → (r == suc n) ≡ c → has (if b then suc n ∷ those f n else those f n) r ≡ (nat_lt 0 r && nat_le r (suc n) && f r)
    by_last onward true e true g =
        let is : r ≡ suc n = grind (arith, nat_tests) in
        let low : nat_lt 0 r ≡ true = grind (arith, nat_tests) in
        let high : nat_le r (suc n) ≡ true = grind (arith, nat_tests) in
        rw (g, low, high) (sym (ap f is ∙ e))
    by_last onward true e false g = rw (g, ← same_low g) onward
    by_last onward false e true g =
        let is : r ≡ suc n = grind (arith, nat_tests) in
        let off : f r ≡ false = ap f is ∙ e in
        onward ∙ last_false (nat_lt 0 r && nat_le r n) (f r) off ∙ sym (last_false (nat_lt 0 r && nat_le r (suc n)) (f r) off)
    by_last onward false e false g = rw (← same_low g) onward

none : (a : Bool) → (a && false) ≡ false
none true = refl
none false = refl

-- the peers that are still to do
todo-phase_of : (n : ℕ) (t : Mode) (o : Option Message) (r : ℕ) → has (todo_of (phase_of n t o)) r ≡ (nat_lt 0 r && nat_le r n && is_to_do t r)
todo-phase_of n modes.Live None r = sym (none (nat_lt 0 r && nat_le r n))
todo-phase_of n modes.Live (Some m) r = sym (none (nat_lt 0 r && nat_le r n))
todo-phase_of n modes.Down o r = sym (none (nat_lt 0 r && nat_le r n))
todo-phase_of n (modes.Replaying plan alone) o r = sym (none (nat_lt 0 r && nat_le r n))
todo-phase_of n (modes.Resync peers) o r = has-those (λ q. slice_index_or peers.todo q false) n r

module _ (m : TheMachine) (w : World) (s : Stands m w) (p : ℕ) (positive : 0 < p) (within : p ≤ length m.processes) where
  pub working-is : is_working (w.phase p) ≡ is_some (process_at m p).working
  working-is = let at = at_process m w s p positive within in ap is_working at.phase_is ∙ is_working-phase_of _ _ _ _ _ at.works

  pub replaying-is : is_replaying (w.phase p) ≡ is_some (next_job (process_at m p).mode)
  replaying-is = let at = at_process m w s p positive within in ap is_replaying at.phase_is ∙ is_replaying-phase_of _ _ _ _ _ at.works

  pub todo-is : (r : ℕ) → has (todo_of (w.phase p)) r ≡ (nat_lt 0 r && nat_le r (length m.processes) && is_to_do (process_at m p).mode r)
  todo-is r = ap (λ x. has (todo_of x) r) (at_process m w s p positive within).phase_is ∙ todo-phase_of _ _ _ r

module _ (m : TheMachine) (w : World) (s : Stands m w) (room p : ℕ) where
  pub replay-outside : (nat_lt 0 p && nat_le p (length m.processes)) ≡ false → refusal_of w room (ReplayBegin p) ≡ Some 1
  replay-outside out = rw (s.shows.count, out) refl

  module _ (positive : 0 < p) (within : p ≤ length m.processes) where
    inside : (nat_lt 0 p && nat_le p w.count) ≡ true
    inside = let count = s.shows.count in grind (arith, nat_tests)

    module _ (idle : is_some (process_at m p).working ≡ false) where
      pub replay-nothing : is_some (next_job (process_at m p).mode) ≡ false → refusal_of w room (ReplayBegin p) ≡ Some 11
      replay-nothing none = rw (inside, working-is m w s p positive within, idle, replaying-is m w s p positive within, none) refl

      module _ (left : is_some (next_job (process_at m p).mode) ≡ true) where
        pub replay-full : room ≤ busy m + 1 → refusal_of w room (ReplayBegin p) ≡ Some 12
        replay-full full = rw (inside, working-is m w s p positive within, idle, replaying-is m w s p positive within, left, jobs m w s, late room (busy m + 1) full) refl

        pub replay-free : busy m + 1 < room → refusal_of w room (ReplayBegin p) ≡ None
        replay-free free = rw (inside, working-is m w s p positive within, idle, replaying-is m w s p positive within, left, jobs m w s, early room (busy m + 1) free) refl

  module _ (r : ℕ) where
    pub resync-outside : (nat_lt 0 p && nat_le p (length m.processes) && (nat_lt 0 r && nat_le r (length m.processes))) ≡ false → refusal_of w room (ResyncWith p r) ≡ Some 1
    resync-outside out = rw (s.shows.count, out) refl

    module _ (positive : 0 < p) (within : p ≤ length m.processes) (peer_positive : 0 < r) (peer_within : r ≤ length m.processes) where
      both_inside : (nat_lt 0 p && nat_le p w.count && (nat_lt 0 r && nat_le r w.count)) ≡ true
      both_inside = let count = s.shows.count in grind (arith, nat_tests)

      module _ (apart : p ≢ r) where
        other : (p == r) ≡ false
        other = grind (arith, nat_tests)

        module _ (up : is_up_at m r ≡ true) where
          pub resync-done : has (todo_of (w.phase p)) r ≡ false → refusal_of w room (ResyncWith p r) ≡ Some 11
          resync-done done = rw (both_inside, other, up_is m w s r peer_within, up, done) refl

          module _ (todo : has (todo_of (w.phase p)) r ≡ true) where
            pub resync-full : room ≤ busy m → refusal_of w room (ResyncWith p r) ≡ Some 12
            resync-full full = rw (both_inside, other, up_is m w s r peer_within, up, todo, jobs m w s, late room (busy m) full) refl

            pub resync-free : busy m < room → refusal_of w room (ResyncWith p r) ≡ None
            resync-free free = rw (both_inside, other, up_is m w s r peer_within, up, todo, jobs m w s, early room (busy m) free) refl
