-- The causes of a refusal, as the machine's fields tell them
use Rattle.std.proofs.Common.{◌≡◌, ◌≢◌, ℕ, zero, suc, ◌+◌, ◌-◌, ◌<◌, ◌≤◌, List, [], ◌∷◌, length, Bool, true, false, refl, ap, ◌∙◌, arith}
use Rattle.std.specs.Prelude.{◌==◌, ◌&&◌, ◌||◌, not, nat_lt, nat_le, Option, Some, None, is_some, count_by, slice_index_or, option_and_then}
use Rattle.std.proofs.lemmas.Bool.Decides.{nat_tests}
use Rattle.limits.specs.declared.TheConstants.{PACKETS}
use Rattle.sender_log.specs.Queue.{is_logged}
use Rattle.sender_log.specs.Log.{queue_of}
use Rattle.world.specs.declared.packet.Packet.{Packet}
use Rattle.world.specs.declared.call.Call.TheVariants.{Input, Transmit, Copy, Lose, Arrive}
use Rattle.world.specs.World.{World}
use Rattle.world.specs.Logs.{released_to, is_entry}
use Rattle.world.specs.Bounds.{is_none, open_jobs, journal_full, wire_full}
use Rattle.world.specs.Refusals.{least, refusal_of, cause_of, is_to_busy, starts, one_if}
use Rattle.session_process.specs.Outside.{is_taken}
use Rattle.machine.specs.Simulation.{TheMachine, Stands, log_at, is_up_at}
use Rattle.machine.specs.Transmission.{busy, live, placing, released_at}
use Rattle.machine.proofs.Status.{wire-is, jobs, live-is, packets-is, up_is, up_at, down_at, entry_at, released_is}

-- An input

module _ (m : TheMachine) (w : World) (s : Stands m w) (room d feed : ℕ) (x : List ℕ) where
  causes : refusal_of w room (Input d feed x) ≡ least ((not (nat_lt 0 d && nat_le d (length m.processes)), 1) ∷ (nat_lt room (busy m + 1), 12) ∷ (is_taken feed m.outside, 14) ∷ [])
  causes = rw (jobs m w s, s.shows.count, s.shows.feeds feed) refl

  module _ (inside : (nat_lt 0 d && nat_le d (length m.processes)) ≡ true) where
    pub input-full : room ≤ busy m → refusal_of w room (Input d feed x) ≡ Some 12
    input-full full = let late : nat_lt room (busy m + 1) ≡ true = grind (arith, nat_tests) in causes ∙ rw (inside, late) refl

    module _ (free : busy m < room) where
      early : nat_lt room (busy m + 1) ≡ false
      early = grind (arith, nat_tests)

      pub input-taken : is_taken feed m.outside ≡ true → refusal_of w room (Input d feed x) ≡ Some 14
      input-taken taken = causes ∙ rw (inside, early, taken) refl

      pub input-free : is_taken feed m.outside ≡ false → refusal_of w room (Input d feed x) ≡ None
      input-free fresh = causes ∙ rw (inside, early, fresh) refl

-- A place for one packet more

module _ (m : TheMachine) (w : World) (s : Stands m w) (room : ℕ) (keys : (key : ℕ) → PACKETS ≤ key → slice_index_or m.slots key None ≡ None) where
  by_fields : (full crowded : Bool) → nat_le room (busy m) ≡ full → nat_le (PACKETS - live m) (count_by is_some m.slots) ≡ crowded
      → least ((nat_lt room (busy m + 1), 12) ∷ (nat_lt PACKETS (count_by is_some m.slots + live m + 1), 13) ∷ []) ≡ option_and_then cause_of (placing m room)
  by_fields true b e f = let late : nat_lt room (busy m + 1) ≡ true = grind (arith, nat_tests) in rw (e, late) refl
  by_fields false true e f =
      let early : nat_lt room (busy m + 1) ≡ false = grind (arith, nat_tests) in
      let many : nat_lt PACKETS (count_by is_some m.slots + live m + 1) ≡ true = grind (arith, nat_tests) in
      rw (e, f, early, many) refl
  by_fields false false e f =
      let early : nat_lt room (busy m + 1) ≡ false = grind (arith, nat_tests) in
      let few : nat_lt PACKETS (count_by is_some m.slots + live m + 1) ≡ false = grind (arith, nat_tests) in
      rw (e, f, early, few) refl

  -- what the world says of a place is what the fields say
  pub place-is : least ((journal_full room (open_jobs w), 12) ∷ (wire_full w, 13) ∷ []) ≡ option_and_then cause_of (placing m room)
  place-is = rw (jobs m w s, live-is m w s, packets-is m w s keys, wire-is) (by_fields (nat_le room (busy m)) (nat_le (PACKETS - live m) (count_by is_some m.slots)) refl refl)

-- A message that is to leave

module _ (m : TheMachine) (w : World) (s : Stands m w) (room p d i : ℕ) where
  pub transmit-outside : (nat_lt (length m.processes) p || nat_lt (length m.processes) d) ≡ true → refusal_of w room (Transmit p d i) ≡ Some 1
  transmit-outside out = rw (s.shows.count, out) refl

  module _ (within : p ≤ length m.processes) (to : d ≤ length m.processes) where
    inside : (nat_lt (length m.processes) p || nat_lt (length m.processes) d) ≡ false
    inside = grind (arith, nat_tests)

    module _ (up : is_up_at m p ≡ true) where
      pub transmit-same : p ≡ d → refusal_of w room (Transmit p d i) ≡ Some 5
      transmit-same e = let same : (p == d) ≡ true = grind (arith, nat_tests) in rw (s.shows.count, inside, up_at m w s p within up, same) refl

      module _ (apart : p ≢ d) where
        other : (p == d) ≡ false
        other = grind (arith, nat_tests)

        released : released_to w p d ≡ released_at m p d
        released = released_is m w s p d within to apart up

        rest : refusal_of w room (Transmit p d i) ≡ least ((nat_lt (released_at m p d) i, 6) ∷ (not (is_entry w p d i), 7) ∷ (journal_full room (open_jobs w), 12) ∷ (wire_full w, 13) ∷ [])
        rest = rw (s.shows.count, inside, up_at m w s p within up, other, released) refl

        pub transmit-early : released_at m p d < i → refusal_of w room (Transmit p d i) ≡ Some 6
        transmit-early above = let late : nat_lt (released_at m p d) i ≡ true = grind (arith, nat_tests) in rest ∙ rw late refl

        module _ (among : i ≤ released_at m p d) where
          out : nat_lt (released_at m p d) i ≡ false
          out = grind (arith, nat_tests)

          pub transmit-nothing : (0 < i → is_logged i (queue_of d (log_at m p)) ≡ false) → refusal_of w room (Transmit p d i) ≡ Some 7
          transmit-nothing none = rest ∙ rw (out, missing i none) refl
            where
              missing : (j : ℕ) → (0 < j → is_logged j (queue_of d (log_at m p)) ≡ false) → is_entry w p d j ≡ false
              missing zero n = let below : nat_lt (w.trims p d) 0 ≡ false = grind (arith, nat_tests) in rw (down_at m w s p within up, below) refl
              missing (suc j) n = entry_at m w s p d within to apart (down_at m w s p within up) (suc j) ∙ n (omega arith)

          -- past these causes, a message is refused only where it has no place
          pub transmit-rest : is_logged i (queue_of d (log_at m p)) ≡ true → ((key : ℕ) → PACKETS ≤ key → slice_index_or m.slots key None ≡ None) → refusal_of w room (Transmit p d i) ≡ option_and_then cause_of (placing m room)
          transmit-rest logged keys = rest ∙ rw (out, entry_at m w s p d within to apart (down_at m w s p within up) i ∙ logged) (place-is m w s room keys)

-- What lies under a key

module _ (m : TheMachine) (w : World) (s : Stands m w) (room key : ℕ) where
  module _ (some : slice_index_or m.slots key None ≢ None) where
    something : is_none (w.wire key) ≡ false
    something = ap is_none (s.shows.wire key) ∙ by_slot (slice_index_or m.slots key None) some
      where
        by_slot : (o : Option Packet) → o ≢ None → is_none o ≡ false
        by_slot None some = absurd (some refl)
        by_slot (Some k) some = refl

    -- a copy of a packet that is there is refused only where it has no place
    pub copy-rest : ((key : ℕ) → PACKETS ≤ key → slice_index_or m.slots key None ≡ None) → refusal_of w room (Copy key) ≡ option_and_then cause_of (placing m room)
    copy-rest keys = rw something (place-is m w s room keys)

    pub lose-full : room ≤ busy m → refusal_of w room (Lose key) ≡ Some 12
    lose-full full = let late : nat_lt room (busy m + 1) ≡ true = grind (arith, nat_tests) in rw (something, jobs m w s, late) refl

    pub lose-free : busy m < room → refusal_of w room (Lose key) ≡ None
    lose-free free = let early : nat_lt room (busy m + 1) ≡ false = grind (arith, nat_tests) in rw (something, jobs m w s, early) refl

  module _ (k : Packet) (some : slice_index_or m.slots key None ≡ Some k) where
    there : w.wire key ≡ Some k
    there = s.shows.wire key ∙ some

    module _ (calm : is_to_busy w (Some k) ≡ false) (begun : ℕ) (begun_is : begun ≡ one_if (starts w (Some k))) where
      rest_is : refusal_of w room (Arrive key) ≡ least ((nat_lt room (busy m + begun + 1), 12) ∷ [])
      rest_is = rw (there, calm, jobs m w s, begun_is) refl

      pub arrive-full : room ≤ busy m + begun → refusal_of w room (Arrive key) ≡ Some 12
      arrive-full full = let late : nat_lt room (busy m + begun + 1) ≡ true = grind (arith, nat_tests) in rest_is ∙ rw late refl

      pub arrive-free : busy m + begun < room → refusal_of w room (Arrive key) ≡ None
      arrive-free free = let early : nat_lt room (busy m + begun + 1) ≡ false = grind (arith, nat_tests) in rest_is ∙ rw early refl
