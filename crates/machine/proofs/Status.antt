-- What a machine tells of each world that it stands for
use Rattle.std.proofs.Common.{◌≡◌, ◌≢◌, ℕ, zero, suc, ◌+◌, ◌-◌, ◌<◌, ◌≤◌, List, [], length, take, Bool, true, false, refl, sym, ap, ◌∙◌, arith}
use Rattle.std.specs.Prelude.{◌==◌, ◌&&◌, if◌then◌else◌, not, nat_lt, nat_le, Option, Some, None, is_some, count_by, slice_get, slice_index_or}
use Rattle.std.proofs.lemmas.Bool.Decides.{nat_tests}
use Rattle.std.proofs.lemmas.Bool.{false≢true}
use Rattle.std.proofs.lemmas.List.{get_or_default, get_or-append-add, length-append}
use Rattle.theorems.proofs.ListLemmas.{take-all}
use Rattle.std.proofs.lemmas.Option.{slice_get-get_or, slice_get_past}
use Rattle.std.proofs.Math.ListN.{get_or-eq_default}
use Rattle.limits.specs.declared.TheConstants.{PACKETS}
use Rattle.rsn.specs.Receipts.{numbers_from, numbers_of, judged}
use Rattle.rsn.specs.declared.receipts.Judgement.TheVariants as judgements
use Rattle.rsn.specs.declared.receipts.Judgement.TheVariants.{Duplicate}
use Rattle.sender_log.specs.Queue.{is_logged, number_of, payload_of}
use Rattle.sender_log.specs.Log.{queue_of}
use Rattle.world.specs.declared.message.Message.{Message}
use Rattle.world.specs.declared.packet.Packet.{Packet}
use Rattle.world.specs.History.{Payload, nth, count_of}
use Rattle.world.specs.Phases.{Phase, Up, Busy, Down, Replaying, Resync, is_up, is_down, is_busy, is_working}
use Rattle.world.specs.World.{World}
use Rattle.world.specs.Logs.{length_in, length_of, sent, run_of, released_to, is_entry}
use Rattle.world.specs.Bounds.{WIRE, count_below, is_none, open_jobs, live_jobs, packets}
use Rattle.world.specs.Answers.{Next, Known, Ahead, received_of, verdict_of, judge}
use Rattle.world.proofs.Counts.{count_below-same, count_below-shift, count_below-more, count_below-list}
use Rattle.session_process.specs.Process.{TheProcess, idle_process}
use Rattle.session_process.specs.Mode.{is_live, is_lost}
use Rattle.session_process.specs.declared.mode.Mode.{Mode}
use Rattle.session_process.specs.declared.mode.Mode.TheVariants as modes
use Rattle.machine.specs.Simulation.{TheMachine, StandsAt, Keeps, Holds, Stands, process_at, log_at, gate_at, is_up_at, sent_by, IsRest}
use Rattle.machine.specs.Work.{held_by, phase_of, MayWork, IsNextAfter}
use Rattle.machine.specs.Transmission.{live, released_at}
use Rattle.machine.specs.Reception.{IsJudged}
use Rattle.machine.proofs.ReceiptLemmas.{senders, length-numbers, rsn_from-numbers}

-- the size of the wire as a number, which the fields are compared with
pub wire-is : WIRE ≡ PACKETS
unfolding WIRE
wire-is = refl

-- what the phase of a process tells is told by its mode and its open job
pub is_working-phase_of : (n : ℕ) (t : Mode) (o : Option Message) (saved : ℕ) (h : List Message) → MayWork t o saved h → is_working (phase_of n t o) ≡ is_some o
is_working-phase_of n modes.Live None saved h may = refl
is_working-phase_of n modes.Live (Some m) saved h may = refl
is_working-phase_of n modes.Down o saved h may = sym (ap is_some may)
is_working-phase_of n (modes.Replaying plan alone) o saved h may = refl
is_working-phase_of n (modes.Resync peers) o saved h may = sym (ap is_some may)

pub is_busy-phase_of : (n : ℕ) (t : Mode) (o : Option Message) → is_busy (phase_of n t o) ≡ (is_live t && is_some o)
is_busy-phase_of n modes.Live None = refl
is_busy-phase_of n modes.Live (Some m) = refl
is_busy-phase_of n modes.Down o = refl
is_busy-phase_of n (modes.Replaying plan alone) o = refl
is_busy-phase_of n (modes.Resync peers) o = refl

pub is_up-phase_of : (n : ℕ) (t : Mode) (o : Option Message) → is_up (phase_of n t o) ≡ is_live t
is_up-phase_of n modes.Live None = refl
is_up-phase_of n modes.Live (Some m) = refl
is_up-phase_of n modes.Down o = refl
is_up-phase_of n (modes.Replaying plan alone) o = refl
is_up-phase_of n (modes.Resync peers) o = refl

pub is_down-phase_of : (n : ℕ) (t : Mode) (o : Option Message) → is_down (phase_of n t o) ≡ is_lost t
is_down-phase_of n modes.Live None = refl
is_down-phase_of n modes.Live (Some m) = refl
is_down-phase_of n modes.Down o = refl
is_down-phase_of n (modes.Replaying plan alone) o = refl
is_down-phase_of n (modes.Resync peers) o = refl

-- one that is up isn't down
pub live-lost : (t : Mode) → is_live t ≡ true → is_lost t ≡ false
live-lost modes.Live e = refl
live-lost modes.Down e = absurd (false≢true e)
live-lost (modes.Replaying plan alone) e = refl
live-lost (modes.Resync peers) e = refl

-- and the same of a phase
pub up-down : (p : Phase) → is_up p ≡ true → is_down p ≡ false
up-down Up e = refl
up-down (Busy m) e = refl
up-down Down e = absurd (false≢true e)
up-down (Replaying j working alone) e = refl
up-down (Resync todo) e = refl

-- a process that is up and has an open job works on the next message of its sender
pub live-busy : (n : ℕ) (t : Mode) (x : Message) → is_live t ≡ true → Busy x ≡ phase_of n t (Some x)
live-busy n modes.Live x e = refl
live-busy n modes.Down x e = absurd (false≢true e)
live-busy n (modes.Replaying plan alone) x e = absurd (false≢true e)
live-busy n (modes.Resync peers) x e = absurd (false≢true e)

-- a live process may have a job open on the next message of a sender
pub live-works : (t : Mode) (o : Option Message) (saved : ℕ) (h : List Message) → is_live t ≡ true → IsNextAfter h o → MayWork t o saved h
live-works modes.Live o saved h e next = next
live-works modes.Down o saved h e next = absurd (false≢true e)
live-works (modes.Replaying plan alone) o saved h e next = absurd (false≢true e)
live-works (modes.Resync peers) o saved h e next = absurd (false≢true e)

-- a process that is up has all of its history in its state
pub held-live : (t : Mode) (saved : ℕ) (h : List Message) → is_live t ≡ true → held_by t saved h ≡ h
held-live modes.Live saved h e = refl
held-live modes.Down saved h e = absurd (false≢true e)
held-live (modes.Replaying plan alone) saved h e = absurd (false≢true e)
held-live (modes.Resync peers) saved h e = absurd (false≢true e)

-- and so one that isn't down has the messages of its length
pub held-length_in : (n : ℕ) (t : Mode) (o : Option Message) (saved : ℕ) (h : List Message) → is_lost t ≡ false → take (length_in h saved (phase_of n t o)) h ≡ held_by t saved h
held-length_in n modes.Live None saved h e = take-all h
held-length_in n modes.Live (Some m) saved h e = take-all h
held-length_in n modes.Down o saved h e = absurd (false≢true (sym e))
held-length_in n (modes.Replaying plan alone) o saved h e = refl
held-length_in n (modes.Resync peers) o saved h e = take-all h

-- what an SSN is, where so many of its sender came
pub verdict-known : (n i : ℕ) → i ≤ n → verdict_of n i ≡ Known
verdict-known n i h =
    let apart : (i == suc n) ≡ false = grind (arith, nat_tests) in
    let below : nat_lt n i ≡ false = grind (arith, nat_tests) in
    rw (apart, below) refl

pub verdict-next : (n i : ℕ) → i ≡ n + 1 → verdict_of n i ≡ Next
verdict-next n i h = let same : (i == suc n) ≡ true = grind (arith, nat_tests) in rw same refl

pub verdict-ahead : (n i : ℕ) → n + 1 < i → verdict_of n i ≡ Ahead
verdict-ahead n i h =
    let apart : (i == suc n) ≡ false = grind (arith, nat_tests) in
    let above : nat_lt n i ≡ true = grind (arith, nat_tests) in
    rw (apart, above) refl

has_packet : (o : Option Packet) → not (is_none o) ≡ is_some o
has_packet None = refl
has_packet (Some k) = refl

-- how many jobs are open, by a test on phases that tells it
module _ (m : TheMachine) (w : World) (s : Stands m w) (test : Phase → Bool) (tells : TheProcess → Bool)
    (agree : (p : ℕ) (d : TheProcess) → p < length m.processes → test (w.phase (suc p)) ≡ tells (slice_index_or m.processes p d)) (idle : test Up ≡ false) where
  pub jobs_by : count_below (λ p. test (w.phase p)) (suc w.count) ≡ count_by tells m.processes
  jobs_by =
      let inside : ℕ → Bool = λ k. test (w.phase (suc k)) in
      let listed : count_by tells m.processes ≡ count_below inside (length m.processes) =
      count_below-list tells inside m.processes (λ p d h. sym (agree p d h)) in
      let outside : test (w.phase 0) ≡ false = ap test s.shows.outside ∙ idle in
      let shifted = count_below-shift (λ p. test (w.phase p)) w.count in
      shifted ∙ rw outside (omega (arith, listed, ap (count_below inside) s.shows.count))

-- the world has as many open jobs as the fields tell
pub jobs : (m : TheMachine) (w : World) → Stands m w → open_jobs w ≡ count_by (λ (x : TheProcess). is_some x.working) m.processes
jobs m w s =
    jobs_by m w s is_working (λ (x : TheProcess). is_some x.working)
    (λ p d h. let at = s.shows.process p d h in ap is_working at.phase_is ∙ is_working-phase_of _ _ _ _ _ at.works) refl

-- and as many live ones
pub live-is : (m : TheMachine) (w : World) → Stands m w → live_jobs w ≡ live m
live-is m w s =
    jobs_by m w s is_busy (λ (x : TheProcess). is_live x.mode && is_some x.working)
    (λ p d h. let at = s.shows.process p d h in ap is_busy at.phase_is ∙ is_busy-phase_of _ _ _) refl

-- how many packets there are: no key from n on has one
counted : (slots : List (Option Packet)) (n : ℕ) → ((key : ℕ) → n ≤ key → slice_index_or slots key None ≡ None) → (b : Bool) → nat_le (length slots) n ≡ b
    → count_below (λ key. is_some (slice_index_or slots key None)) n ≡ count_below (λ key. is_some (slice_index_or slots key None)) (length slots)
counted slots n none true e =
    let within : length slots + (n - length slots) ≡ n = grind (arith, nat_tests) in
    rw within at (count_below-more (λ key. is_some (slice_index_or slots key None)) (length slots) (n - length slots) (λ k h. ap is_some (get_or-eq_default slots None h)))
counted slots n none false e =
    let within : n + (length slots - n) ≡ length slots = grind (arith, nat_tests) in
    sym (rw within at (count_below-more (λ key. is_some (slice_index_or slots key None)) n (length slots - n) (λ k h. ap is_some (none k h))))

packets_to : (m : TheMachine) (w : World) (n : ℕ) → Stands m w → ((key : ℕ) → n ≤ key → slice_index_or m.slots key None ≡ None) → count_below (λ key. not (is_none (w.wire key))) n ≡ count_by is_some m.slots
packets_to m w n s none =
    count_below-same (λ key. not (is_none (w.wire key))) (λ key. is_some (slice_index_or m.slots key None)) n (λ k h. has_packet (w.wire k) ∙ ap is_some (s.shows.wire k))
    ∙ counted m.slots n none (nat_le (length m.slots) n) refl
    ∙ sym (count_below-list is_some (λ key. is_some (slice_index_or m.slots key None)) m.slots (λ p d h. ap is_some (get_or_default m.slots p d None h)))

-- and as many packets, where no key from the size of the wire on has one
pub packets-is : (m : TheMachine) (w : World) → Stands m w → ((key : ℕ) → PACKETS ≤ key → slice_index_or m.slots key None ≡ None) → packets w ≡ count_by is_some m.slots
packets-is m w s keys = packets_to m w WIRE s (λ key h. keys key (rw wire-is at h))

-- what is kept of the process of this number, from 1
pub at_process : (m : TheMachine) (w : World) → Stands m w → (p : ℕ) → 0 < p → p ≤ length m.processes
    → StandsAt (length m.processes) p (process_at m p) (w.handlers.state p) (w.handlers.sends p) (w.history p) (w.phase p) (w.incarnation p) (w.acknowledged p) (w.saved p) (w.saved_trims p)
at_process m w s p inside within =
    let back : suc (p - 1) ≡ p = omega arith in
    rw back at (s.shows.process (p - 1) (idle_process 0 0 0) (omega arith))

-- the world tells as the fields do which are up
pub up_is : (m : TheMachine) (w : World) → Stands m w → (p : ℕ) → p ≤ length m.processes → is_up (w.phase p) ≡ is_up_at m p
up_is m w s zero within = ap is_up s.shows.outside
up_is m w s (suc p) within = let apart : (suc p == 0) ≡ false = grind (arith, nat_tests) in rw apart (ap is_up (at_process m w s (suc p) (omega arith) within).phase_is ∙ is_up-phase_of _ _ _)

-- so a process that is up by its fields is up in the world
pub up_at : (m : TheMachine) (w : World) → Stands m w → (p : ℕ) → p ≤ length m.processes → is_up_at m p ≡ true → is_up (w.phase p) ≡ true
up_at m w s p within up = up_is m w s p within ∙ up

-- and which are down
pub down_is : (m : TheMachine) (w : World) → Stands m w → (p : ℕ) → 0 < p → p ≤ length m.processes → is_down (w.phase p) ≡ is_lost (process_at m p).mode
down_is m w s p inside within = ap is_down (at_process m w s p inside within).phase_is ∙ is_down-phase_of _ _ _

-- nor is one down in the world that is up by its fields
pub down_at : (m : TheMachine) (w : World) → Stands m w → (p : ℕ) → p ≤ length m.processes → is_up_at m p ≡ true → is_down (w.phase p) ≡ false
down_at m w s p within up = up-down (w.phase p) (up_at m w s p within up)

-- a process that is up is live
pub is_live-at : (m : TheMachine) (p : ℕ) → 0 < p → is_up_at m p ≡ true → is_live (process_at m p).mode ≡ true
is_live-at m p inside up = let apart : (p == 0) ≡ false = grind (arith, nat_tests) in rw apart at up

-- what one that isn't down has of its history
pub held_at : (m : TheMachine) (w : World) → Stands m w → (p : ℕ) → 0 < p → p ≤ length m.processes → is_lost (process_at m p).mode ≡ false → take (length_of w p) (w.history p) ≡ held_by (process_at m p).mode (w.saved p) (w.history p)
held_at m w s p inside within back = rw (at_process m w s p inside within).phase_is (held-length_in _ _ _ _ _ back)

-- what the log of this number keeps for another
pub keeps_at : (m : TheMachine) (w : World) → Stands m w → (p d : ℕ) → p ≤ length m.processes → d ≤ length m.processes → p ≢ d → is_down (w.phase p) ≡ false → Keeps (queue_of d (log_at m p)) (w.trims p d) (sent w p d) (w.numbers p d)
keeps_at m w s p d within to apart back = s.shows.logs p d within to apart back

-- what the gate of a process that is up let out to another, and what waits
pub holds_at : (m : TheMachine) (w : World) → Stands m w → (p d : ℕ) → 0 < p → p ≤ length m.processes → d ≤ length m.processes → p ≢ d → is_up (w.phase p) ≡ true → Holds d (gate_at m p) (run_of w p) (length (w.history p)) (w.released p d) (sent_by w p d)
holds_at m w s p d inside within to apart up = s.shows.gates p d inside within to apart up

-- a list of which so many first ones are dropped
module _ (dropped : ℕ) (rest all : List Payload) (r : IsRest dropped rest all) where
  pub rest-length : length all ≡ dropped + length rest
  rest-length = ap length (sym r.joined) ∙ length-append r.before rest ∙ ap (λ n. n + length rest) r.count

  pub rest-get : (i : ℕ) → dropped ≤ i → slice_get all i ≡ slice_get rest (i - dropped)
  rest-get i h = by_place (nat_lt (i - dropped) (length rest)) refl
    where
      back : length r.before + (i - dropped) ≡ i
      back = omega (arith, r.count, h)

      at : slice_index_or all i [] ≡ slice_index_or rest (i - dropped) []
      at = rw (back, r.joined) at (get_or-append-add r.before rest (i - dropped) [])

      by_place : (b : Bool) → nat_lt (i - dropped) (length rest) ≡ b → slice_get all i ≡ slice_get rest (i - dropped)
      by_place true e =
          let inside : i - dropped < length rest = grind (arith, nat_tests) in
          slice_get-get_or all i [] (omega (arith, rest-length, inside, h)) ∙ ap (λ x. Some x) at ∙ sym (slice_get-get_or rest (i - dropped) [] inside)
      by_place false e =
          let past : length rest ≤ i - dropped = grind (arith, nat_tests) in
          slice_get_past all i (omega (arith, rest-length, past, h)) ∙ sym (slice_get_past rest (i - dropped) past)

-- the logs of the machine have what the logs of the world have
module _ (m : TheMachine) (w : World) (s : Stands m w) (p d : ℕ) (within : p ≤ length m.processes) (to : d ≤ length m.processes) (apart : p ≢ d) (back : is_down (w.phase p) ≡ false) where
  kept : Keeps (queue_of d (log_at m p)) (w.trims p d) (sent w p d) (w.numbers p d)
  kept = keeps_at m w s p d within to apart back

  -- the message with a number is kept
  among : (t n i : ℕ) → (nat_lt t i && nat_le i (t + n)) ≡ (nat_le (suc t) i && nat_lt (i - suc t) n)
  among t n i = grind (arith, nat_tests)

  -- where it is, it has this place
  place : (i : ℕ) → is_logged i (queue_of d (log_at m p)) ≡ true → (suc (w.trims p d) ≤ i) × (i - (queue_of d (log_at m p)).first < length (queue_of d (log_at m p)).payloads) × (i - (queue_of d (log_at m p)).first ≡ i - suc (w.trims p d))
  place i logged =
      let from : (queue_of d (log_at m p)).first ≤ i = grind (arith, nat_tests) in
      (rw kept.first at from, grind (arith, nat_tests), ap (λ n. i - n) kept.first)

  -- how many it has
  pub last_at : (queue_of d (log_at m p)).first + length (queue_of d (log_at m p)).payloads ≡ length (sent w p d) + 1
  last_at = omega (arith, kept.first, rest-length _ _ _ kept.rest)

  pub entry_at : (i : ℕ) → is_entry w p d i ≡ is_logged i (queue_of d (log_at m p))
  entry_at i = rw (back, kept.first, rest-length _ _ _ kept.rest) (among (w.trims p d) (length (queue_of d (log_at m p)).payloads) i)

  pub payload_at : (i : ℕ) → is_logged i (queue_of d (log_at m p)) ≡ true → nth (sent w p d) i ≡ Some (payload_of i (queue_of d (log_at m p)))
  payload_at zero logged = absurd (omega (arith, (place zero logged).0))
  payload_at (suc i) logged =
      let at = place (suc i) logged in
      let same : i - w.trims p d ≡ suc i - (queue_of d (log_at m p)).first = omega (arith, at.2) in
      rest-get _ _ _ kept.rest i (omega (arith, at.0)) ∙ rw same (slice_get-get_or (queue_of d (log_at m p)).payloads (suc i - (queue_of d (log_at m p)).first) [] at.1)

  pub number_at : (i : ℕ) → is_logged i (queue_of d (log_at m p)) ≡ true → number_of i (queue_of d (log_at m p)) ≡ w.numbers p d i
  number_at i logged =
      let at = place i logged in
      let from : nat_le (queue_of d (log_at m p)).first i ≡ true = grind (arith, nat_tests) in
      let same : suc (w.trims p d + (i - (queue_of d (log_at m p)).first)) ≡ i = omega (arith, at.0, at.2) in
      rw from (kept.numbers_are (i - (queue_of d (log_at m p)).first) at.1 ∙ ap (w.numbers p d) same)

-- of one that is up
module _ (m : TheMachine) (w : World) (s : Stands m w) (p d : ℕ) (within : p ≤ length m.processes) (to : d ≤ length m.processes) (apart : p ≢ d) (up : is_up_at m p ≡ true) where
  pub released_is : released_to w p d ≡ released_at m p d
  released_is = by_sender (p == 0) refl
    where
      by_sender : (b : Bool) → (p == 0) ≡ b → released_to w p d ≡ released_at m p d
      by_sender true e =
          let last = rw e at (last_at m w s p d within to apart (down_at m w s p within up)) in
          rw e (omega (arith, last))
      by_sender false e =
          let inside : 0 < p = grind (arith, nat_tests) in
          rw e (sym (holds_at m w s p d inside within to apart (up_at m w s p within up)).released_is)

-- how many messages of its sender the receiver of a message has
received_of-inside : (w : World) (p : ℕ) (x : Message) → 0 < p → received_of w p x ≡ count_of x.sender (w.history p)
received_of-inside w zero x h = absurd (omega arith)
received_of-inside w (suc p) x h = refl

-- what was shown judges an output as the world does
pub judged_outside : (m : TheMachine) (w : World) → Stands m w → (x : Message) → judge w 0 x ≡ verdict_of (count_of x.sender m.outside.shown) x.ssn
judged_outside m w s x = ap (λ h. verdict_of (count_of x.sender h) x.ssn) s.shows.shown

-- the receipts judge a message as the world does
module _ (m : TheMachine) (w : World) (s : Stands m w) (p : ℕ) (x : Message) (inside : 0 < p) (within : p ≤ length m.processes) (up : is_up_at m p ≡ true) (first : 0 < x.ssn) where
  at : StandsAt (length m.processes) p (process_at m p) (w.handlers.state p) (w.handlers.sends p) (w.history p) (w.phase p) (w.incarnation p) (w.acknowledged p) (w.saved p) (w.saved_trims p)
  at = at_process m w s p inside within

  all : held_by (process_at m p).mode (w.saved p) (w.history p) ≡ w.history p
  all = held-live _ _ _ (is_live-at m p inside up)

  numbers : List ℕ
  numbers = numbers_of x.sender (process_at m p).receipts

  numbers_are : numbers ≡ numbers_from x.sender 0 (senders (w.history p))
  unfolding numbers
  numbers_are = ap (numbers_from x.sender 0) (at.senders ∙ ap senders all)

  count : length numbers ≡ count_of x.sender (w.history p)
  count = ap length numbers_are ∙ length-numbers x.sender 0 (w.history p)

  verdict : judge w p x ≡ verdict_of (length numbers) x.ssn
  verdict = ap (λ n. verdict_of n x.ssn) (received_of-inside w p x inside ∙ sym count)

  known : nat_lt (x.ssn - 1) (length numbers) ≡ true → IsJudged w p x (Duplicate (slice_index_or numbers (x.ssn - 1) 0))
  known e = (verdict ∙ verdict-known (length numbers) x.ssn (grind (arith, nat_tests)), λ _. rsn_from-numbers 0 (λ _. 0) x.sender x.ssn (w.history p) at.in_order first (grind (arith, nat_tests, count)) ∙ ap (λ ns. Some (slice_index_or ns (x.ssn - 1) 0)) (sym numbers_are))

  pub judged_at : IsJudged w p x (judged (numbers_of x.sender (process_at m p).receipts) x.ssn)
  unfolding numbers
  judged_at = by_place (nat_lt (x.ssn - 1) (length numbers)) refl (x.ssn - 1 == length numbers) refl
    where
      by_place : (b : Bool) → nat_lt (x.ssn - 1) (length numbers) ≡ b → (c : Bool) → (x.ssn - 1 == length numbers) ≡ c → IsJudged w p x (if b then Duplicate (slice_index_or numbers (x.ssn - 1) 0) else (if c then judgements.Next else judgements.Early))
      by_place true e c f = known e
      by_place false e true f = verdict ∙ verdict-next (length numbers) x.ssn (grind (arith, nat_tests))
      by_place false e false f = verdict ∙ verdict-ahead (length numbers) x.ssn (grind (arith, nat_tests))

-- a key with a packet is one of the wire's
pub key-low : (slots : List (Option Packet)) (key : ℕ) (k : Packet) → ((key : ℕ) → PACKETS ≤ key → slice_index_or slots key None ≡ None) → slice_index_or slots key None ≡ Some k → key < PACKETS
key-low slots key k keys found = by_size (nat_lt key PACKETS) refl
  where
    by_size : (b : Bool) → nat_lt key PACKETS ≡ b → key < PACKETS
    by_size true e = grind (arith, nat_tests)
    by_size false e = let above : PACKETS ≤ key = grind (arith, nat_tests) in let none = keys key above in absurd (cc)
