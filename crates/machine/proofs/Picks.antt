-- Useful calls, as the machine's fields tell them
use Rattle.std.proofs.Common.{◌≡◌, ◌≢◌, ℕ, zero, suc, ◌+◌, ◌-◌, ◌<◌, ◌≤◌, List, [], ◌∷◌, length, Bool, true, false, refl, sym, ap, ◌∙◌, subst, arith, true≢false}
use Rattle.std.specs.Prelude.{if◌then◌else◌, ◌==◌, ◌&&◌, ◌||◌, not, nat_lt, nat_le, Option, Some, None, is_some, count_by, slice_index_or, option_and_then, IfNone, IfSome}
use Rattle.std.proofs.lemmas.Bool.Decides.{nat_tests}
use Rattle.std.proofs.lemmas.List.{get_or_default}
use Rattle.limits.specs.declared.TheConstants.{PACKETS}
use Rattle.rsn.specs.Receipts.{numbers_of, run_of, acknowledged_of}
use Rattle.sender_log.specs.Queue.{is_logged}
use Rattle.sender_log.specs.Log.{queue_of}
use Rattle.world.specs.declared.packet.Packet.{Packet}
use Rattle.world.specs.declared.packet.Packet.TheVariants.{Acknowledgement}
use Rattle.world.specs.declared.call.Call.{Call}
use Rattle.world.specs.declared.call.Call.TheVariants.{Input, Transmit, Copy, Lose, Arrive, Finish, Checkpoint, Trim, Crash, Recover, RecoverAlone, ReplayBegin, Resync as ResyncWith}
use Rattle.world.specs.History.{rsn_of}
use Rattle.world.specs.Phases.{is_up, is_down, is_working, is_replaying, todo_of, has}
use Rattle.world.specs.World.{World, is_inside}
use Rattle.world.specs.Logs.{released_to, is_entry}
use Rattle.world.specs.Bounds.{WIRE, any_below, open_jobs, journal_full}
use Rattle.world.specs.declared.refusal.Refusal.{Refusal}
use Rattle.world.specs.declared.refusal.Refusal.TheVariants.{NoSuchProcess, NotUp, Busy, NoPacket, SameProcess, NotReleased, NotLogged, PeerNotUp, StaleJob, NotDown, WrongPhase, JournalFull, WireFull, FeedTaken, Memory}
use Rattle.world.specs.Refusals.{least, refusal_of, cause_of}
use Rattle.world.specs.Useful.{belongs, is_at, wants, is_useful}
use Rattle.session_process.specs.Wire.{AreListed}
use Rattle.machine.specs.Simulation.{TheMachine, Stands, process_at, log_at, is_up_at, IsTold}
use Rattle.machine.specs.Transmission.{busy, live, placing, released_at}
use Rattle.machine.specs.Choice.{IsPick, ArePeers, next_ssn}
use Rattle.machine.proofs.Status.{wire-is, key-low, at_process, up_is, up_at, down_at, entry_at, released_is}
use Rattle.machine.proofs.Causes.{transmit-outside, transmit-same, transmit-rest}
use Rattle.machine.proofs.ReplayCauses.{replay-outside, resync-outside}
use Rattle.machine.proofs.Wants.{unacknowledged, wants-other}

-- what follows where there is no value, or of the value
pub if_none : {X : Type 0} {P Q : Type 0} (o : Option X) → (P → Q) → IfNone o P → IfNone o Q
if_none None f p = f p
if_none (Some x) f p = tt

pub if_some : {X : Type 0} {P Q : X → Type 0} (o : Option X) → ((x : X) → P x → Q x) → IfSome o P → IfSome o Q
if_some None f p = tt
if_some (Some x) f p = f x p

-- What lies on the wire

pub any_below-some : (test : ℕ → Bool) (n k : ℕ) → k < n → test k ≡ true → any_below test n ≡ true
any_below-some test zero k h e = absurd (omega arith)
any_below-some test (suc n) k h e = by_place (k == n) refl (any_below-some test n k)
  where
    either : (a b : Bool) → b ≡ true → (a || b) ≡ true
    either true b e = refl
    either false b e = e

    by_place : (b : Bool) → (k == n) ≡ b → (k < n → test k ≡ true → any_below test n ≡ true) → any_below test (suc n) ≡ true
    by_place true f more = let here : test n ≡ true = ap test (let same : n ≡ k = grind (arith, nat_tests) in same) ∙ e in rw here refl
    by_place false f more = either (test n) (any_below test n) (more (grind (arith, nat_tests)) e)

pub any_below-all : (test : ℕ → Bool) (n : ℕ) → ((k : ℕ) → test k ≡ false) → any_below test n ≡ false
any_below-all test zero none = refl
any_below-all test (suc n) none = rw (none n) (any_below-all test n none)

-- a packet that belongs to a message lies on the wire
pub wire-has : (m : TheMachine) (w : World) (from to i key : ℕ) (k : Packet) → Stands m w → ((key : ℕ) → PACKETS ≤ key → slice_index_or m.slots key None ≡ None) → slice_index_or m.slots key None ≡ Some k → belongs w from to i (Some k) ≡ true
    → any_below (λ key. belongs w from to i (w.wire key)) WIRE ≡ true
wire-has m w from to i key k s keys found e =
    let low : key < WIRE = rw wire-is (key-low m.slots key k keys found) in
    any_below-some (λ key. belongs w from to i (w.wire key)) WIRE key low (ap (belongs w from to i) (s.shows.wire key ∙ found) ∙ e)

-- each key is one of those that are listed, or has nothing
by_listing : {P : ℕ → Type 0} (m : TheMachine) (w : World) (keys : List ℕ) → Stands m w → AreListed m.slots keys → ((k : ℕ) → k < length keys → P (slice_index_or keys k 0)) → ((key : ℕ) → w.wire key ≡ None → P key) → (key : ℕ) → P key
by_listing {P} m w keys s listed here elsewhere key = by_slot (slice_index_or m.slots key None) refl
  where
    by_slot : (o : Option Packet) → slice_index_or m.slots key None ≡ o → P key
    by_slot None e = elsewhere key (s.shows.wire key ∙ e)
    by_slot (Some k) e =
        let (place, below, at) = listed.all key k e in
        subst P (get_or_default keys place 0 key below ∙ at) (here place below)

-- and none does where none under a listed key does
pub wire-lacks : (m : TheMachine) (w : World) (from to i : ℕ) (keys : List ℕ) → Stands m w → AreListed m.slots keys → ((k : ℕ) → k < length keys → belongs w from to i (w.wire (slice_index_or keys k 0)) ≡ false)
    → any_below (λ key. belongs w from to i (w.wire key)) WIRE ≡ false
wire-lacks m w from to i keys s listed none =
    any_below-all (λ key. belongs w from to i (w.wire key)) WIRE (by_listing {P = λ key. belongs w from to i (w.wire key) ≡ false} m w keys s listed none (λ key e. ap (belongs w from to i) e))

-- no packet arrives where none under a listed key does
pub arrives-none : (m : TheMachine) (w : World) (room : ℕ) (keys : List ℕ) → Stands m w → AreListed m.slots keys → ((k : ℕ) → k < length keys → refusal_of w room (Arrive (slice_index_or keys k 0)) ≢ None) → (key : ℕ) → refusal_of w room (Arrive key) ≢ None
arrives-none m w room keys s listed none =
    by_listing {P = λ key. refusal_of w room (Arrive key) ≢ None} m w keys s listed none (λ key e f. let refused : Some 4 ≡ None = rw e at f in absurd (cc))

-- A useful message

both : (a b : Bool) → (a && b) ≡ true → (a ≡ true) × (b ≡ true)
both true true e = (refl, refl)
both true false e = absurd (cc)
both false b e = absurd (cc)

pub last_false : (a b : Bool) → b ≡ false → (a && b) ≡ false
last_false true b e = e
last_false false b e = refl

pub last_true : (a b : Bool) → b ≡ true → (a && b) ≡ a
last_true true b e = e
last_true false b e = refl

-- what is known of a useful message
module _ (w : World) (from to i : ℕ) (useful : is_useful w (Transmit from to i) ≡ true) where
  parts : ((is_up (w.phase from) && is_entry w from to i && nat_le i (released_to w from to) && not (any_below (λ key. belongs w from to i (w.wire key)) WIRE)) ≡ true) × (wants w from to i ≡ true)
  parts = both _ _ useful

  fields : (is_up (w.phase from) && is_entry w from to i ≡ true) × (nat_le i (released_to w from to) ≡ true)
  fields = both _ _ (both _ _ parts.0).0

  departs : (is_up (w.phase from) ≡ true) × (is_entry w from to i ≡ true)
  departs = both _ _ fields.0

module _ (m : TheMachine) (w : World) (s : Stands m w) (room from to i : ℕ) (peers : ArePeers m from to) where
  released : released_to w from to ≡ released_at m from to
  released = released_is m w s from to peers.from_within peers.to_within peers.other peers.from_up

  entry : is_entry w from to i ≡ is_logged i (queue_of to (log_at m from))
  entry = entry_at m w s from to peers.from_within peers.to_within peers.other (down_at m w s from peers.from_within peers.from_up) i

  -- one that isn't released isn't
  pub useful-early : released_at m from to < i → is_useful w (Transmit from to i) ≡ false
  useful-early above =
      let out : nat_le i (released_at m from to) ≡ false = grind (arith, nat_tests) in
      rw (released, last_false (is_up (w.phase from) && is_entry w from to i) (nat_le i (released_at m from to)) out) refl

  -- nor is one that isn't logged
  pub useful-gone : is_logged i (queue_of to (log_at m from)) ≡ false → is_useful w (Transmit from to i) ≡ false
  useful-gone none = rw (last_false (is_up (w.phase from)) (is_entry w from to i) (entry ∙ none)) refl

  -- of one that is released and logged the wire and the receiver tell
  pub useful-is : is_logged i (queue_of to (log_at m from)) ≡ true → i ≤ released_at m from to → is_useful w (Transmit from to i) ≡ (not (any_below (λ key. belongs w from to i (w.wire key)) WIRE) && wants w from to i)
  useful-is logged among =
      let free : nat_le i (released_at m from to) ≡ true = grind (arith, nat_tests) in
      rw (released, up_at m w s from peers.from_within peers.from_up, entry ∙ logged, free) refl

  module _ (useful : is_useful w (Transmit from to i) ≡ true) where
    pub useful-wanted : wants w from to i ≡ true
    useful-wanted = (parts w from to i useful).1

    pub useful-first : 0 < i
    useful-first =
        let above : nat_lt (w.trims from to) i ≡ true = (both (not (is_down (w.phase from))) (nat_lt (w.trims from to) i) (both _ _ (departs w from to i useful).1).0).1 in
        grind (arith, nat_tests, above)

    useful_logged : is_logged i (queue_of to (log_at m from)) ≡ true
    useful_logged = sym entry ∙ (departs w from to i useful).1

    pub useful-released : i ≤ released_at m from to
    useful-released = let low : nat_le i (released_at m from to) ≡ true = rw released at (fields w from to i useful).1 in grind (arith, nat_tests)

    -- a packet more has a place or none, and the message is accepted so
    pub useful-place : ((key : ℕ) → PACKETS ≤ key → slice_index_or m.slots key None ≡ None) → refusal_of w room (Transmit from to i) ≡ option_and_then cause_of (placing m room)
    useful-place keys = transmit-rest m w s room from to i peers.from_within peers.to_within peers.from_up peers.other useful-released useful_logged keys

    -- where it has one, the message may be picked
    pub useful-pick : ((key : ℕ) → PACKETS ≤ key → slice_index_or m.slots key None ≡ None) → placing m room ≡ None → IsPick w room (Transmit from to i)
    useful-pick keys free = record { useful = useful; accepted = useful-place keys ∙ ap (option_and_then cause_of) free }

    -- one that isn't the next of its sender is one that is behind the sender's run
    pub useful-again : 0 < to → i ≢ next_ssn w from to → (i ≤ length (numbers_of from (process_at m to).receipts)) × (run_of (acknowledged_of from (process_at m to).receipts) < i)
    useful-again inside apart =
        unacknowledged m w s from to inside peers.to_within peers.to_up i useful-first (sym (wants-other m w s from to i inside peers.to_within peers.to_up useful-first apart) ∙ useful-wanted)

-- a pick passes between two of the machine that are up
pub pick-peers : (m : TheMachine) (w : World) (s : Stands m w) (room from to i : ℕ) → IsPick w room (Transmit from to i) → ArePeers m from to
pick-peers m w s room from to i k =
    by_number (nat_lt (length m.processes) from || nat_lt (length m.processes) to) refl
  where
    to_up : (d : ℕ) → d ≤ length m.processes → wants w from d i ≡ true → is_up_at m d ≡ true
    to_up zero within wanted = refl
    to_up (suc d) within wanted = sym (up_is m w s (suc d) within) ∙ (both (is_up (w.phase (suc d))) _ wanted).0

    by_number : (b : Bool) → (nat_lt (length m.processes) from || nat_lt (length m.processes) to) ≡ b → ArePeers m from to
    by_number true f = let told = transmit-outside m w s room from to i f in let none = k.accepted in absurd (cc)
    by_number false f =
        let from_within : from ≤ length m.processes = grind (arith, nat_tests) in
        let to_within : to ≤ length m.processes = grind (arith, nat_tests) in
        let from_up : is_up_at m from ≡ true = sym (up_is m w s from from_within) ∙ (departs w from to i k.useful).0 in
        record {
          from_within = from_within;
          to_within = to_within;
          other = λ same. let told = transmit-same m w s room from to i from_within to_within from_up same in let none = k.accepted in absurd (cc);
          from_up = from_up;
          to_up = to_up to to_within (parts w from to i k.useful).1;
        }

-- the outside wants the next of a sender alone
pub outside-next : (w : World) (from to i : ℕ) → to ≡ 0 → wants w from to i ≡ true → i ≡ next_ssn w from to
outside-next w from zero i e wanted = grind (arith, nat_tests)
outside-next w from (suc to) i e wanted = absurd (omega arith)

-- what holds of n and above it holds above the number before n
pub below-more : (P : ℕ → Type 0) (n top : ℕ) → 0 < n → P n → ((i : ℕ) → n < i → i ≤ top → P i) → (i : ℕ) → n - 1 < i → i ≤ top → P i
below-more P n top first here above i over under = by_place (n == i) refl
  where
    by_place : (b : Bool) → (n == i) ≡ b → P i
    by_place true e = let same : n ≡ i = grind (arith, nat_tests) in subst P same here
    by_place false e = above i (grind (arith, nat_tests)) under

-- none in the sender's run is wanted again
pub run-passes : (m : TheMachine) (w : World) (s : Stands m w) (from to n i : ℕ) → ArePeers m from to → 0 < to → n ≤ run_of (acknowledged_of from (process_at m to).receipts)
    → ((j : ℕ) → n < j → j ≤ length (numbers_of from (process_at m to).receipts) → is_useful w (Transmit from to j) ≢ true)
    → i ≢ next_ssn w from to → is_useful w (Transmit from to i) ≢ true
run-passes m w s from to n i peers inside low above apart useful =
    let again = useful-again m w s 0 from to i peers useful inside apart in
    above i (omega (arith, low, again.1)) again.0 useful

free-place : (full crowded : Bool) → option_and_then cause_of (if full then Some JournalFull else (if crowded then Some WireFull else None)) ≡ None → (if full then Some JournalFull else (if crowded then Some WireFull else None)) ≡ None
free-place true b e = absurd (cc)
free-place false true e = absurd (cc)
free-place false false e = refl

-- a message that is picked has a place
pub pick-placed : (m : TheMachine) (w : World) (s : Stands m w) (room from to i : ℕ) → ((key : ℕ) → PACKETS ≤ key → slice_index_or m.slots key None ≡ None) → IsPick w room (Transmit from to i) → placing m room ≡ None
pick-placed m w s room from to i keys k =
    free-place (nat_le room (busy m)) (nat_le (PACKETS - live m) (count_by is_some m.slots)) (sym (useful-place m w s room from to i (pick-peers m w s room from to i k) k.useful keys) ∙ k.accepted)

pub none-is : {X : Type 0} (o : Option X) → is_some o ≡ false → o ≡ None
none-is None e = refl
none-is (Some x) e = absurd (cc)

-- Jobs that are replayed, and numbers that are restored

-- a call that no cause refuses isn't refused by the first
first_not : (c : Bool) (k : ℕ) (rest : List (Bool × ℕ)) → least ((c, k) ∷ rest) ≡ None → (c ≡ false) × (least rest ≡ None)
first_not true k rest e = absurd (cc)
first_not false k rest e = (refl, e)

not_not : (b : Bool) → not b ≡ false → b ≡ true
not_not true e = refl
not_not false e = absurd (true≢false e)

-- a cause that is told refuses
pub told-refuses : (o : Option Refusal) → IsTold o → is_some o ≡ true → option_and_then cause_of o ≢ None
told-refuses None told some none = true≢false (sym some)
told-refuses (Some NoSuchProcess) told some none = absurd (cc)
told-refuses (Some NotUp) told some none = absurd (cc)
told-refuses (Some Busy) told some none = absurd (cc)
told-refuses (Some NoPacket) told some none = absurd (cc)
told-refuses (Some SameProcess) told some none = absurd (cc)
told-refuses (Some NotReleased) told some none = absurd (cc)
told-refuses (Some NotLogged) told some none = absurd (cc)
told-refuses (Some PeerNotUp) told some none = absurd (cc)
told-refuses (Some StaleJob) told some none = absurd (cc)
told-refuses (Some NotDown) told some none = absurd (cc)
told-refuses (Some WrongPhase) told some none = absurd (cc)
told-refuses (Some JournalFull) told some none = absurd (cc)
told-refuses (Some WireFull) told some none = absurd (cc)
told-refuses (Some FeedTaken) told some none = absurd (cc)
told-refuses (Some Memory) told some none = told refl

-- what isn't refused is useful
pub replay-pick : (w : World) (room p : ℕ) → refusal_of w room (ReplayBegin p) ≡ None → IsPick w room (ReplayBegin p)
replay-pick w room p e =
    let a = first_not (not (is_inside w p)) 1 ((is_working (w.phase p), 3) ∷ (not (is_replaying (w.phase p)), 11) ∷ (journal_full room (open_jobs w + 1), 12) ∷ []) e in
    let b = first_not (is_working (w.phase p)) 3 ((not (is_replaying (w.phase p)), 11) ∷ (journal_full room (open_jobs w + 1), 12) ∷ []) a.1 in
    let c = first_not (not (is_replaying (w.phase p))) 11 ((journal_full room (open_jobs w + 1), 12) ∷ []) b.1 in
    record { useful = rw (b.0, not_not (is_replaying (w.phase p)) c.0) refl; accepted = e }

-- and so are numbers that may be restored
pub resync-pick : (w : World) (room p r : ℕ) → refusal_of w room (ResyncWith p r) ≡ None → IsPick w room (ResyncWith p r)
resync-pick w room p r e =
    let a = first_not (not (is_inside w p && is_inside w r)) 1 ((p == r, 5) ∷ (not (is_up (w.phase r)), 8) ∷ (not (has (todo_of (w.phase p)) r), 11) ∷ (journal_full room (open_jobs w), 12) ∷ []) e in
    let b = first_not (p == r) 5 ((not (is_up (w.phase r)), 8) ∷ (not (has (todo_of (w.phase p)) r), 11) ∷ (journal_full room (open_jobs w), 12) ∷ []) a.1 in
    let c = first_not (not (is_up (w.phase r))) 8 ((not (has (todo_of (w.phase p)) r), 11) ∷ (journal_full room (open_jobs w), 12) ∷ []) b.1 in
    let d = first_not (not (has (todo_of (w.phase p)) r)) 11 ((journal_full room (open_jobs w), 12) ∷ []) c.1 in
    record { useful = rw (not_not (is_up (w.phase r)) c.0, not_not (has (todo_of (w.phase p)) r) d.0) refl; accepted = e }

-- where each process is refused, all are
module _ (m : TheMachine) (w : World) (s : Stands m w) (room : ℕ) where
  pub replay-none : ((p : ℕ) → 0 < p → p ≤ length m.processes → refusal_of w room (ReplayBegin p) ≢ None) → (p : ℕ) → IsPick w room (ReplayBegin p) → ⊥
  replay-none all p k = by_place (nat_lt 0 p && nat_le p (length m.processes)) refl
    where
      by_place : (b : Bool) → (nat_lt 0 p && nat_le p (length m.processes)) ≡ b → ⊥
      by_place true e = all p (grind (arith, nat_tests)) (grind (arith, nat_tests)) k.accepted
      by_place false e = let told = replay-outside m w s room p e in let none = k.accepted in absurd (cc)

  pub resync-none : (p : ℕ) → ((r : ℕ) → 0 < r → r ≤ length m.processes → refusal_of w room (ResyncWith p r) ≢ None) → (r : ℕ) → IsPick w room (ResyncWith p r) → ⊥
  resync-none p all r k = by_place (nat_lt 0 p && nat_le p (length m.processes) && (nat_lt 0 r && nat_le r (length m.processes))) refl
    where
      by_place : (b : Bool) → (nat_lt 0 p && nat_le p (length m.processes) && (nat_lt 0 r && nat_le r (length m.processes))) ≡ b → ⊥
      by_place true e = all r (grind (arith, nat_tests)) (grind (arith, nat_tests)) k.accepted
      by_place false e = let told = resync-outside m w s room p r e in let none = k.accepted in absurd (cc)

  pub resync-nowhere : ((p : ℕ) → 0 < p → p ≤ length m.processes → (r : ℕ) → IsPick w room (ResyncWith p r) → ⊥) → (p r : ℕ) → IsPick w room (ResyncWith p r) → ⊥
  resync-nowhere all p r k = by_place (nat_lt 0 p && nat_le p (length m.processes) && (nat_lt 0 r && nat_le r (length m.processes))) refl
    where
      by_place : (b : Bool) → (nat_lt 0 p && nat_le p (length m.processes) && (nat_lt 0 r && nat_le r (length m.processes))) ≡ b → ⊥
      by_place true e = all p (grind (arith, nat_tests)) (grind (arith, nat_tests)) r k
      by_place false e = let told = resync-outside m w s room p r e in let none = k.accepted in absurd (cc)

-- a call is picked only if it is an arrival, a message that leaves or is replayed, or numbers that are restored
pub pick-none : (w : World) (room : ℕ) → ((key : ℕ) → refusal_of w room (Arrive key) ≢ None) → ((p : ℕ) → IsPick w room (ReplayBegin p) → ⊥) → ((p r : ℕ) → IsPick w room (ResyncWith p r) → ⊥) → ((p d i : ℕ) → IsPick w room (Transmit p d i) → ⊥)
    → (call : Call) → IsPick w room call → ⊥
pick-none w room arrivals replays restores leaves (Input d feed x) k = true≢false (sym k.useful)
pick-none w room arrivals replays restores leaves (Transmit p d i) k = leaves p d i k
pick-none w room arrivals replays restores leaves (Copy key) k = true≢false (sym k.useful)
pick-none w room arrivals replays restores leaves (Lose key) k = true≢false (sym k.useful)
pick-none w room arrivals replays restores leaves (Arrive key) k = arrivals key k.accepted
pick-none w room arrivals replays restores leaves (Finish p) k = true≢false (sym k.useful)
pick-none w room arrivals replays restores leaves (Checkpoint p) k = true≢false (sym k.useful)
pick-none w room arrivals replays restores leaves (Trim d) k = true≢false (sym k.useful)
pick-none w room arrivals replays restores leaves (Crash p) k = true≢false (sym k.useful)
pick-none w room arrivals replays restores leaves (Recover p) k = true≢false (sym k.useful)
pick-none w room arrivals replays restores leaves (RecoverAlone p) k = true≢false (sym k.useful)
pick-none w room arrivals replays restores leaves (ReplayBegin p) k = replays p k
pick-none w room arrivals replays restores leaves (ResyncWith p r) k = restores p r k

-- what holds of n and of those below it holds below the number after n
pub upto-more : (P : ℕ → Type 0) (n : ℕ) → P n → ((k : ℕ) → 0 < k → k < n → P k) → (k : ℕ) → 0 < k → k < n + 1 → P k
upto-more P n here below k positive h = by_place (n == k) refl
  where
    by_place : (b : Bool) → (n == k) ≡ b → P k
    by_place true e = let same : n ≡ k = grind (arith, nat_tests) in subst P same here
    by_place false e = below k positive (grind (arith, nat_tests))

-- and the same, with 0 among them
pub up-more : (P : ℕ → Type 0) (n : ℕ) → P n → ((k : ℕ) → k < n → P k) → (k : ℕ) → k < n + 1 → P k
up-more P n here below k h = by_place (n == k) refl
  where
    by_place : (b : Bool) → (n == k) ≡ b → P k
    by_place true e = let same : n ≡ k = grind (arith, nat_tests) in subst P same here
    by_place false e = below k (grind (arith, nat_tests))

-- a value that is none of those that are there
pub not-some : {X : Type 0} (o : Option X) → ((x : X) → o ≢ Some x) → o ≡ None
not-some None other = refl
not-some (Some x) other = absurd (other x refl)

-- an acknowledgement belongs to the message whose number it tells
pub belongs-told : (m : TheMachine) (w : World) (s : Stands m w) (from to i : ℕ) → 0 < to → to ≤ length m.processes → (sender receiver rsn incarnation : ℕ) → receiver ≡ to → sender ≡ from → incarnation ≡ (process_at m to).incarnation
    → belongs w from to i (Some (Acknowledgement sender receiver rsn incarnation)) ≡ is_at (rsn_of (w.history to) from i) rsn
belongs-told m w s from to i inside within sender receiver rsn incarnation e f g =
    let a : (receiver == to) ≡ true = grind (arith, nat_tests) in
    let b : (sender == from) ≡ true = grind (arith, nat_tests) in
    let same : incarnation ≡ w.incarnation to = g ∙ sym (at_process m w s to inside within).incarnation_is in
    let c : (incarnation == w.incarnation to) ≡ true = grind (arith, nat_tests) in
    rw (a, b, c) refl
