-- One driven call more
use Rattle.std.proofs.Common.{◌≡◌, ℕ, suc, ◌+◌, ◌-◌, ◌<◌, ◌≤◌, List, [], ◌∷◌, ◌++◌, length, length-append, append_assoc, Bool, true, false, refl, sym, ap, ◌∙◌, subst, arith}
use Rattle.std.specs.Prelude.{Option, Some, None, Ok, ◌||◌, ◌==◌}
use Rattle.std.proofs.lemmas.List.{append-nil}
use Rattle.world.specs.declared.call.Call.{Call}
use Rattle.world.specs.declared.call.Call.TheVariants.{Input, Transmit, Copy, Lose, Arrive, Finish, Checkpoint, Trim, Crash, Recover, RecoverAlone, ReplayBegin, Resync as ResyncWith}
use Rattle.world.specs.declared.answer.Answer.{Answer}
use Rattle.world.specs.declared.entry.Entry.{Entry}
use Rattle.world.specs.declared.refusal.Refusal.{Refusal}
use Rattle.world.specs.declared.refusal.Refusal.TheVariants as refusals
use Rattle.world.specs.declared.refusal.Refusal.TheVariants.{Memory}
use Rattle.sessions.specs.Fold.{handlers_of}
use Rattle.world.specs.World.{World, opening}
use Rattle.world.specs.Calls.{after}
use Rattle.world.specs.Refusals.{cause_of}
use Rattle.world.specs.Useful.{is_free, is_useful, may_call}
use Rattle.world.specs.Legal.{world_after}
use Rattle.world.proofs.Runs.{world_after-append}
use Rattle.machine.specs.Arrival.{Told}
use Rattle.machine.specs.Choice.{IsPick, IsMove}
use Rattle.machine.specs.Dispatch.{TakesNoResult, job_of}
use Rattle.sessions.specs.Seats.{TheSeat}
use Rattle.sessions.specs.Journal.{TheSession, world_at, room_at, answered_more, entry, Adds}
use Rattle.sessions.specs.Driver.{Drives, Advances}

-- any seat may make a call that is picked
pub may-pick : (w : World) (room worker : ℕ) (call : Call) → IsPick w room call → may_call w worker call ≡ true
may-pick w room worker call k = by_worker (worker == 0) (is_free call) (is_useful w call) k.useful
  where
    by_worker : (a b c : Bool) → c ≡ true → (a || (b || c)) ≡ true
    by_worker true b c e = refl
    by_worker false true c e = refl
    by_worker false false c e = e

-- a call that is picked isn't a finish
pub takes-none : (call : Call) → IsMove call → TakesNoResult call
takes-none (Arrive key) move = tt
takes-none (Transmit p d i) move = tt
takes-none (ReplayBegin p) move = tt
takes-none (ResyncWith p r) move = tt
takes-none (Input d feed x) move = absurd move
takes-none (Copy key) move = absurd move
takes-none (Lose key) move = absurd move
takes-none (Finish p) move = absurd move
takes-none (Checkpoint p) move = absurd move
takes-none (Trim d) move = absurd move
takes-none (Crash p) move = absurd move
takes-none (Recover p) move = absurd move
takes-none (RecoverAlone p) move = absurd move

-- a refusal without a cause of the world's is want of memory
pub cause-memory : (r : Refusal) → cause_of r ≡ None → r ≡ Memory
cause-memory refusals.NoSuchProcess e = absurd (cc)
cause-memory refusals.NotUp e = absurd (cc)
cause-memory refusals.Busy e = absurd (cc)
cause-memory refusals.NoPacket e = absurd (cc)
cause-memory refusals.SameProcess e = absurd (cc)
cause-memory refusals.NotReleased e = absurd (cc)
cause-memory refusals.NotLogged e = absurd (cc)
cause-memory refusals.PeerNotUp e = absurd (cc)
cause-memory refusals.StaleJob e = absurd (cc)
cause-memory refusals.NotDown e = absurd (cc)
cause-memory refusals.WrongPhase e = absurd (cc)
cause-memory refusals.JournalFull e = absurd (cc)
cause-memory refusals.WireFull e = absurd (cc)
cause-memory refusals.FeedTaken e = absurd (cc)
cause-memory refusals.Memory e = refl

-- so is that of a result of the open job
pub told-memory : (r : Refusal) (P : Type 0) → Told r P → P → r ≡ Memory
told-memory refusals.NoSuchProcess P t p = absurd t
told-memory refusals.NotUp P t p = absurd t
told-memory refusals.Busy P t p = absurd t
told-memory refusals.NoPacket P t p = absurd t
told-memory refusals.SameProcess P t p = absurd t
told-memory refusals.NotReleased P t p = absurd t
told-memory refusals.NotLogged P t p = absurd t
told-memory refusals.PeerNotUp P t p = absurd t
told-memory refusals.StaleJob P t p = absurd (t p)
told-memory refusals.NotDown P t p = absurd t
told-memory refusals.WrongPhase P t p = absurd t
told-memory refusals.JournalFull P t p = absurd t
told-memory refusals.WireFull P t p = absurd t
told-memory refusals.FeedTaken P t p = absurd t
told-memory refusals.Memory P t p = refl

-- Runs that go on

drives-more : (worker b b' room : ℕ) (job : Option ℕ) (w : World) (es : List Entry) (left : Option ℕ) → b ≤ b' → Drives worker b room job w es left → Drives worker b' room job w es left
drives-more worker b b' room job w [] left le h = h
drives-more worker b b' room None w (e ∷ es) left le h =
    (omega (arith, le, h.0), h.1, h.2, drives-more worker (b - 1) (b' - 1) (room - 1) (job_of w e.call e.answer) (after w e.call e.answer) es left (omega arith) h.3)
drives-more worker b b' room (Some p) w (e ∷ es) left le h =
    (h.0, h.1, drives-more worker (b - 1) (b' - 1) (room - 1) None (after w e.call e.answer) es left (omega arith) h.2)

drives-append : (worker budget room : ℕ) (job : Option ℕ) (w : World) (es fs : List Entry) (left : Option ℕ) → Drives worker budget room job w es None → length es < budget
    → Drives worker 1 (room - length es) None (world_after w es) fs left → Drives worker budget room job w (es ++ fs) left
drives-append worker budget room job w [] fs left h short more =
    let same : room - 0 ≡ room = omega arith in
    let P : ℕ → Type 0 = λ r. Drives worker 1 r None w fs left in
    let Q : Option ℕ → Type 0 = λ o. Drives worker budget room o w fs left in
    subst Q (sym h) (drives-more worker 1 budget room None w fs left (omega (arith, short)) (subst P same more))
drives-append worker budget room None w (e ∷ es) fs left h short more =
    let same : room - suc (length es) ≡ room - 1 - length es = omega arith in
    let P : ℕ → Type 0 = λ r. Drives worker 1 r None (world_after (after w e.call e.answer) es) fs left in
    (h.0, h.1, h.2, drives-append worker (budget - 1) (room - 1) (job_of w e.call e.answer) (after w e.call e.answer) es fs left h.3 (omega (arith, short)) (subst P same more))
drives-append worker budget room (Some p) w (e ∷ es) fs left h short more =
    let same : room - suc (length es) ≡ room - 1 - length es = omega arith in
    let P : ℕ → Type 0 = λ r. Drives worker 1 r None (world_after (after w e.call e.answer) es) fs left in
    (h.0, h.1, drives-append worker (budget - 1) (room - 1) None (after w e.call e.answer) es fs left h.2 (omega (arith, short)) (subst P same more))

-- Sessions that go on

abbrev with_entries : TheSession → List Entry → TheSession
with_entries s es = record s { entries = es }

-- where no call is made, session and seat stay as they were
pub advance-none : (budget : ℕ) (old new : TheSession) (by by' : TheSeat) → new ≡ old → by' ≡ by → Advances budget old new by by' 0 None
advance-none budget old new by by' same seat =
    let none : old.entries ++ [] ≡ old.entries = append-nil old.entries in
    let zero_more : by.answered + 0 ≡ by.answered = omega arith in
    record {
      added = [];
      as_many = refl;
      entries = same ∙ ap (with_entries old) (sym none);
      seat = seat ∙ ap (λ n. record by { answered = n }) (sym zero_more);
      run = refl;
    }

-- and where one is, its entry comes last, and counts for the seat
pub advance-one : (old new : TheSession) (by by' : TheSeat) (call : Call) (answer : Answer) → IsPick (world_at old) (room_at old) call → Adds old new by by' call (Ok answer) → Advances 1 old new by by' 1 (job_of (world_at old) call answer)
advance-one old new by by' call answer k adds =
    record {
      added = entry by.worker call answer ∷ [];
      as_many = refl;
      entries = adds.1;
      seat = adds.2;
      run = (omega arith, refl, k, refl);
    }

-- and where it starts a job, that is finished after it
pub advance-two : (old mid new : TheSession) (by mine by' : TheSeat) (call : Call) (answer last : Answer) (p : ℕ) → IsPick (world_at old) (room_at old) call
    → Adds old mid by mine call (Ok answer) → job_of (world_at old) call answer ≡ Some p → Adds mid new mine by' (Finish p) (Ok last) → Advances 1 old new by by' 2 None
advance-two old mid new by mine by' call answer last p k first job second =
    let e : Entry = entry by.worker call answer in
    let f : Entry = entry mine.worker (Finish p) last in
    let sum : by.answered + 1 + 1 ≡ by.answered + 2 = omega arith in
    record {
      added = e ∷ f ∷ [];
      as_many = refl;
      entries = second.1 ∙ ap (λ (s : TheSession). with_entries s (s.entries ++ f ∷ [])) first.1 ∙ ap (with_entries old) (append_assoc old.entries (e ∷ []) (f ∷ []));
      seat = second.2 ∙ ap (answered_more 1) first.2 ∙ ap (λ n. record by { answered = n }) sum;
      run = (omega arith, refl, k, subst (λ o. Drives by.worker 0 (room_at old - 1) o (after (world_at old) call answer) (f ∷ []) None) (sym job) (ap (λ (s : TheSeat). s.worker) first.2, refl, refl));
    }

-- a call of one run after another
pub advance-more : (budget : ℕ) (old mid new : TheSession) (by mine by' : TheSeat) (n k : ℕ) (left : Option ℕ) → Advances budget old mid by mine n None → n < budget → Advances 1 mid new mine by' k left → Advances budget old new by by' (n + k) left
advance-more budget old mid new by mine by' n k left a short b =
    let worker : mine.worker ≡ by.worker = ap (λ (s : TheSeat). s.worker) a.seat in
    let before : mid.entries ≡ old.entries ++ a.added = ap (λ (s : TheSession). s.entries) a.entries in
    let joined : mid.entries ++ b.added ≡ old.entries ++ (a.added ++ b.added) = ap (λ es. es ++ b.added) before ∙ append_assoc old.entries a.added b.added in
    let counted : mine.answered ≡ by.answered + n = ap (λ (s : TheSeat). s.answered) a.seat in
    let sum : mine.answered + k ≡ by.answered + (n + k) = omega (arith, counted) in
    let world : world_at mid ≡ world_after (world_at old) a.added =
    ap world_at a.entries ∙ world_after-append (opening (length old.images) (handlers_of old.images)) old.entries a.added in
    let room : room_at mid ≡ room_at old - length a.added = omega (arith, ap length before, length-append old.entries a.added) in
    let P : ℕ → ℕ → World → Type 0 = λ z r w. Drives z 1 r None w b.added left in
    let onward : Drives by.worker 1 (room_at old - length a.added) None (world_after (world_at old) a.added) b.added left =
    subst (λ z. P z (room_at old - length a.added) (world_after (world_at old) a.added)) worker
    (subst (λ r. P mine.worker r (world_after (world_at old) a.added)) room
    (subst (P mine.worker (room_at mid)) world b.run)) in
    record {
      added = a.added ++ b.added;
      as_many = omega (arith, length-append a.added b.added, a.as_many, b.as_many);
      entries = b.entries ∙ (λ i. record (a.entries i) { entries = joined i });
      seat = b.seat ∙ (λ i. record (a.seat i) { answered = sum i });
      run = drives-append by.worker budget (room_at old) None (world_at old) a.added b.added left a.run (omega (arith, a.as_many, short)) onward;
    }
