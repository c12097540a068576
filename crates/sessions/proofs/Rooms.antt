-- The places of the journal that open jobs hold
use Rattle.std.proofs.Common.{◌≡◌, ℕ, suc, ◌+◌, ◌-◌, ◌<◌, ◌≤◌, List, [], ◌∷◌, length, Bool, true, false, refl, sym, ap, ◌∙◌, subst, arith}
use Rattle.std.specs.Prelude.{if◌then◌else◌, ◌==◌, ◌&&◌, not, nat_lt, Option, Some, None}
use Rattle.std.proofs.lemmas.Bool.Decides.{nat_tests}
use Rattle.world.specs.declared.packet.Packet.{Packet}
use Rattle.world.specs.declared.packet.Packet.TheVariants.{Delivery, Number, Acknowledgement}
use Rattle.world.specs.declared.call.Call.{Call}
use Rattle.world.specs.declared.call.Call.TheVariants.{Input, Transmit, Copy, Lose, Arrive, Finish, Checkpoint, Trim, Crash, Recover, RecoverAlone, ReplayBegin, Resync as ResyncWith}
use Rattle.world.specs.declared.answer.Answer.{Answer}
use Rattle.world.specs.declared.answer.Answer.TheVariants as answers
use Rattle.world.specs.declared.answer.Answer.TheVariants.{Placed, Lost, Started, Duplicate, Shown, Numbered, Acknowledged, Kept}
use Rattle.world.specs.Phases.{Phase, Up, Busy, Down, Replaying, Resync, is_working, todo_of, without}
use Rattle.world.specs.World.{World, put, is_inside}
use Rattle.world.specs.Bounds.{count_below, open_jobs}
use Rattle.world.specs.Calls.{after, arrive, finish, recover, keep, ready, peers, phase_with, with_open_job}
use Rattle.world.specs.Answers.{MayAnswer, Finishes, Keeps, Receives}
use Rattle.world.specs.Refusals.{least, refusal_of, causes, starts, one_if}
use Rattle.world.proofs.Counts.{count_below-same, count_below-put}
use Rattle.machine.specs.Dispatch.{TakesNoResult}
use Rattle.machine.proofs.StartLemmas.{started-starts}

-- a refusal that isn't told: no cause holds
abbrev AllFalse : List (Bool × ℕ) → Type 0
AllFalse [] = Unit {0}
AllFalse (c ∷ cs) = (c.0 ≡ false) × AllFalse cs

clear-first : (b : Bool) (k : ℕ) (rest : Option ℕ) → (if b then Some k else rest) ≡ None → (b ≡ false) × (rest ≡ None)
clear-first true k rest e = absurd (cc)
clear-first false k rest e = (refl, e)

clear : (cs : List (Bool × ℕ)) → least cs ≡ None → AllFalse cs
clear [] e = tt
clear (c ∷ cs) e = let both = clear-first c.0 c.1 (least cs) e in (both.0, clear cs both.1)

put_test : (f : ℕ → Phase) (p : ℕ) (x : Phase) (q : ℕ) → is_working (put f p x q) ≡ put (λ q. is_working (f q)) p (is_working x) q
put_test f p x q = by_key (q == p)
  where
    by_key : (b : Bool) → is_working (if b then x else f q) ≡ (if b then is_working x else is_working (f q))
    by_key true = refl
    by_key false = refl

-- one process changes its phase
jobs-put : (f : ℕ → Phase) (p n : ℕ) (x : Phase) → p < n → count_below (λ q. is_working (put f p x q)) n + one_if (is_working (f p)) ≡ count_below (λ q. is_working (f q)) n + one_if (is_working x)
jobs-put f p n x h =
    let same = count_below-same (λ q. is_working (put f p x q)) (put (λ q. is_working (f q)) p (is_working x)) n (λ k below. put_test f p x k) in
    rw same (count_below-put (λ q. is_working (f q)) p n (is_working x) h)

jobs-beyond : (f : ℕ → Phase) (p n : ℕ) (x : Phase) → n ≤ p → count_below (λ q. is_working (put f p x q)) n ≡ count_below (λ q. is_working (f q)) n
jobs-beyond f p n x h = count_below-same (λ q. is_working (put f p x q)) (λ q. is_working (f q)) n (λ k below. put_test f p x k ∙ (let apart : (k == p) ≡ false = grind (arith, nat_tests) in rw apart refl))

-- at most one more is open
jobs-more : (f : ℕ → Phase) (p n : ℕ) (x : Phase) → count_below (λ q. is_working (put f p x q)) n ≤ count_below (λ q. is_working (f q)) n + 1
jobs-more f p n x = by_size (nat_lt p n) refl
  where
    at_most : (b : Bool) → one_if b ≤ 1
    at_most true = omega arith
    at_most false = omega arith

    by_size : (b : Bool) → nat_lt p n ≡ b → count_below (λ q. is_working (put f p x q)) n ≤ count_below (λ q. is_working (f q)) n + 1
    by_size true e = let h : p < n = grind (arith, nat_tests) in omega (arith, jobs-put f p n x h, at_most (is_working x))
    by_size false e = let h : n ≤ p = grind (arith, nat_tests) in omega (arith, jobs-beyond f p n x h)

jobs-arrive : (w : World) (key : ℕ) (found : Option Packet) (a : Answer) → Receives w key found a → open_jobs (arrive w key found a) ≤ open_jobs w + one_if (starts w found)
jobs-arrive w key (Some (Delivery d m)) (Started n) e =
    let more = jobs-more w.phase d (suc w.count) (Busy m) in
    rw (started-starts w key n (Some (Delivery d m)) e) more
jobs-arrive w key None a e = absurd e
jobs-arrive w key (Some (Delivery d m)) (Duplicate new) e = omega arith
jobs-arrive w key (Some (Delivery d m)) (Shown i) e = omega arith
jobs-arrive w key (Some (Number r s i k incarnation)) (Numbered new) e = omega arith
jobs-arrive w key (Some (Acknowledgement s r k incarnation)) Acknowledged e = omega arith
jobs-arrive w key (Some packet) a e = omega arith

places : (room jobs : ℕ) → nat_lt room (jobs + 1) ≡ false → jobs + 1 ≤ room
places room jobs e = grind (arith, nat_tests)

-- a place for each job that is open after an accepted call
room-input : (w : World) (room d feed : ℕ) (x : List ℕ) (a : Answer) → refusal_of w room (Input d feed x) ≡ None → open_jobs (after w (Input d feed x) a) + 1 ≤ room
room-input w room d feed x a accepted = places room (open_jobs w) (clear (causes w room (Input d feed x)) accepted).1.0

room-transmit : (w : World) (room p d i key : ℕ) → refusal_of w room (Transmit p d i) ≡ None → open_jobs (after w (Transmit p d i) (Placed key)) + 1 ≤ room
room-transmit w room p d i key accepted = places room (open_jobs w) (clear (causes w room (Transmit p d i)) accepted).1.1.1.1.1.0

room-copy : (w : World) (room key new : ℕ) → refusal_of w room (Copy key) ≡ None → open_jobs (after w (Copy key) (Placed new)) + 1 ≤ room
room-copy w room key new accepted = places room (open_jobs w) (clear (causes w room (Copy key)) accepted).1.0

room-lose : (w : World) (room key : ℕ) → refusal_of w room (Lose key) ≡ None → open_jobs (after w (Lose key) Lost) + 1 ≤ room
room-lose w room key accepted = places room (open_jobs w) (clear (causes w room (Lose key)) accepted).1.0

room-arrive : (w : World) (room key : ℕ) (a : Answer) → refusal_of w room (Arrive key) ≡ None → MayAnswer w (Arrive key) a → open_jobs (after w (Arrive key) a) + 1 ≤ room
room-arrive w room key a accepted may =
    let place = places room (open_jobs w + one_if (starts w (w.wire key))) (clear (causes w room (Arrive key)) accepted).1.1.0 in
    omega (arith, place, jobs-arrive w key (w.wire key) a may)

-- a process without an open job: not more are open
fewer : (w : World) (p : ℕ) (x : Phase) → is_working x ≡ false → count_below (λ q. is_working (put w.phase p x q)) (suc w.count) ≤ open_jobs w
fewer w p x idle = by_size (nat_lt p (suc w.count)) refl
  where
    by_size : (b : Bool) → nat_lt p (suc w.count) ≡ b → count_below (λ q. is_working (put w.phase p x q)) (suc w.count) ≤ open_jobs w
    by_size true e =
        let h : p < suc w.count = grind (arith, nat_tests) in
        let same : count_below (λ q. is_working (put w.phase p x q)) (suc w.count) + one_if (is_working (w.phase p)) ≡ open_jobs w + one_if (is_working x) = jobs-put w.phase p (suc w.count) x h in
        let none : one_if (is_working x) ≡ 0 = ap one_if idle in
        omega (arith, same, none)
    by_size false e = let h : suc w.count ≤ p = grind (arith, nat_tests) in omega (arith, jobs-beyond w.phase p (suc w.count) x h)

phase_with-idle : (rs : List ℕ) → is_working (phase_with rs) ≡ false
phase_with-idle [] = refl
phase_with-idle (r ∷ rs) = refl

jobs-recover : (w : World) (p k : ℕ) (alone : Bool) → open_jobs (recover w p k alone) ≤ open_jobs w
jobs-recover w p k alone = by_whole (nat_lt (w.saved p) k)
  where
    by_whole : (b : Bool) → open_jobs (if b then record (keep w p k) { phase = put w.phase p (Replaying 0 false alone) } else ready (keep w p k) p (peers w p alone)) ≤ open_jobs w
    by_whole true = fewer w p (Replaying 0 false alone) refl
    by_whole false = fewer w p (phase_with (peers w p alone)) (phase_with-idle (peers w p alone))

room-checkpoint : (w : World) (room p : ℕ) (a : Answer) → refusal_of w room (Checkpoint p) ≡ None → open_jobs (after w (Checkpoint p) a) + 1 ≤ room
room-checkpoint w room p a accepted = places room (open_jobs w) (clear (causes w room (Checkpoint p)) accepted).1.1.1.0

room-trim : (w : World) (room d : ℕ) (a : Answer) → refusal_of w room (Trim d) ≡ None → open_jobs (after w (Trim d) a) + 1 ≤ room
room-trim w room d a accepted = places room (open_jobs w) (clear (causes w room (Trim d)) accepted).1.0

room-recover : (w : World) (room p k : ℕ) → refusal_of w room (Recover p) ≡ None → open_jobs (after w (Recover p) (Kept k)) + 1 ≤ room
room-recover w room p k accepted = omega (arith, places room (open_jobs w) (clear (causes w room (Recover p)) accepted).1.1.1.0, jobs-recover w p k false)

room-alone : (w : World) (room p k : ℕ) → refusal_of w room (RecoverAlone p) ≡ None → open_jobs (after w (RecoverAlone p) (Kept k)) + 1 ≤ room
room-alone w room p k accepted = omega (arith, places room (open_jobs w) (clear (causes w room (RecoverAlone p)) accepted).1.1.0, jobs-recover w p k true)

room-begin : (w : World) (room p : ℕ) (a : Answer) → refusal_of w room (ReplayBegin p) ≡ None → open_jobs (after w (ReplayBegin p) a) + 1 ≤ room
room-begin w room p a accepted = omega (arith, places room (open_jobs w + 1) (clear (causes w room (ReplayBegin p)) accepted).1.1.1.0, jobs-more w.phase p (suc w.count) (with_open_job (w.phase p)))

room-resync : (w : World) (room p r : ℕ) (a : Answer) → refusal_of w room (ResyncWith p r) ≡ None → open_jobs (after w (ResyncWith p r) a) + 1 ≤ room
room-resync w room p r a accepted = omega (arith, places room (open_jobs w) (clear (causes w room (ResyncWith p r)) accepted).1.1.1.1.0, fewer w p (phase_with (without (todo_of (w.phase p)) r)) (phase_with-idle (without (todo_of (w.phase p)) r)))

inside-below : (w : World) (p : ℕ) → is_inside w p ≡ true → p < suc w.count
inside-below w p inside = grind (arith, nat_tests)

both-of : (a b : Bool) → not (a && b) ≡ false → (a ≡ true) × (b ≡ true)
both-of true true e = (refl, refl)
both-of true false e = absurd (cc)
both-of false b e = absurd (cc)

not-false : (b : Bool) → not b ≡ false → b ≡ true
not-false true e = refl
not-false false e = absurd (cc)

-- the open job of a process that crashes is gone
room-crash : (w : World) (room p : ℕ) (a : Answer) → refusal_of w room (Crash p) ≡ None → open_jobs (after w (Crash p) a) + 1 ≤ room
room-crash w room p a accepted =
    let inside : is_inside w p ≡ true = not-false (is_inside w p) (clear (causes w room (Crash p)) accepted).0 in
    let same : count_below (λ q. is_working (put w.phase p Down q)) (suc w.count) + one_if (is_working (w.phase p)) ≡ open_jobs w + 0 = jobs-put w.phase p (suc w.count) Down (inside-below w p inside) in
    omega (arith, places room (open_jobs w - one_if (is_working (w.phase p))) (clear (causes w room (Crash p)) accepted).1.1.0, same)

-- a finished job gives its place back
given-back : (w : World) (p : ℕ) (x : Phase) → is_inside w p ≡ true → is_working (w.phase p) ≡ true → is_working x ≡ false → count_below (λ q. is_working (put w.phase p x q)) (suc w.count) + 1 ≡ open_jobs w
given-back w p x inside was idle =
    let same : count_below (λ q. is_working (put w.phase p x q)) (suc w.count) + one_if (is_working (w.phase p)) ≡ open_jobs w + one_if (is_working x) = jobs-put w.phase p (suc w.count) x (inside-below w p inside) in
    let one : one_if (is_working (w.phase p)) ≡ 1 = ap one_if was in
    let none : one_if (is_working x) ≡ 0 = ap one_if idle in
    omega (arith, same, one, none)

finished-phase : (w : World) (p : ℕ) (phase : Phase) (a : Answer) → is_inside w p ≡ true → is_working (w.phase p) ≡ true → Finishes w p phase a → open_jobs (finish w p phase a) + 1 ≡ open_jobs w
finished-phase w p (Busy m) a inside was may =
    let P : Answer → Type 0 = λ a. open_jobs (finish w p (Busy m) a) + 1 ≡ open_jobs w in
    subst P (sym may.2) (given-back w p Up inside was refl)
finished-phase w p (Replaying j working alone) a inside was may =
    let P : Answer → Type 0 = λ a. open_jobs (finish w p (Replaying j working alone) a) + 1 ≡ open_jobs w in
    subst P (sym may) (by_whole (nat_lt (w.saved p + suc j) (length (w.history p))))
  where
    by_whole : (b : Bool) → open_jobs (if b then record w { phase = put w.phase p (Replaying (suc j) false alone) } else ready w p (peers w p alone)) + 1 ≡ open_jobs w
    by_whole true = given-back w p (Replaying (suc j) false alone) inside was refl
    by_whole false = given-back w p (phase_with (peers w p alone)) inside was (phase_with-idle (peers w p alone))
finished-phase w p Up a inside was may = absurd may
finished-phase w p Down a inside was may = absurd may
finished-phase w p (Resync todo) a inside was may = absurd may

pub room-finish : (w : World) (room p : ℕ) (a : Answer) → refusal_of w room (Finish p) ≡ None → MayAnswer w (Finish p) a → open_jobs (after w (Finish p) a) + 1 ≡ open_jobs w
room-finish w room p a accepted may =
    let both = both-of (is_inside w p) (is_working (w.phase p)) (clear (causes w room (Finish p)) accepted).0 in
    finished-phase w p (w.phase p) a both.0 both.1 may

-- a process that comes back is told how many messages it keeps
pub kept : (w : World) (p : ℕ) (a : Answer) → Keeps w p a → (k : ℕ) × (a ≡ Kept k)
kept w p (Kept k) h = (k, refl)
kept w p (answers.Logged n) h = absurd h
kept w p (answers.Placed n) h = absurd h
kept w p answers.Lost h = absurd h
kept w p (answers.Started n) h = absurd h
kept w p (answers.Numbered n) h = absurd h
kept w p answers.Acknowledged h = absurd h
kept w p (answers.Shown n) h = absurd h
kept w p (answers.Duplicate n) h = absurd h
kept w p answers.ShownBefore h = absurd h
kept w p answers.Early h = absurd h
kept w p answers.Stale h = absurd h
kept w p answers.Unreachable h = absurd h
kept w p (answers.Committed n key) h = absurd h
kept w p (answers.Replayed n) h = absurd h
kept w p (answers.Saved n) h = absurd h
kept w p (answers.Trimmed n) h = absurd h
kept w p (answers.Crashed n) h = absurd h
kept w p (answers.Restored n) h = absurd h

-- a place for each job that is open after an accepted call
pub room-of : (w : World) (room : ℕ) (call : Call) (a : Answer) → TakesNoResult call → refusal_of w room call ≡ None → MayAnswer w call a → open_jobs (after w call a) + 1 ≤ room
room-of w room (Input d feed x) a j e may = room-input w room d feed x a e
room-of w room (Transmit p d i) a j e may =
    let P : Answer → Type 0 = λ a. open_jobs (after w (Transmit p d i) a) + 1 ≤ room in
    subst P (sym may.2) (room-transmit w room p d i may.0 e)
room-of w room (Copy key) a j e may =
    let P : Answer → Type 0 = λ a. open_jobs (after w (Copy key) a) + 1 ≤ room in
    subst P (sym may.2) (room-copy w room key may.0 e)
room-of w room (Lose key) a j e may = room-lose w room key e
room-of w room (Checkpoint p) a j e may = room-checkpoint w room p a e
room-of w room (Trim d) a j e may = room-trim w room d a e
room-of w room (Crash p) a j e may = room-crash w room p a e
room-of w room (Recover p) a j e may =
    let P : Answer → Type 0 = λ a. open_jobs (after w (Recover p) a) + 1 ≤ room in
    let k = kept w p a may in
    subst P (sym k.1) (room-recover w room p k.0 e)
room-of w room (RecoverAlone p) a j e may =
    let P : Answer → Type 0 = λ a. open_jobs (after w (RecoverAlone p) a) + 1 ≤ room in
    let k = kept w p a may in
    subst P (sym k.1) (room-alone w room p k.0 e)
room-of w room (ResyncWith p r) a j e may = room-resync w room p r a e
room-of w room (Arrive key) a j e may = room-arrive w room key a e may
room-of w room (Finish p) a j e may = absurd j
room-of w room (ReplayBegin p) a j e may = room-begin w room p a e
