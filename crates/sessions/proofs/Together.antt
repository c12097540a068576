-- Calls of a service as those of a session, whose callers share it
use Rattle.std.proofs.Common.{◌≡◌, ℕ, ◌+◌, ◌-◌, [], ◌∷◌, List, length, length-append, refl, ap, ◌∙◌, arith}
use Rattle.std.specs.Prelude.{Option, Result, Ok, Err}
use Rattle.world.specs.declared.call.Call.{Call}
use Rattle.world.specs.declared.answer.Answer.{Answer}
use Rattle.world.specs.declared.refusal.Refusal.{Refusal}
use Rattle.machine.specs.declared.arrival.Arrival.{Arrival}
use Rattle.machine.specs.declared.arrival.Arrival.TheVariants.{Started, Duplicate, Early, Shown, ShownBefore, Numbered, Acknowledged, Stale, Unreachable}
use Rattle.machine.specs.declared.arrival.Finished.{Finished}
use Rattle.sessions.specs.Job.{TheJob}
use Rattle.sessions.specs.Seats.{TheSeat}
use Rattle.sessions.specs.Journal.{TheSession, Adds, HandsOut, Takes, answered_more, entry}
use Rattle.sessions.specs.Driver.{Advances, Driven}
use Rattle.sessions.specs.Service.{seat_of, OwesAs}

-- a session of this service, with these seats at hand
abbrev pub with_seats : List (Option TheSeat) → TheSession → TheSession
with_seats seats s = record { images = s.images; entries = s.entries; seats = seats }

-- a call that is accepted counts for its seat
pub accepts : (seats : List (Option TheSeat)) (old new : TheSession) (by by' : TheSeat) (call : Call) (a : Answer) → OwesAs by.worker old new call (Ok a)
    → by' ≡ answered_more 1 by → Adds (with_seats seats old) (with_seats seats new) by by' call (Ok a)
accepts seats old new by by' call a adds seat = (adds.0, ap (with_seats seats) adds.1, seat)

-- and one that is refused changes nothing
pub refuses : (seats : List (Option TheSeat)) (old new : TheSession) (by : TheSeat) (worker : ℕ) (call : Call) (r : Refusal) → OwesAs worker old new call (Err r)
    → Adds (with_seats seats old) (with_seats seats new) by by call (Err r)
refuses seats old new by worker call r adds = (ap (with_seats seats) adds.0, refl, adds.2)

-- an arrival hands out what it does of the service
pub hands : (seats : List (Option TheSeat)) (s : TheSession) (a : Arrival TheJob) → HandsOut s a → HandsOut (with_seats seats s) a
hands seats s (Started task) job = job
hands seats s (Duplicate key) job = tt
hands seats s Early job = tt
hands seats s (Shown ssn) job = tt
hands seats s ShownBefore job = tt
hands seats s (Numbered key) job = tt
hands seats s Acknowledged job = tt
hands seats s Stale job = tt
hands seats s Unreachable job = tt

-- a result that is taken in, and one that isn't
pub takes : (seats : List (Option TheSeat)) (old new : TheSession) (by by' : TheSeat) (task : TheJob) (f : Finished) → Takes old new (seat_of by.worker old) (seat_of by.worker new) task (Ok f)
    → by' ≡ answered_more 1 by → Takes (with_seats seats old) (with_seats seats new) by by' task (Ok f)
takes seats old new by by' task f owes seat = (owes.0, (owes.1.0, ap (with_seats seats) owes.1.1, seat))

-- a result that is refused leaves all as it was
pub leaves : (seats : List (Option TheSeat)) (old new : TheSession) (by : TheSeat) (worker : ℕ) (task : TheJob) (r : Refusal × TheJob) → Takes old new (seat_of worker old) (seat_of worker new) task (Err r)
    → Takes (with_seats seats old) (with_seats seats new) by by task (Err r)
leaves seats old new by worker task r owes = (owes.0, ap (with_seats seats) owes.1, refl, owes.3)

-- calls that are made one after the other count for their seat as many as the journal grew by
advances : (seats : List (Option TheSeat)) (budget : ℕ) (old new : TheSession) (by by' : TheSeat) (n : ℕ) (left : Option ℕ) → Advances budget old new (seat_of by.worker old) (seat_of by.worker new) n left
    → by' ≡ answered_more (length new.entries - length old.entries) by → Advances budget (with_seats seats old) (with_seats seats new) by by' n left
advances seats budget old new by by' n left a seat =
    let grew : length new.entries ≡ length old.entries + length a.added = ap (λ (s : TheSession). length s.entries) a.entries ∙ length-append old.entries a.added in
    let as_many : length new.entries - length old.entries ≡ n = omega (arith, grew, a.as_many) in
    record {
      added = a.added;
      as_many = a.as_many;
      entries = ap (with_seats seats) a.entries;
      seat = seat ∙ ap (λ k. answered_more k by) as_many;
      run = a.run;
    }

-- calls that are driven count for the seat, as many as the journal grew
pub drives : (seats : List (Option TheSeat)) (budget : ℕ) (old new : TheSession) (by by' : TheSeat) (r : Result ℕ Refusal) → Driven budget old new (seat_of by.worker old) (seat_of by.worker new) r
    → by' ≡ answered_more (length new.entries - length old.entries) by → Driven budget (with_seats seats old) (with_seats seats new) by by' r
drives seats budget old new by by' (Ok n) made seat = (advances seats budget old new by by' n _ made.0 seat, made.1)
drives seats budget old new by by' (Err r) made seat = (made.0, (made.1.0, made.1.1, advances seats budget old new by by' made.1.0 made.1.1 made.1.2 seat))

-- a call that is accepted adds one entry
pub grew : (old new : TheSession) (by by' : TheSeat) (call : Call) (a : Answer) → Adds old new by by' call (Ok a) → length new.entries ≡ length old.entries + 1
grew old new by by' call a adds = ap (λ (s : TheSession). length s.entries) adds.1 ∙ length-append old.entries (entry by.worker call a ∷ [])
