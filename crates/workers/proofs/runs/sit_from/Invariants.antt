use Rattle.std.proofs.Common.{◌≡◌, ◌+◌, ◌++◌, ℕ, ◌<◌, ◌≤◌, vec_len}
use Rattle.std.specs.Prelude.{◌⊎◌, vec_capacity}
use Rattle.sessions.specs.Seats.{seat_at, seats_from}
use Rattle.workers.proofs.runs.sit_from.Given as goal

abbrev pub invariant-loop-place : goal.invariant-loop-place
invariant-loop-place g l =
    (l.seats.items ≡ l.fn.seats.items ++ seats_from l.fn.session.seats l.worker l.place)
    × (vec_len l.seats ≤ vec_len l.fn.seats + l.place)
    × (vec_capacity l.seats ≡ vec_capacity l.fn.seats)
    × (l.session.entries ≡ l.fn.session.entries)
    × (l.session.images ≡ l.fn.session.images)
    × ((k : ℕ) → (k < l.worker) ⊎ (l.worker + l.place ≤ k) → seat_at l.session.seats k ≡ seat_at l.fn.session.seats k)
