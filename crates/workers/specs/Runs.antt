-- What a run needs, which seats it gives to workers, and why it is refused
use Rattle.std.specs.Prelude.{ℕ, ◌+◌, ◌≤◌, ◌-◌, List, ◌++◌, Option}
use Rattle.limits.specs.declared.TheConstants.{WORKERS}
use Rattle.sessions.specs.Seats.{TheSeat, IsWhole, seats_from}
use Rattle.sessions.specs.Journal.{TheSession}
use Rattle.workers.specs.declared.runs.RunError.{RunError}
use Rattle.workers.specs.declared.runs.RunError.TheVariants.{Workers, Memory}

-- there are 1 to 16 workers, and no seat is out
pub record CanRun (workers : ℕ) (s : TheSession) : Type 0 where
  pub some : 1 ≤ workers
  pub few : workers ≤ WORKERS
  pub whole : IsWhole s.seats

-- the seats of the workers 1, 2, .. up to this number
abbrev pub manned : ℕ → List (Option TheSeat) → List TheSeat
manned workers seats = seats_from seats 1 workers

-- the other seats
abbrev pub unmanned : ℕ → List (Option TheSeat) → List TheSeat
unmanned workers seats = seats_from seats 0 1 ++ seats_from seats (workers + 1) (WORKERS - workers)

-- a run is refused if it can't be, or for lack of memory
abbrev pub IsCause : RunError → Type 0 → Type 0
IsCause Workers P = ¬ P
IsCause Memory P = P

-- the number of the cause that is told. If both hold, it is that of `Workers`
abbrev pub number_of : RunError → ℕ
number_of Workers = 1
number_of Memory = 2
