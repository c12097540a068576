-- Seats, the rights to call
use Rattle.std.specs.Prelude.{◌≡◌, ℕ, suc, zero, ◌+◌, List, [], ◌∷◌, ◌++◌, length, Option, Some, None, All, IsSome, slice_index_or, sum_by}
use Rattle.limits.specs.declared.TheConstants.{SEATS}

-- its worker, 0 for none, and how many of its calls were accepted
pub record TheSeat : Type 0 where
  pub worker : ℕ
  pub answered : ℕ

-- the seats of the workers 0, 1, .. below n, none with an accepted call
abbrev pub new_seats : ℕ → List (Option TheSeat)
new_seats zero = []
new_seats (suc k) = new_seats k ++ Some (record { worker = k; answered = 0 }) ∷ []

-- the seat of this worker, if there is one and it isn't out
abbrev pub seat_at : List (Option TheSeat) → ℕ → Option TheSeat
seat_at seats k = slice_index_or seats k None

-- the seats of the workers 0 to 16. Each that isn't out is at its own number
pub record AreSeats (seats : List (Option TheSeat)) : Type 0 where
  pub all : length seats ≡ SEATS
  pub placed : (k : ℕ) (s : TheSeat) → seat_at seats k ≡ Some s → s.worker ≡ k

-- no seat is out
abbrev pub IsWhole : List (Option TheSeat) → Type 0
IsWhole seats = All IsSome seats

-- this seat, or no seat if it is out
abbrev pub listed : Option TheSeat → List TheSeat
listed None = []
listed (Some s) = s ∷ []

-- the seats that aren't out, of n workers from the worker k on
abbrev pub seats_from : List (Option TheSeat) → ℕ → ℕ → List TheSeat
seats_from seats k zero = []
seats_from seats k (suc n) = seats_from seats k n ++ listed (seat_at seats (k + n))

-- how many calls of these seats were accepted
abbrev pub answered_by : List TheSeat → ℕ
answered_by seats = sum_by (λ s. s.answered) seats
