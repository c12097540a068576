-- The seats at hand
use Rattle.std.proofs.Common.{◌≡◌, ℕ, zero, suc, ◌-◌, ◌<◌, ◌≤◌, List, [], ◌∷◌, ◌++◌, length, length-append, Bool, true, false, nat_lt, refl, sym, ap, ◌∙◌, subst, arith}
use Rattle.std.specs.Prelude.{Option, Some, None, IfSome, slice_index_or}
use Rattle.std.proofs.lemmas.List.{get_or_append_left, get_or-append_right, get_or_past}
use Rattle.std.proofs.lemmas.Bool.Decides.{nat_tests}
use Rattle.limits.specs.declared.TheConstants.{SEATS}
use Rattle.sessions.specs.Seats.{TheSeat, AreSeats, new_seats, seat_at}

abbrev new_seat : ℕ → Option TheSeat
new_seat k = Some (record { worker = k; answered = 0 })

new-length : (n : ℕ) → length (new_seats n) ≡ n
new-length zero = refl
new-length (suc n) = length-append (new_seats n) (new_seat n ∷ []) ∙ omega (arith, new-length n)

new-at : (n k : ℕ) → k < n → seat_at (new_seats n) k ≡ new_seat k
new-at zero k h = absurd (omega arith)
new-at (suc n) k h = by_place (λ below. new-at n k below) (nat_lt k n) refl
  where
    at_end : seat_at (new_seats n ++ new_seat n ∷ []) n ≡ new_seat n
    at_end =
        let none : n - n ≡ 0 = omega arith in
        get_or-append_right (new_seats n) (new_seat n ∷ []) n n None (new-length n) (omega arith) ∙ ap (λ j. slice_index_or (new_seat n ∷ []) j None) none

    by_place : (k < n → seat_at (new_seats n) k ≡ new_seat k) → (b : Bool) → nat_lt k n ≡ b → seat_at (new_seats n ++ new_seat n ∷ []) k ≡ new_seat k
    by_place before true e =
        let below : k < n = grind (arith, nat_tests) in
        get_or_append_left (new_seats n) (new_seat n ∷ []) None k (omega (arith, below, new-length n)) ∙ before below
    by_place before false e =
        let last : k ≡ n = grind (arith, nat_tests) in
        subst (λ j. seat_at (new_seats n ++ new_seat n ∷ []) j ≡ new_seat j) (sym last) at_end

worker-of : (k : ℕ) (s : TheSeat) → new_seat k ≡ Some s → s.worker ≡ k
worker-of k s e = cc

new-placed : (n k : ℕ) (s : TheSeat) (b : Bool) → nat_lt k n ≡ b → seat_at (new_seats n) k ≡ Some s → s.worker ≡ k
new-placed n k s true e at = worker-of k s (sym (new-at n k (grind (arith, nat_tests))) ∙ at)
new-placed n k s false e at =
    let above : n ≤ k = grind (arith, nat_tests) in
    let none : None ≡ Some s = sym (get_or_past (new_seats n) k None (omega (arith, above, new-length n))) ∙ at in
    absurd (cc)

-- the seats of a session that opens
pub new-are-seats : AreSeats (new_seats SEATS)
new-are-seats = record { all = new-length SEATS; placed = λ k s e. new-placed SEATS k s (nat_lt k SEATS) refl e }

-- a seat that is at hand is that of its worker
pub sits : (seats : List (Option TheSeat)) (k : ℕ) (o : Option TheSeat) → AreSeats seats → o ≡ seat_at seats k → IfSome o (λ s. s.worker ≡ k)
sits seats k None are e = tt
sits seats k (Some s) are e = are.placed k s (sym e)
