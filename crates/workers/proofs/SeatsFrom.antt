-- Seats that are taken one after the other
use Rattle.std.proofs.Common.{◌≡◌, ℕ, suc, zero, ◌+◌, ◌-◌, ◌<◌, ◌≤◌, List, [], ◌++◌, length, length-append, append_assoc, refl, sym, ap, ◌∙◌, arith, inl, inr, true≢false}
use Rattle.std.specs.Prelude.{Option, Some, None, IsSome, ◌⊎◌, slice_set}
use Rattle.std.proofs.lemmas.List.{get_or-set_other}
use Rattle.std.proofs.lemmas.List.Sums.{sum_by-append}
use Rattle.limits.specs.declared.TheConstants.{SEATS, WORKERS}
use Rattle.sessions.specs.Seats.{TheSeat, IsWhole, answered_by, listed, seat_at, seats_from}
use Rattle.workers.specs.Runs.{manned, unmanned}

-- they depend on the places of their workers alone
seats_from-same : (xs ys : List (Option TheSeat)) (k n : ℕ) → ((j : ℕ) → k ≤ j → j < k + n → seat_at xs j ≡ seat_at ys j) → seats_from xs k n ≡ seats_from ys k n
seats_from-same xs ys k zero same = refl
seats_from-same xs ys k (suc n) same =
    let before = seats_from-same xs ys k n (λ j low high. same j low (omega (arith, high))) in
    let here : seat_at xs (k + n) ≡ seat_at ys (k + n) = same (k + n) (omega arith) (omega arith) in
    λ i. before i ++ listed (here i)

seats_from-next : (xs : List (Option TheSeat)) (k n : ℕ) → seats_from xs k (n + 1) ≡ seats_from xs k n ++ listed (seat_at xs (k + n))
seats_from-next xs k n = let next : n + 1 ≡ suc n = omega arith in ap (seats_from xs k) next

-- one more is taken
pub taken-more : (xs ys : List (Option TheSeat)) (k n : ℕ) (before items items' : List TheSeat) → items ≡ before ++ seats_from xs k n → seat_at ys (k + n) ≡ seat_at xs (k + n)
    → items' ≡ items ++ listed (seat_at ys (k + n)) → items' ≡ before ++ seats_from xs k (n + 1)
taken-more xs ys k n before items items' is here more = more ∙ (λ i. is i ++ listed (here i)) ∙ append_assoc before (seats_from xs k n) (listed (seat_at xs (k + n))) ∙ ap (λ s. before ++ s) (sym (seats_from-next xs k n))

-- the other seats stay as they are
pub others-more : (xs ys zs : List (Option TheSeat)) (k n : ℕ) → ((j : ℕ) → (j < k) ⊎ (k + n ≤ j) → seat_at ys j ≡ seat_at xs j) → zs ≡ slice_set ys (k + n) None
    → (j : ℕ) → (j < k) ⊎ (k + (n + 1) ≤ j) → seat_at zs j ≡ seat_at xs j
others-more xs ys zs k n same set j (inl below) = ap (λ s. seat_at s j) set ∙ get_or-set_other ys (k + n) j None None (omega (arith, below)) ∙ same j (inl below)
others-more xs ys zs k n same set j (inr above) = ap (λ s. seat_at s j) set ∙ get_or-set_other ys (k + n) j None None (omega (arith, above)) ∙ same j (inr (omega (arith, above)))

-- nobody's seat, those after the workers', and theirs
pub all-taken : (xs ys zs : List (Option TheSeat)) (n : ℕ) (none one two three : List TheSeat) → n ≤ WORKERS → none ≡ [] → one ≡ none ++ seats_from xs 0 1 → ((j : ℕ) → (j < 0) ⊎ (0 + 1 ≤ j) → seat_at ys j ≡ seat_at xs j)
    → two ≡ one ++ seats_from ys (n + 1) (WORKERS - n) → ((j : ℕ) → (j < n + 1) ⊎ (n + 1 + (WORKERS - n) ≤ j) → seat_at zs j ≡ seat_at ys j) → three ≡ two ++ seats_from zs 1 n → three ≡ unmanned n xs ++ manned n xs
all-taken xs ys zs n none one two three few empty first first_others second second_others third =
    let nobody : one ≡ seats_from xs 0 1 = first ∙ ap (λ s. s ++ seats_from xs 0 1) empty in
    let behind : seats_from ys (n + 1) (WORKERS - n) ≡ seats_from xs (n + 1) (WORKERS - n) = seats_from-same ys xs (n + 1) (WORKERS - n) (λ j low high. first_others j (inr (omega (arith, low)))) in
    let theirs : seats_from zs 1 n ≡ seats_from xs 1 n = seats_from-same zs xs 1 n (λ j low high. second_others j (inl (omega (arith, high))) ∙ first_others j (inr (omega (arith, low)))) in
    let both : two ≡ unmanned n xs = second ∙ (λ i. nobody i ++ behind i) in
    third ∙ (λ i. both i ++ theirs i)

length-listed : (o : Option TheSeat) → IsSome o → length (listed o) ≡ 1
length-listed (Some s) some = refl
length-listed None some = absurd (true≢false (sym some))

-- if no seat is out, there are as many as workers
length-seats_from : (xs : List (Option TheSeat)) (k n : ℕ) → IsWhole xs → k + n ≤ length xs → length (seats_from xs k n) ≡ n
length-seats_from xs k zero whole within = refl
length-seats_from xs k (suc n) whole within =
    let here : IsSome (seat_at xs (k + n)) = whole (k + n) None (omega (arith, within)) in
    omega (arith, length-append (seats_from xs k n) (listed (seat_at xs (k + n))), length-listed (seat_at xs (k + n)) here, length-seats_from xs k n whole (omega (arith, within)))

pub length-unmanned : (xs : List (Option TheSeat)) (n : ℕ) → IsWhole xs → n ≤ WORKERS → length xs ≡ SEATS → length (unmanned n xs) ≡ SEATS - n
length-unmanned xs n whole few places =
    let nobody : length (seats_from xs 0 1) ≡ 1 = length-seats_from xs 0 1 whole (omega (arith, places)) in
    let behind : length (seats_from xs (n + 1) (WORKERS - n)) ≡ WORKERS - n = length-seats_from xs (n + 1) (WORKERS - n) whole (omega (arith, places, few)) in
    omega (arith, length-append (seats_from xs 0 1) (seats_from xs (n + 1) (WORKERS - n)), nobody, behind, few)

pub length-manned : (xs : List (Option TheSeat)) (n : ℕ) → IsWhole xs → n ≤ WORKERS → length xs ≡ SEATS → length (manned n xs) ≡ n
length-manned xs n whole few places = length-seats_from xs 1 n whole (omega (arith, places, few))

pub answered_by-append : (xs ys : List TheSeat) → answered_by (xs ++ ys) ≡ answered_by xs + answered_by ys
answered_by-append xs ys = sum_by-append (λ (s : TheSeat). s.answered) xs ys
