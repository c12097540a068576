-- Shares of seats, in order
use Rattle.std.proofs.Common.{◌≡◌, ℕ, suc, zero, ◌-◌, ◌≤◌, List, [], ◌∷◌, ◌++◌, length, length-append, take, drop, refl, ap, ◌∙◌, arith}
use Rattle.sessions.specs.Seats.{TheSeat}
use Rattle.sessions.specs.declared.share.Share.{Share}
use Rattle.workers.specs.Shares.{IsServed, AreServed}

pub AreServed-push : {L : Type 0} → (budget : ℕ) (seats : List TheSeat) (shares : List (Share L)) (seat : TheSeat) (share : Share L) → AreServed budget seats shares → IsServed budget seat share
    → AreServed budget (seats ++ seat ∷ []) (shares ++ share ∷ [])
AreServed-push budget [] [] seat share all one = (one, tt)
AreServed-push budget [] (h ∷ hs) seat share all one = absurd all
AreServed-push budget (s ∷ ss) [] seat share all one = absurd all
AreServed-push budget (s ∷ ss) (h ∷ hs) seat share all one = (all.0, AreServed-push budget ss hs seat share all.1 one)

pub length-served : {L : Type 0} → (budget : ℕ) (seats : List TheSeat) (shares : List (Share L)) → AreServed budget seats shares → length shares ≡ length seats
length-served budget [] [] all = refl
length-served budget [] (h ∷ hs) all = absurd all
length-served budget (s ∷ ss) [] all = absurd all
length-served budget (s ∷ ss) (h ∷ hs) all = ap suc (length-served budget ss hs all.1)

-- what comes before the last one
pub take-push : {X : Type 0} → (k : ℕ) (xs : List X) (x : X) → k ≤ length xs → take k (xs ++ x ∷ []) ≡ take k xs
take-push zero xs x within = refl
take-push (suc k) [] x within = absurd (omega (arith, within))
take-push (suc k) (y ∷ xs) x within = ap (λ l. y ∷ l) (take-push k xs x (omega (arith, within)))

pub drop-push : {X : Type 0} → (k : ℕ) (xs : List X) (x : X) → k ≤ length xs → drop k (xs ++ x ∷ []) ≡ drop k xs ++ x ∷ []
drop-push zero xs x within = refl
drop-push (suc k) [] x within = absurd (omega (arith, within))
drop-push (suc k) (y ∷ xs) x within = drop-push k xs x (omega (arith, within))

pub take-front : {X : Type 0} → (xs ys : List X) → take (length xs) (xs ++ ys) ≡ xs
take-front [] ys = refl
take-front (x ∷ xs) ys = ap (λ l. x ∷ l) (take-front xs ys)

pub drop-front : {X : Type 0} → (xs ys : List X) → drop (length xs) (xs ++ ys) ≡ ys
drop-front [] ys = refl
drop-front (x ∷ xs) ys = drop-front xs ys

-- all but the last n, and those
pub take-others : {X : Type 0} → (xs ys all : List X) (n : ℕ) → all ≡ xs ++ ys → length ys ≡ n → take (length all - n) all ≡ xs
take-others xs ys all n is many =
    let k : length all - n ≡ length xs = omega (arith, ap length is, length-append xs ys, many) in
    ap (λ j. take j all) k ∙ ap (take (length xs)) is ∙ take-front xs ys

pub drop-others : {X : Type 0} → (xs ys all : List X) (n : ℕ) → all ≡ xs ++ ys → length ys ≡ n → drop (length all - n) all ≡ ys
drop-others xs ys all n is many =
    let k : length all - n ≡ length xs = omega (arith, ap length is, length-append xs ys, many) in
    ap (λ j. drop j all) k ∙ ap (drop (length xs)) is ∙ drop-front xs ys
