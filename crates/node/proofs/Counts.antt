-- What was received, counted by sender
use Rattle.std.proofs.Common.{◌≡◌, ◌≢◌, ℕ, zero, suc, ◌+◌, ◌<◌, ◌≤◌, List, [], ◌∷◌, ◌++◌, length, take, Bool, true, false, refl, sym, ap, ◌∙◌, arith}
use Rattle.std.specs.Prelude.{sum, ◌==◌, if◌then◌else◌, slice_index_or, replicate}
use Rattle.std.specs.List.{fold, AllByRecursion}
use Rattle.std.proofs.lemmas.Bool.Decides.{nat_tests}
use Rattle.rsn.specs.Receipts.{Received, numbers_from, numbers_of}
use Rattle.node.specs.Node.{IsPeer, FromPeers}
use Rattle.node.specs.Checkpoints.{counts_from}
use Rattle.node.specs.Kept.{with_own, without_own}
use Rattle.node.proofs.Freezes.{counts-at}

-- ---- sums

sum-from : (a : ℕ) (xs : List ℕ) → fold ◌+◌ a xs ≡ a + sum xs
sum-from a [] = omega arith
sum-from a (x ∷ xs) =
    let first : sum (x ∷ xs) ≡ x + sum xs = sum-from (0 + x) xs ∙ (let e : 0 + x + sum xs ≡ x + sum xs = omega arith in e) in
    sum-from (a + x) xs ∙ (let e : a + x + sum xs ≡ a + (x + sum xs) = omega arith in e) ∙ ap (λ z. a + z) (sym first)

pub sum-cons : (x : ℕ) (xs : List ℕ) → sum (x ∷ xs) ≡ x + sum xs
sum-cons x xs = sum-from (0 + x) xs ∙ (let e : 0 + x + sum xs ≡ x + sum xs = omega arith in e)

pub sum-zeros : (n : ℕ) → sum (replicate n 0) ≡ 0
sum-zeros zero = refl
sum-zeros (suc n) = omega (arith, sum-cons 0 (replicate n 0), sum-zeros n)

-- without one of them it is so much less
pub sum-without : (me : ℕ) (xs : List ℕ) → me < length xs → sum (without_own me xs) + slice_index_or xs me 0 ≡ sum xs
sum-without me [] l = absurd (omega (arith, l))
sum-without zero (x ∷ xs) l = omega (arith, sum-cons x xs)
sum-without (suc me) (x ∷ xs) l =
    let rest : sum (without_own me xs) + slice_index_or xs me 0 ≡ sum xs = sum-without me xs (omega (arith, l)) in
    omega (arith, sum-cons x xs, sum-cons x (without_own me xs), rest)

-- none is more than all
pub all-low : (most : ℕ) (xs : List ℕ) → sum xs < most → AllByRecursion (λ x. x < most) xs
all-low most [] l = tt
all-low most (x ∷ xs) l = (omega (arith, sum-cons x xs, l), all-low most xs (omega (arith, sum-cons x xs, l)))

-- ---- a sender's numbers

-- there are as many, wherever they begin
long-from : (s k : ℕ) (xs : List ℕ) → length (numbers_from s (suc k) xs) ≡ length (numbers_from s k xs)
long-from s k [] = refl
long-from s k (x ∷ xs) = by_sender (x == s) (long-from s (suc k) xs)
  where
    by_sender : (b : Bool) → length (numbers_from s (suc (suc k)) xs) ≡ length (numbers_from s (suc k) xs)
        → length (if b then suc (suc k) ∷ numbers_from s (suc (suc k)) xs else numbers_from s (suc (suc k)) xs) ≡ length (if b then suc k ∷ numbers_from s (suc k) xs else numbers_from s (suc k) xs)
    by_sender true e = ap suc e
    by_sender false e = e

one-more : (s x : ℕ) (xs : List ℕ) → (x == s) ≡ true → length (numbers_from s 0 (x ∷ xs)) ≡ suc (length (numbers_from s 0 xs))
one-more s x xs e = rw e (ap suc (long-from s 0 xs))

no-more : (s x : ℕ) (xs : List ℕ) → (x == s) ≡ false → length (numbers_from s 0 (x ∷ xs)) ≡ length (numbers_from s 0 xs)
no-more s x xs e = rw e (long-from s 0 xs)

-- a process has none of its own
pub none-own : (me count : ℕ) (xs : List ℕ) → AllByRecursion (IsPeer me count) xs → length (numbers_from me 0 xs) ≡ 0
none-own me count [] h = refl
none-own me count (x ∷ xs) h =
    let apart : (x == me) ≡ false = (let f : x ≢ me = h.0.1 in grind (arith, nat_tests)) in
    no-more me x xs apart ∙ none-own me count xs h.1

-- how many of the n senders from a on there are
abbrev rows : ℕ → ℕ → List ℕ → ℕ
rows a zero xs = 0
rows a (suc n) xs = length (numbers_from a 0 xs) + rows (suc a) n xs

rows-none : (a n : ℕ) → rows a n [] ≡ 0
rows-none a zero = refl
rows-none a (suc n) = omega (arith, rows-none (suc a) n)

rows-out : (a n x : ℕ) (xs : List ℕ) → x < a → rows a n (x ∷ xs) ≡ rows a n xs
rows-out a zero x xs l = refl
rows-out a (suc n) x xs l =
    let apart : (x == a) ≡ false = grind (arith, nat_tests) in
    let one = no-more a x xs apart in
    let rest = rows-out (suc a) n x xs (omega (arith, l)) in
    omega (arith, one, rest)

rows-in : (a n x : ℕ) (xs : List ℕ) → a ≤ x → x < a + n → rows a n (x ∷ xs) ≡ suc (rows a n xs)
rows-in a zero x xs low high = absurd (omega (arith, low, high))
rows-in a (suc n) x xs low high = split (x == a) refl (λ above. rows-in (suc a) n x xs above (omega (arith, high)))
  where
    split : (b : Bool) → (x == a) ≡ b → (suc a ≤ x → rows (suc a) n (x ∷ xs) ≡ suc (rows (suc a) n xs)) → rows a (suc n) (x ∷ xs) ≡ suc (rows a (suc n) xs)
    split true e more =
        let one = one-more a x xs e in
        let rest = rows-out (suc a) n x xs (let f : x ≡ a = grind (arith, nat_tests) in omega (arith, f)) in
        omega (arith, one, rest)
    split false e more =
        let one = no-more a x xs e in
        let rest = more (let f : x ≢ a = grind (arith, nat_tests) in omega (arith, low, f)) in
        omega (arith, one, rest)

-- all of them, where each is one of these
rows-all : (me count : ℕ) (xs : List ℕ) → AllByRecursion (IsPeer me count) xs → rows 0 (suc count) xs ≡ length xs
rows-all me count [] h = rows-none 0 (suc count)
rows-all me count (x ∷ xs) h =
    let one = rows-in 0 (suc count) x xs (omega arith) (omega (arith, h.0.0)) in
    let rest = rows-all me count xs h.1 in
    omega (arith, one, rest)

sum-rows : (a : ℕ) (r : Received) (ks : List ℕ) → sum (counts_from a r ks) ≡ sum ks + rows a (length ks) r.senders
sum-rows a r [] = refl
sum-rows a r (k ∷ ks) = omega (arith, sum-cons (k + length (numbers_of a r)) (counts_from (suc a) r ks), sum-cons k ks, sum-rows (suc a) r ks)

-- what was received, with what was received behind, is of its peers
pub counted-total : (me count base : ℕ) (covered : List ℕ) (r : Received) → length covered ≡ suc count → FromPeers me count base covered r.senders → sum (counts_from 0 r covered) ≡ base + length r.senders
counted-total me count base covered r wide p =
    let all = rows-all me count r.senders p.behind in
    let of : rows 0 (length covered) r.senders ≡ length r.senders = ap (λ n. rows 0 n r.senders) wide ∙ all in
    omega (arith, sum-rows 0 r covered, p.total, of)

pub counted-own : (me count base : ℕ) (covered : List ℕ) (r : Received) → length covered ≡ suc count → me ≤ count → FromPeers me count base covered r.senders → slice_index_or (counts_from 0 r covered) me 0 ≡ 0
counted-own me count base covered r wide low p =
    omega (arith, counts-at 0 me r covered (omega (arith, wide, low)), p.none_own, ap (λ z. length (numbers_of z r)) (let e : 0 + me ≡ me = omega arith in e), none-own me count r.senders p.behind)

pub counted-all : (me count base : ℕ) (covered : List ℕ) (r : Received) → length covered ≡ suc count → me ≤ count → FromPeers me count base covered r.senders → FromPeers me count (base + length r.senders) (counts_from 0 r covered) []
counted-all me count base covered r wide low p =
    record {
      total = counted-total me count base covered r wide p;
      none_own = counted-own me count base covered r wide low p;
      behind = tt;
    }

-- one message more of a peer
pub all-more : {X : Type 0} (P : X → Type 0) (xs : List X) (x : X) → AllByRecursion P xs → P x → AllByRecursion P (xs ++ x ∷ [])
all-more P [] x h o = (o, tt)
all-more P (y ∷ xs) x h o = (h.0, all-more P xs x h.1 o)

pub from-more : (me count base x : ℕ) (covered xs : List ℕ) → FromPeers me count base covered xs → IsPeer me count x → FromPeers me count base covered (xs ++ x ∷ [])
from-more me count base x covered xs p o = record { total = p.total; none_own = p.none_own; behind = all-more (IsPeer me count) xs x p.behind o }

abbrev zeros : ℕ → List ℕ
zeros n = replicate n 0

zeros-at : (n q : ℕ) → slice_index_or (zeros n) q 0 ≡ 0
zeros-at zero q = refl
zeros-at (suc n) zero = refl
zeros-at (suc n) (suc q) = zeros-at n q

-- ---- by peer

pub without-long : {X : Type 0} (me : ℕ) (xs : List X) → me < length xs → suc (length (without_own me xs)) ≡ length xs
without-long me [] l = absurd (omega (arith, l))
without-long zero (x ∷ xs) l = refl
without-long (suc me) (x ∷ xs) l = ap suc (without-long me xs (omega (arith, l)))

-- its own place is filled in again
pub own-again : {X : Type 0} (me : ℕ) (xs : List X) (d : X) → me < length xs → with_own (slice_index_or xs me d) me (without_own me xs) ≡ xs
own-again me [] d l = absurd (omega (arith, l))
own-again zero (x ∷ xs) d l = refl
own-again (suc me) (x ∷ xs) d l = ap (λ ys. x ∷ ys) (own-again me xs d (omega (arith, l)))

-- the others are as they were
pub others-again : {X : Type 0} (me q : ℕ) (xs : List X) (x d : X) → me < length xs → q ≢ me → slice_index_or (with_own x me (without_own me xs)) q d ≡ slice_index_or xs q d
others-again me q [] x d l apart = absurd (omega (arith, l))
others-again zero zero (y ∷ xs) x d l apart = absurd (apart refl)
others-again zero (suc q) (y ∷ xs) x d l apart = refl
others-again (suc me) zero (y ∷ xs) x d l apart = refl
others-again (suc me) (suc q) (y ∷ xs) x d l apart = others-again me q xs x d (omega (arith, l)) (λ e. apart (ap suc e))

without-none : {X : Type 0} (me : ℕ) → without_own {X = X} me [] ≡ []
without-none zero = refl
without-none (suc me) = refl

-- one place more of the first ones
pub without-more : {X : Type 0} (me q : ℕ) (xs : List X) (d : X) → q < length xs → q ≢ me → without_own me (take (suc q) xs) ≡ without_own me (take q xs) ++ slice_index_or xs q d ∷ []
without-more me q [] d l apart = absurd (omega (arith, l))
without-more zero zero (x ∷ xs) d l apart = absurd (apart refl)
without-more zero (suc q) (x ∷ xs) d l apart = taken-more q xs d (omega (arith, l))
  where
    taken-more : {Y : Type 0} (k : ℕ) (ys : List Y) (e : Y) → k < length ys → take (suc k) ys ≡ take k ys ++ slice_index_or ys k e ∷ []
    taken-more k [] e m = absurd (omega (arith, m))
    taken-more zero (y ∷ ys) e m = refl
    taken-more (suc k) (y ∷ ys) e m = ap (λ zs. y ∷ zs) (taken-more k ys e (omega (arith, m)))
without-more (suc me) zero (x ∷ xs) d l apart = ap (λ ys. x ∷ ys) (without-none me)
without-more (suc me) (suc q) (x ∷ xs) d l apart = ap (λ ys. x ∷ ys) (without-more me q xs d (omega (arith, l)) (λ e. apart (ap suc e)))

pub without-same : {X : Type 0} (me : ℕ) (xs : List X) → without_own me (take (suc me) xs) ≡ without_own me (take me xs)
without-same zero [] = refl
without-same zero (x ∷ xs) = refl
without-same (suc me) [] = refl
without-same (suc me) (x ∷ xs) = ap (λ ys. x ∷ ys) (without-same me xs)
