-- Numbers in their ranges, and lists of them
use Rattle.std.proofs.Common.{◌≡◌, ◌∙◌, ◌≤◌, ◌<◌, ◌+◌, ◌^◌, ℕ, zero, suc, List, [], ◌∷◌, Bool, true, false, refl, ap, arith}
use Rattle.std.specs.Prelude.{not, ◌&&◌, ◌==◌, nat_lt, replicate, slice_index_or, slice_set}
use Rattle.std.specs.List.{list_all}
use Rattle.std.proofs.lemmas.Bool.Decides.{nat_tests}
use Rattle.theorems.proofs.Tests.{both, different}
use Rattle.rsn.specs.declared.receipts.TheConstants.{LIMIT}
use Rattle.packets.specs.Packet.{flags_of, is_lost, is_number, is_positive, is_entry_above, is_pair_above, ascends, entry_before, pair_before, goes_on, entries_in_range, pairs_in_range, in_range}
use Rattle.packets.specs.declared.packet.Body.TheVariants as body
use Rattle.packets.specs.declared.page.LoggedMessage.{LoggedMessage}
use Rattle.packets.specs.declared.page.Pair.{Pair}
use Rattle.packets.specs.declared.page.Flags.{Flags}
use Rattle.node.specs.declared.node.TheConstants.{MOST_RECEIVED}
use Rattle.recovery.specs.Collected.{last_number}
use Rattle.recovery.specs.Restoration as restoring

-- ---- tests

pub all-of : (a b : Bool) → a ≡ true → b ≡ true → (a && b) ≡ true
all-of a b e f = ap (λ x. x && b) e ∙ f

pub is-below : (a b : ℕ) → a < b → nat_lt a b ≡ true
is-below a b l = grind (arith, nat_tests)

pub not-false : (b : Bool) → b ≡ false → not b ≡ true
not-false b e = ap not e

-- ---- numbers in their ranges

positive-number : (n : ℕ) → is_positive n ≡ true → is_number n ≡ true
positive-number n e = (both (nat_lt 0 n) (nat_lt n (2 ^ 63)) e).1

pub young-number : (n k : ℕ) → n ≤ MOST_RECEIVED → k ≤ LIMIT → is_number (n + k) ≡ true
young-number n k a b = is-below (n + k) (2 ^ 63) (omega (arith, a, b))

pub base-number : (n : ℕ) → n ≤ MOST_RECEIVED → is_number n ≡ true
base-number n a = is-below n (2 ^ 63) (omega (arith, a))

-- the last of a page's numbers, which are all positive
pub last-number : (above k : ℕ) (page : List LoggedMessage) → is_number k ≡ true → list_all (is_entry_above above) page ≡ true → is_number (last_number k page) ≡ true
last-number above k [] e all = e
last-number above k (x ∷ page) e all =
    let h = both (is_entry_above above x) (list_all (is_entry_above above) page) all in
    let g = both (is_positive x.number && is_positive x.ssn) (nat_lt above x.number) h.0 in
    last-number above x.number page (positive-number x.number (both (is_positive x.number) (is_positive x.ssn) g.0).0) h.1

pub last-ssn : (above k : ℕ) (pairs : List Pair) → is_number k ≡ true → list_all (is_pair_above above) pairs ≡ true → is_number (restoring.last_ssn k pairs) ≡ true
last-ssn above k [] e all = e
last-ssn above k (x ∷ pairs) e all =
    let h = both (is_pair_above above x) (list_all (is_pair_above above) pairs) all in
    let g = both (is_positive x.number && is_positive x.ssn) (nat_lt above x.ssn) h.0 in
    last-ssn above x.ssn pairs (positive-number x.ssn (both (is_positive x.number) (is_positive x.ssn) g.0).1) h.1

entries-above : (k : ℕ) (flags : Flags) (xs : List LoggedMessage) → entries_in_range k flags xs ≡ true → list_all (is_entry_above k) xs ≡ true
unfolding entries_in_range
entries-above k flags xs e =
    let a = both (nat_lt flags.bits 8 && goes_on flags xs && list_all (is_entry_above k) xs) (ascends entry_before xs) e in
    (both (nat_lt flags.bits 8 && goes_on flags xs) (list_all (is_entry_above k) xs) a.0).1

pairs-above : (s : ℕ) (flags : Flags) (xs : List Pair) → pairs_in_range s flags xs ≡ true → list_all (is_pair_above s) xs ≡ true
unfolding pairs_in_range
pairs-above s flags xs e =
    let a = both (nat_lt flags.bits 8 && not (is_lost flags) && goes_on flags xs && list_all (is_pair_above s) xs) (ascends pair_before xs) e in
    (both (nat_lt flags.bits 8 && not (is_lost flags) && goes_on flags xs) (list_all (is_pair_above s) xs) a.0).1

pub told-in-range : (i j k : ℕ) (flags : Flags) (xs : List LoggedMessage) → in_range (body.Told i j k flags xs) ≡ true → (is_number k ≡ true) × (list_all (is_entry_above k) xs ≡ true)
told-in-range i j k flags xs e =
    let a = both (is_positive i && is_positive j && is_number k) (entries_in_range k flags xs) e in
    ((both (is_positive i && is_positive j) (is_number k) a.0).1, entries-above k flags xs a.1)

pub restored-in-range : (i j c s : ℕ) (flags : Flags) (xs : List Pair) → in_range (body.Restored i j c s flags xs) ≡ true → (is_number s ≡ true) × (list_all (is_pair_above s) xs ≡ true)
restored-in-range i j c s flags xs e =
    let a = both (is_positive i && is_positive j && is_number c && is_number s) (pairs_in_range s flags xs) e in
    ((both (is_positive i && is_positive j && is_number c) (is_number s) a.0).1, pairs-above s flags xs a.1)

pub no-page : (k : ℕ) → entries_in_range k (flags_of true true false) [] ≡ true
unfolding entries_in_range
no-page k = refl

-- ---- lists

pub set-any : {X : Type 0} (P : X → Type 0) (xs : List X) (i : ℕ) (x d : X) → ((q : ℕ) → P (slice_index_or xs q d)) → P x → (q : ℕ) → P (slice_index_or (slice_set xs i x) q d)
set-any P [] i x d h p q = h q
set-any P (y ∷ xs) zero x d h p zero = p
set-any P (y ∷ xs) zero x d h p (suc q) = h (suc q)
set-any P (y ∷ xs) (suc i) x d h p zero = h zero
set-any P (y ∷ xs) (suc i) x d h p (suc q) = set-any P xs i x d (λ r. h (suc r)) p q

pub repeated : {X : Type 0} (P : X → Type 0) (k : ℕ) (x d : X) → P x → P d → (q : ℕ) → P (slice_index_or (replicate k x) q d)
repeated P zero x d p e q = e
repeated P (suc k) x d p e zero = p
repeated P (suc k) x d p e (suc q) = repeated P k x d p e q

-- of flags, of which one is set
pub here : (xs : List Bool) (i : ℕ) → slice_index_or (slice_set xs i true) i true ≡ true
here [] i = refl
here (b ∷ xs) zero = refl
here (b ∷ xs) (suc i) = here xs i

pub stays : (xs : List Bool) (i j : ℕ) → slice_index_or xs j true ≡ true → slice_index_or (slice_set xs i true) j true ≡ true
stays [] i j e = e
stays (b ∷ xs) zero zero e = refl
stays (b ∷ xs) zero (suc j) e = e
stays (b ∷ xs) (suc i) zero e = e
stays (b ∷ xs) (suc i) (suc j) e = stays xs i j e

pub elsewhere : (xs : List Bool) (i j : ℕ) (x : Bool) → (i == j) ≡ false → slice_index_or xs j true ≡ true → slice_index_or (slice_set xs i x) j true ≡ true
elsewhere [] i j x n e = e
elsewhere (b ∷ xs) zero zero x n e = absurd (different 0 0 n refl)
elsewhere (b ∷ xs) zero (suc j) x n e = e
elsewhere (b ∷ xs) (suc i) zero x n e = e
elsewhere (b ∷ xs) (suc i) (suc j) x n e = elsewhere xs i j x (grind (arith, nat_tests)) e
