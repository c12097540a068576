-- What a page in its ranges has
use Rattle.std.proofs.Common.{◌≡◌, ℕ, ◌<◌, ◌^◌, List, [], ◌∷◌, length, true, ap, subst, arith}
use Rattle.std.specs.Prelude.{Some, slice_get, ◌-◌, suc, ◌&&◌, not, nat_lt}
use Rattle.std.specs.List.{list_all, zip, AllByRecursion}
use Rattle.std.proofs.lemmas.Bool.Decides.{nat_tests}
use Rattle.theorems.proofs.Tests.{both}
use Rattle.packets.specs.Packet.{is_positive, is_pair_above, pair_before, ascends, goes_on, pairs_in_range, is_lost, in_range}
use Rattle.packets.specs.declared.page.Pair.{Pair}
use Rattle.packets.specs.declared.page.Flags.{Flags}
use Rattle.packets.specs.declared.packet.Body.TheVariants.{Restored}
use Rattle.packets.specs.Says.{first_number}
use Rattle.recovery.specs.Intake.{AscendFrom, IsSmallPair}
use Rattle.recovery.specs.Restoration.{last_ssn}
use Rattle.recovery.specs.RestorationStands.{IsKnown}
use Rattle.recovery.proofs.Notes.{pairs-known}

all-ascend : (s : ℕ) (xs : List Pair) → list_all (is_pair_above s) xs ≡ true → ascends pair_before xs ≡ true → AscendFrom s xs
all-ascend s [] a b = tt
all-ascend s (x ∷ xs) a b = (first s x (both (is_pair_above s x) (list_all (is_pair_above s) xs) a).0, on x xs b)
  where
    first : (s : ℕ) (x : Pair) → is_pair_above s x ≡ true → s < x.ssn
    first s x e = let f : nat_lt s x.ssn ≡ true = (both (is_positive x.number && is_positive x.ssn) (nat_lt s x.ssn) e).1 in grind (arith, nat_tests)

    on : (x : Pair) (xs : List Pair) → ascends pair_before (x ∷ xs) ≡ true → AscendFrom x.ssn xs
    on x [] b = tt
    on x (y ∷ ys) b =
        let two = both (pair_before x y) (list_all (λ p. pair_before p.0 p.1) (zip (y ∷ ys) ys)) b in
        let next : x.ssn < y.ssn = (let f : nat_lt x.ssn y.ssn ≡ true = two.0 in grind (arith, nat_tests)) in
        (next, on y ys two.1)

-- its pairs lie above where it begins, and ascend
above-all : (s : ℕ) (flags : Flags) (page : List Pair) → pairs_in_range s flags page ≡ true → (list_all (is_pair_above s) page ≡ true) × (ascends pair_before page ≡ true)
unfolding pairs_in_range
above-all s flags page e =
    let a = both (nat_lt flags.bits 8 && not (is_lost flags) && goes_on flags page && list_all (is_pair_above s) page) (ascends pair_before page) e in
    ((both (nat_lt flags.bits 8 && not (is_lost flags) && goes_on flags page) (list_all (is_pair_above s) page) a.0).1, a.1)

pub page-in-range : (i j c s : ℕ) (flags : Flags) (page : List Pair) → in_range (Restored i j c s flags page) ≡ true → AscendFrom s page
page-in-range i j c s flags page e = let t = above-all s flags page (both _ (pairs_in_range s flags page) e).1 in all-ascend s page t.0 t.1

pub page-known : (i j c s : ℕ) (flags : Flags) (page : List Pair) → in_range (Restored i j c s flags page) ≡ true → (ssn : ℕ) → IsKnown (first_number page ssn)
page-known i j c s flags page e = pairs-known s page (above-all s flags page (both _ (pairs_in_range s flags page) e).1).0

all-small : (s : ℕ) (xs : List Pair) → list_all (is_pair_above s) xs ≡ true → AllByRecursion IsSmallPair xs
all-small s [] a = tt
all-small s (x ∷ xs) a =
    let two = both (is_pair_above s x) (list_all (is_pair_above s) xs) a in
    let one = both (is_positive x.number) (is_positive x.ssn) (both (is_positive x.number && is_positive x.ssn) (nat_lt s x.ssn) two.0).0 in
    let small : nat_lt x.number (2 ^ 63) ≡ true = (both (nat_lt 0 x.number) (nat_lt x.number (2 ^ 63)) one.0).1 in
    (grind (arith, nat_tests), all-small s xs two.1)

pub page-small : (i j c s : ℕ) (flags : Flags) (page : List Pair) → in_range (Restored i j c s flags page) ≡ true → AllByRecursion IsSmallPair page
page-small i j c s flags page e = all-small s page (above-all s flags page (both _ (pairs_in_range s flags page) e).1).0

-- the SSN of the last pair
pub last-at : (s : ℕ) (xs : List Pair) (x : Pair) → slice_get xs (length xs - 1) ≡ Some x → last_ssn s xs ≡ x.ssn
last-at s [] x h = absurd (cc)
last-at s (y ∷ []) x h = ap (λ (z : Pair). z.ssn) (let f : y ≡ x = (cc) in f)
last-at s (y ∷ (z ∷ zs)) x h =
    let P : ℕ → Type 0 = λ j. slice_get (y ∷ (z ∷ zs)) j ≡ Some x in
    let at : length (y ∷ (z ∷ zs)) - 1 ≡ suc (length (z ∷ zs) - 1) = omega arith in
    last-at y.ssn (z ∷ zs) x (subst P at h)
