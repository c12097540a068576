-- The numbers of a page in a log
use Rattle.std.proofs.Common.{◌≡◌, ◌≢◌, ℕ, zero, suc, ◌+◌, ◌-◌, ◌^◌, ◌<◌, ◌≤◌, List, [], ◌∷◌, ◌++◌, length, take, map, min, max, Bool, true, false, refl, sym, ap, ◌∙◌, subst, arith}
use Rattle.std.specs.Prelude.{Option, Some, None, slice_index_or, slice_set, ◌&&◌, ◌==◌, nat_lt, nat_le, if◌then◌else◌}
use Rattle.std.proofs.lemmas.Bool.Decides.{nat_tests}
use Rattle.std.specs.List.{list_all}
use Rattle.std.proofs.lemmas.List.{set_past, length-drop, length-map}
use Rattle.world.specs.History.{Payload}
use Rattle.world.specs.Plan.{or_else}
use Rattle.world.specs.Calls.{up_to}
use Rattle.theorems.proofs.Tests.{both}
use Rattle.cluster.specs.Parcels.{reaches}
use Rattle.packets.specs.Packet.{is_done, is_positive, is_pair_above}
use Rattle.packets.specs.declared.page.Pair.{Pair}
use Rattle.packets.specs.declared.page.Flags.{Flags}
use Rattle.node.specs.Queue.{TheQueue, is_kept, recorded, dropped_first, dropped_to, forgotten_above}
use Rattle.packets.specs.Says.{first_number, last_behind, restored_end}
use Rattle.node.specs.Stands.{Each, KeepsOf}
use Rattle.node.proofs.Drops.{kept-dropped}
use Rattle.recovery.specs.Intake.{AscendFrom, noted_from, noted}
use Rattle.recovery.specs.RestorationStands.{IsKnown}
use Rattle.recovery.proofs.Lists.{either}
use Rattle.recovery.proofs.Preservation.{each-drop}

-- ---- what a page has

-- none of its SSNs is at or below where it begins
pub number-low : (s ssn : ℕ) (xs : List Pair) → AscendFrom s xs → ssn ≤ s → first_number xs ssn ≡ None
number-low s ssn [] a l = refl
number-low s ssn (x ∷ xs) a l =
    let first : s < x.ssn = a.0 in
    let apart : (x.ssn == ssn) ≡ false = grind (arith, nat_tests) in
    rw apart (number-low x.ssn ssn xs a.1 (omega (arith, first, l)))

abbrev pub ssns : List Pair → List ℕ
ssns xs = map (λ (x : Pair). x.ssn) xs

-- the last one is above where it begins
pub last-above : (s : ℕ) (xs : List Pair) → AscendFrom s xs → s ≤ last_behind s (ssns xs)
last-above s [] a = omega arith
last-above s (x ∷ xs) a = let first : s < x.ssn = a.0 in let rest : x.ssn ≤ last_behind x.ssn (ssns xs) = last-above x.ssn xs a.1 in omega (arith, first, rest)

-- and none is above that
pub number-high : (s ssn : ℕ) (xs : List Pair) → AscendFrom s xs → last_behind s (ssns xs) < ssn → first_number xs ssn ≡ None
number-high s ssn [] a l = refl
number-high s ssn (x ∷ xs) a l =
    let rest : x.ssn ≤ last_behind x.ssn (ssns xs) = last-above x.ssn xs a.1 in
    let apart : (x.ssn == ssn) ≡ false = (let f : x.ssn < ssn = omega (arith, rest, l) in grind (arith, nat_tests)) in
    rw apart (number-high x.ssn ssn xs a.1 l)

-- a page that begins lower
pub ascend-lower : (r s : ℕ) (xs : List Pair) → r ≤ s → AscendFrom s xs → AscendFrom r xs
ascend-lower r s [] l a = tt
ascend-lower r s (x ∷ xs) l a = (let first : s < x.ssn = a.0 in omega (arith, first, l), a.1)

-- ---- one more pair

-- the pairs before one lie below it
pub below-next : (s i : ℕ) (xs : List Pair) (d : Pair) → AscendFrom s xs → i < length xs → Each (λ (y : Pair). y.ssn < (slice_index_or xs i d).ssn) (take i xs) × (s < (slice_index_or xs i d).ssn)
below-next s i [] d a l = absurd (omega (arith, l))
below-next s zero (y ∷ xs) d a l = (tt, a.0)
below-next s (suc i) (y ∷ xs) d a l =
    let rest = below-next y.ssn i xs d a.1 (omega (arith, l)) in
    let first : s < y.ssn = a.0 in
    let next : y.ssn < (slice_index_or xs i d).ssn = rest.1 in
    ((next, rest.0), omega (arith, first, next))

-- what isn't the new one's is as it was
more-other : (xs : List Pair) (x : Pair) (ssn : ℕ) → x.ssn ≢ ssn → first_number (xs ++ x ∷ []) ssn ≡ first_number xs ssn
more-other [] x ssn other = let apart : (x.ssn == ssn) ≡ false = grind (arith, nat_tests) in rw apart refl
more-other (y ∷ xs) x ssn other = ap (λ z. if y.ssn == ssn then Some y.number else z) (more-other xs x ssn other)

-- and the new one's wasn't there
more-same : (xs : List Pair) (x : Pair) (ssn : ℕ) → Each (λ (y : Pair). y.ssn < x.ssn) xs → x.ssn ≡ ssn → first_number (xs ++ x ∷ []) ssn ≡ Some x.number
more-same [] x ssn below same = let e : (x.ssn == ssn) ≡ true = grind (arith, nat_tests) in rw e refl
more-same (y ∷ xs) x ssn below same =
    let first : y.ssn < x.ssn = below.0 in
    let apart : (y.ssn == ssn) ≡ false = grind (arith, nat_tests) in
    rw apart (more-same xs x ssn below.1 same)

noted-off : (xs : List Pair) (x : Pair) (s : ℕ) (ks : List (Option ℕ)) → x.ssn ≤ s → noted_from (xs ++ x ∷ []) s ks ≡ noted_from xs s ks
noted-off xs x s [] l = refl
noted-off xs x s (k ∷ ks) l =
    let head : first_number (xs ++ x ∷ []) (suc s) ≡ first_number xs (suc s) = more-other xs x (suc s) (λ e. absurd (omega (arith, e, l))) in
    rw (head, noted-off xs x (suc s) ks (omega (arith, l))) refl

noted-at : (xs : List Pair) (x : Pair) (s : ℕ) (ks : List (Option ℕ)) → Each (λ (y : Pair). y.ssn < x.ssn) xs → s < x.ssn → noted_from (xs ++ x ∷ []) s ks ≡ slice_set (noted_from xs s ks) (x.ssn - s - 1) (Some x.number)
noted-at xs x s [] below l = refl
noted-at xs x s (k ∷ ks) below l = split (x.ssn == suc s) refl (λ far. noted-at xs x (suc s) ks below far)
  where
    split : (b : Bool) → (x.ssn == suc s) ≡ b → (suc s < x.ssn → noted_from (xs ++ x ∷ []) (suc s) ks ≡ slice_set (noted_from xs (suc s) ks) (x.ssn - suc s - 1) (Some x.number))
        → noted_from (xs ++ x ∷ []) s (k ∷ ks) ≡ slice_set (noted_from xs s (k ∷ ks)) (x.ssn - s - 1) (Some x.number)
    split true e onward =
        let same : x.ssn ≡ suc s = grind (arith, nat_tests) in
        let at : x.ssn - s - 1 ≡ 0 = omega (arith, same) in
        let head : first_number (xs ++ x ∷ []) (suc s) ≡ Some x.number = more-same xs x (suc s) below same in
        rw (at, head, noted-off xs x (suc s) ks (omega (arith, same))) refl
    split false e onward =
        let other : x.ssn ≢ suc s = grind (arith, nat_tests) in
        let at : x.ssn - s - 1 ≡ suc (x.ssn - suc s - 1) = omega (arith, other, l) in
        let head : first_number (xs ++ x ∷ []) (suc s) ≡ first_number xs (suc s) = more-other xs x (suc s) other in
        rw (at, head, onward (omega (arith, other, l))) refl

noted-long : (xs : List Pair) (s : ℕ) (ks : List (Option ℕ)) → length (noted_from xs s ks) ≡ length ks
noted-long xs s [] = refl
noted-long xs s (k ∷ ks) = ap suc (noted-long xs (suc s) ks)

-- none
pub noted-none : (q : TheQueue) → noted [] q ≡ q
noted-none q = ap (λ ks. record q { numbers = ks }) (same q.dropped q.numbers)
  where
    same : (s : ℕ) (ks : List (Option ℕ)) → noted_from [] s ks ≡ ks
    same s [] = refl
    same s (k ∷ ks) = ap (λ l. k ∷ l) (same (suc s) ks)

-- one more, which the log has
pub noted-kept : (xs : List Pair) (x : Pair) (q : TheQueue) → Each (λ (y : Pair). y.ssn < x.ssn) xs → is_kept x.ssn (noted xs q) ≡ true → noted (xs ++ x ∷ []) q ≡ recorded x.ssn x.number (noted xs q)
noted-kept xs x q below kept =
    let above : q.dropped < x.ssn = (let e = (both (nat_lt q.dropped x.ssn) (nat_le x.ssn (q.dropped + length q.payloads)) kept).0 in grind (arith, nat_tests)) in
    ap (λ ks. record q { numbers = ks }) (noted-at xs x q.dropped q.numbers below above)

second-off : (a b : Bool) → a ≡ true → (a && b) ≡ false → b ≡ false
second-off true b e f = f
second-off false b e f = absurd (cc)

-- one more, which it doesn't have
pub noted-lost : (xs : List Pair) (x : Pair) (q : TheQueue) → length q.numbers ≡ length q.payloads → Each (λ (y : Pair). y.ssn < x.ssn) xs → is_kept x.ssn (noted xs q) ≡ false → noted (xs ++ x ∷ []) q ≡ noted xs q
noted-lost xs x q many below kept = ap (λ ks. record q { numbers = ks }) (split (nat_lt q.dropped x.ssn) refl)
  where
    split : (b : Bool) → nat_lt q.dropped x.ssn ≡ b → noted_from (xs ++ x ∷ []) q.dropped q.numbers ≡ noted_from xs q.dropped q.numbers
    split false e = noted-off xs x q.dropped q.numbers (let l : x.ssn ≤ q.dropped = grind (arith, nat_tests) in l)
    split true e =
        let above : q.dropped < x.ssn = grind (arith, nat_tests) in
        let past : nat_le x.ssn (q.dropped + length q.payloads) ≡ false = second-off (nat_lt q.dropped x.ssn) (nat_le x.ssn (q.dropped + length q.payloads)) e kept in
        let far : q.dropped + length q.payloads < x.ssn = grind (arith, nat_tests) in
        noted-at xs x q.dropped q.numbers below above ∙ set_past (noted_from xs q.dropped q.numbers) (x.ssn - q.dropped - 1) (Some x.number) (omega (arith, noted-long xs q.dropped q.numbers, many, far))

-- ---- RSNs that are known

-- none of these is known
pub each-none : (ks : List (Option ℕ)) → ((i : ℕ) → i < length ks → slice_index_or ks i None ≡ None) → Each IsKnown ks
each-none [] none = tt
each-none (k ∷ ks) none = (subst IsKnown (sym (none 0 (omega arith))) tt, each-none ks (λ i l. none (suc i) (omega (arith, l))))

each-noted : (xs : List Pair) → ((ssn : ℕ) → IsKnown (first_number xs ssn)) → (s : ℕ) (ks : List (Option ℕ)) → Each IsKnown ks → Each IsKnown (noted_from xs s ks)
each-noted xs all s [] e = tt
each-noted xs all s (k ∷ ks) e = (else-known (first_number xs (suc s)) k (all (suc s)) e.0, each-noted xs all (suc s) ks e.1)
  where
    else-known : (a b : Option ℕ) → IsKnown a → IsKnown b → IsKnown (or_else a b)
    else-known None b h g = g
    else-known (Some x) b h g = h

-- in a queue that drops what is covered for good, and gets numbers
pub known-told : (q : TheQueue) (covered : ℕ) (xs : List Pair) → ((ssn : ℕ) → IsKnown (first_number xs ssn)) → Each IsKnown q.numbers → Each IsKnown (noted xs (dropped_to covered q)).numbers
known-told q covered xs all e = let k = min (covered - q.dropped) (length q.payloads) in each-noted xs all (q.dropped + k) _ (each-drop IsKnown k q.numbers e)

-- the numbers of a page are
pub pairs-known : (s : ℕ) (xs : List Pair) → list_all (is_pair_above s) xs ≡ true → (ssn : ℕ) → IsKnown (first_number xs ssn)
pairs-known s [] a ssn = tt
pairs-known s (x ∷ xs) a ssn =
    let two = both (is_pair_above s x) (list_all (is_pair_above s) xs) a in
    let one = both (is_positive x.number) (is_positive x.ssn) (both (is_positive x.number && is_positive x.ssn) (nat_lt s x.ssn) two.0).0 in
    let some : 0 < x.number = (let e : nat_lt 0 x.number ≡ true = (both (nat_lt 0 x.number) (nat_lt x.number (2 ^ 63)) one.0).0 in grind (arith, nat_tests)) in
    either IsKnown (x.ssn == ssn) (Some x.number) (first_number xs ssn) some (pairs-known s xs two.1 ssn)

-- a queue that forgets all of them
forgets : (ks : List (Option ℕ)) → Each IsKnown ks → (i : ℕ) → slice_index_or (map (up_to 0) ks) i None ≡ None
forgets [] e i = refl
forgets (None ∷ ks) e zero = refl
forgets (Some m ∷ ks) e zero = let some : 0 < m = e.0 in let past : nat_le m 0 ≡ false = grind (arith, nat_tests) in rw past refl
forgets (k ∷ ks) e (suc i) = forgets ks e.1 i

pub known-forgotten : (q : TheQueue) → Each IsKnown q.numbers → Each IsKnown (forgotten_above 0 q).numbers
known-forgotten q e = each-none (map (up_to 0) q.numbers) (λ i l. forgets q.numbers e i)

pub keeps-forgotten : (q : TheQueue) (trims : ℕ) (sent : List Payload) (numbers : ℕ → Option ℕ) → Each IsKnown q.numbers → KeepsOf q trims sent numbers → KeepsOf (forgotten_above 0 q) trims sent (λ _. None)
keeps-forgotten q trims sent numbers e s =
    record { before = s.before; many = s.many; joined = s.joined; dropped_is = s.dropped_is; as_many = length-map q.numbers (up_to 0) ∙ s.as_many; numbers_are = λ i l. forgets q.numbers e i; beyond = λ i l. refl }

-- ---- a log that took in a page

-- the number at a place
noted-place : (xs : List Pair) (s i : ℕ) (ks : List (Option ℕ)) → i < length ks → slice_index_or (noted_from xs s ks) i None ≡ or_else (first_number xs (suc (s + i))) (slice_index_or ks i None)
noted-place xs s i [] l = absurd (omega (arith, l))
noted-place xs s zero (k ∷ ks) l = ap (λ z. or_else (first_number xs (suc z)) k) (let e : s ≡ s + 0 = omega arith in e)
noted-place xs s (suc i) (k ∷ ks) l = noted-place xs (suc s) i ks (omega (arith, l)) ∙ ap (λ z. or_else (first_number xs (suc z)) (slice_index_or ks i None)) (let e : suc s + i ≡ s + suc i = omega arith in e)

-- what a page doesn't reach is behind its last SSN
behind-end : (done : Bool) (last ssn : ℕ) → reaches (if done then None else Some last) ssn ≡ false → nat_le ssn last ≡ false
behind-end true last ssn e = absurd (cc)
behind-end false last ssn e = e

else-none : {X : Type 0} (o : Option X) → or_else o None ≡ o
else-none None = refl
else-none (Some x) = refl

module _ (q : TheQueue) (trims c m s : ℕ) (sent : List Payload) (numbers f : ℕ → Option ℕ) (flags : Flags) (pairs : List Pair) (old : KeepsOf q trims sent numbers) (most : m ≡ min c (q.dropped + length q.payloads))
    (page : AscendFrom s pairs) (fresh : (ssn : ℕ) → s < ssn → numbers ssn ≡ None) (says : (ssn : ℕ) → s < ssn → m < ssn → ssn ≤ q.dropped + length q.payloads → reaches (restored_end flags s pairs) ssn ≡ true → f ssn ≡ first_number pairs ssn)
    (none : (ssn : ℕ) → s < ssn → q.dropped + length q.payloads < ssn → reaches (restored_end flags s pairs) ssn ≡ true → f ssn ≡ None) where
  -- the numbers that the process then has
  abbrev entered : ℕ → Option ℕ
  entered ssn = if nat_lt s ssn && reaches (restored_end flags s pairs) ssn then f ssn else numbers ssn

  abbrev k : ℕ
  k = min (c - q.dropped) (length q.payloads)

  abbrev less : TheQueue
  less = dropped_first k q

  less-keeps : KeepsOf less (max trims m) sent numbers
  less-keeps =
      let own : KeepsOf q q.dropped sent numbers = subst (λ z. KeepsOf q z sent numbers) old.dropped_is old in
      kept-dropped q k (max trims m) sent numbers (omega arith) (omega (arith, most, old.dropped_is)) own

  total : less.dropped + length less.payloads ≡ q.dropped + length q.payloads
  total = omega (arith, length-drop k q.payloads)

  covers : m ≤ less.dropped
  covers = omega (arith, most)

  -- up to where the page goes there is what it says, and behind it nothing
  reached : (ssn : ℕ) → s < ssn → m < ssn → ssn ≤ q.dropped + length q.payloads → (b : Bool) → reaches (restored_end flags s pairs) ssn ≡ b → (if b then f ssn else numbers ssn) ≡ or_else (first_number pairs ssn) (numbers ssn)
  reached ssn above new under true e = says ssn above new under e ∙ sym (else-none (first_number pairs ssn)) ∙ ap (or_else (first_number pairs ssn)) (sym (fresh ssn above))
  reached ssn above new under false e =
      let past : nat_le ssn (last_behind s (ssns pairs)) ≡ false = behind-end (is_done flags) (last_behind s (ssns pairs)) ssn e in
      let far : last_behind s (ssns pairs) < ssn = grind (arith, nat_tests) in
      rw (number-high s ssn pairs page far) refl

  entered-is : (ssn : ℕ) → m < ssn → ssn ≤ q.dropped + length q.payloads → entered ssn ≡ or_else (first_number pairs ssn) (numbers ssn)
  entered-is ssn new under = split (nat_lt s ssn) refl
    where
      split : (b : Bool) → nat_lt s ssn ≡ b → (if b && reaches (restored_end flags s pairs) ssn then f ssn else numbers ssn) ≡ or_else (first_number pairs ssn) (numbers ssn)
      split true e = reached ssn (let l : s < ssn = grind (arith, nat_tests) in l) new under (reaches (restored_end flags s pairs) ssn) refl
      split false e = rw (number-low s ssn pairs page (let l : ssn ≤ s = grind (arith, nat_tests) in l)) refl

  -- behind what was sent nothing is entered
  entered-none : (ssn : ℕ) → q.dropped + length q.payloads < ssn → numbers ssn ≡ None → entered ssn ≡ None
  entered-none ssn far was = split (nat_lt s ssn) refl (reaches (restored_end flags s pairs) ssn) refl
    where
      split : (b : Bool) → nat_lt s ssn ≡ b → (t : Bool) → reaches (restored_end flags s pairs) ssn ≡ t → (if b && t then f ssn else numbers ssn) ≡ None
      split true e true r = none ssn (let l : s < ssn = grind (arith, nat_tests) in l) far r
      split true e false r = was
      split false e t r = was

  noted-keeps : KeepsOf (noted pairs less) (max trims m) sent entered
  noted-keeps =
      let l = less-keeps in
      record {
        before = l.before;
        many = l.many;
        joined = l.joined;
        dropped_is = l.dropped_is;
        as_many = noted-long pairs less.dropped less.numbers ∙ l.as_many;
        numbers_are = λ i inside. noted-place pairs less.dropped i less.numbers (omega (arith, inside, l.as_many)) ∙ ap (or_else (first_number pairs (suc (less.dropped + i)))) (l.numbers_are i inside)
            ∙ sym (entered-is (suc (less.dropped + i)) (omega (arith, covers)) (omega (arith, inside, total)));
        beyond = λ i far. entered-none i (omega (arith, far, total)) (l.beyond i far);
      }

-- a log that took in a page of its receiver has the numbers that the process has
pub keeps-page : (q : TheQueue) (trims c m s : ℕ) (sent : List Payload) (numbers f : ℕ → Option ℕ) (flags : Flags) (pairs : List Pair) → KeepsOf q trims sent numbers → m ≡ min c (q.dropped + length q.payloads) → AscendFrom s pairs
    → ((ssn : ℕ) → s < ssn → numbers ssn ≡ None) → ((ssn : ℕ) → s < ssn → m < ssn → ssn ≤ q.dropped + length q.payloads → reaches (restored_end flags s pairs) ssn ≡ true → f ssn ≡ first_number pairs ssn)
    → ((ssn : ℕ) → s < ssn → q.dropped + length q.payloads < ssn → reaches (restored_end flags s pairs) ssn ≡ true → f ssn ≡ None)
    → KeepsOf (noted pairs (dropped_to c q)) (max trims m) sent (λ ssn. if nat_lt s ssn && reaches (restored_end flags s pairs) ssn then f ssn else numbers ssn)
keeps-page q trims c m s sent numbers f flags pairs old most page fresh says none = noted-keeps q trims c m s sent numbers f flags pairs old most page fresh says none

-- one that drops what is covered alone
pub keeps-covered : (q : TheQueue) (trims c m : ℕ) (sent : List Payload) (numbers : ℕ → Option ℕ) → KeepsOf q trims sent numbers → m ≡ min c (q.dropped + length q.payloads) → KeepsOf (noted [] (dropped_to c q)) (max trims m) sent numbers
keeps-covered q trims c m sent numbers old most =
    let k = min (c - q.dropped) (length q.payloads) in
    let own : KeepsOf q q.dropped sent numbers = subst (λ z. KeepsOf q z sent numbers) old.dropped_is old in
    rw (noted-none (dropped_first k q)) (kept-dropped q k (max trims m) sent numbers (omega arith) (omega (arith, most, old.dropped_is)) own)
