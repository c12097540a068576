-- What is kept of a process that comes back
use Rattle.std.proofs.Common.{◌≡◌, ℕ, zero, suc, ◌+◌, ◌*◌, ◌^◌, ◌<◌, ◌≤◌, List, [], ◌∷◌, length, map, take, drop, Bool, true, refl, sym, ap, ◌∙◌, subst, arith}
use Rattle.std.specs.Prelude.{sum, Some, slice_get, slice_index_or, ◌&&◌, ◌==◌, nat_lt, nat_le}
use Rattle.std.specs.List.{fold, list_all}
use Rattle.std.proofs.lemmas.Bool.Decides.{nat_tests}
use Rattle.std.proofs.lemmas.List.{length-append, length-take, length-drop}
use Rattle.theorems.proofs.Tests.{both}
use Rattle.packets.specs.declared.kept.Kept.{Kept}
use Rattle.packets.specs.declared.kept.KeptLog.{KeptLog}
use Rattle.packets.specs.Packet.{is_number}
use Rattle.packets.specs.Kept.{is_log, kept_in_range}
use Rattle.node.specs.declared.node.TheConstants.{MOST_GIVEN, MOST_RECEIVED}
use Rattle.node.specs.Node.{FromPeers}
use Rattle.node.specs.Queue.{TheQueue, no_queue}
use Rattle.node.specs.Stands.{Each}
use Rattle.recovery.specs.Own.{IsShort, with_own, is_short, is_process, comes_back, queue_of}
use Rattle.recovery.proofs.Lists.{each-append}

-- what can come back
pub record CanCome (k : Kept) : Type 0 where
  pub some : 0 < k.me
  pub own : k.me ≤ k.count
  pub few : k.count ≤ 15
  pub counts_are : length k.counts ≡ k.count
  pub logs_are : length k.logs ≡ k.count
  pub sum_is : sum k.counts ≡ k.length
  pub logs_from : list_all is_log k.logs ≡ true
  pub young : k.length ≤ MOST_RECEIVED
  pub short : list_all (is_short (MOST_GIVEN * k.length + 2)) k.logs ≡ true

pub can-come : (k : Kept) → comes_back k ≡ true → CanCome k
can-come k e =
    let a = both (is_process k && kept_in_range k && nat_le k.length MOST_RECEIVED) (list_all (is_short (MOST_GIVEN * k.length + 2)) k.logs) e in
    let b = both (is_process k && kept_in_range k) (nat_le k.length MOST_RECEIVED) a.0 in
    let d = both (is_process k) (kept_in_range k) b.0 in
    let r = both (is_number k.length && (sum k.counts == k.length)) (list_all is_log k.logs) d.1 in
    let t = both (is_number k.length) (sum k.counts == k.length) r.0 in
    let p = both (nat_lt 0 k.me && nat_le k.me k.count && nat_le k.count 15 && (length k.counts == k.count)) (length k.logs == k.count) d.0 in
    let q = both (nat_lt 0 k.me && nat_le k.me k.count && nat_le k.count 15) (length k.counts == k.count) p.0 in
    let u = both (nat_lt 0 k.me && nat_le k.me k.count) (nat_le k.count 15) q.0 in
    let v = both (nat_lt 0 k.me) (nat_le k.me k.count) u.0 in
    record {
      some = (let z : nat_lt 0 k.me ≡ true = v.0 in grind (arith, nat_tests));
      own = (let z : nat_le k.me k.count ≡ true = v.1 in grind (arith, nat_tests));
      few = (let z : nat_le k.count 15 ≡ true = u.1 in grind (arith, nat_tests));
      counts_are = (let z : (length k.counts == k.count) ≡ true = q.1 in grind (arith, nat_tests));
      logs_are = (let z : (length k.logs == k.count) ≡ true = p.1 in grind (arith, nat_tests));
      sum_is = (let z : (sum k.counts == k.length) ≡ true = t.1 in grind (arith, nat_tests));
      logs_from = r.1;
      young = (let z : nat_le k.length MOST_RECEIVED ≡ true = b.1 in grind (arith, nat_tests));
      short = a.1;
    }

-- lists by place
pub all-at : {X : Type 0} (p : X → Bool) (xs : List X) (i : ℕ) (x : X) → list_all p xs ≡ true → slice_get xs i ≡ Some x → p x ≡ true
all-at p [] i x e g = absurd (cc)
all-at p (y ∷ xs) zero x e g = let f : y ≡ x = (cc) in ap p (sym f) ∙ (both (p y) (list_all p xs) e).0
all-at p (y ∷ xs) (suc i) x e g = all-at p xs i x (both (p y) (list_all p xs) e).1 g

pub get-taken : {X : Type 0} (n : ℕ) (xs : List X) (i : ℕ) (x : X) → slice_get (take n xs) i ≡ Some x → slice_get xs i ≡ Some x
get-taken zero xs i x e = absurd (cc)
get-taken (suc n) [] i x e = absurd (cc)
get-taken (suc n) (y ∷ xs) zero x e = e
get-taken (suc n) (y ∷ xs) (suc i) x e = get-taken n xs i x e

pub get-dropped : {X : Type 0} (n : ℕ) (xs : List X) (i : ℕ) (x : X) → slice_get (drop n xs) i ≡ Some x → slice_get xs (n + i) ≡ Some x
get-dropped {X} zero xs i x e =
    let P : ℕ → Type 0 = λ j. slice_get xs j ≡ Some x in
    let j : i ≡ 0 + i = omega arith in
    subst P j e
get-dropped (suc n) [] i x e = absurd (cc)
get-dropped {X} (suc n) (y ∷ xs) i x e =
    let P : ℕ → Type 0 = λ j. slice_get (y ∷ xs) j ≡ Some x in
    let j : suc (n + i) ≡ suc n + i = omega arith in
    subst P j (get-dropped n xs i x e)

-- a log that is kept has its SSNs in their range
pub log-room : (k : Kept) (i : ℕ) (l : KeptLog) → comes_back k ≡ true → slice_get k.logs i ≡ Some l → (1 ≤ l.first) × (l.first + length l.payloads ≤ 2 ^ 63)
log-room k i l e g =
    let t = can-come k e in
    let positive = both (nat_lt 0 l.first) (nat_lt l.first (2 ^ 63)) (all-at is_log k.logs i l t.logs_from g) in
    let short : nat_lt (l.first + length l.payloads) (MOST_GIVEN * k.length + 2) ≡ true = all-at (is_short (MOST_GIVEN * k.length + 2)) k.logs i l t.short g in
    let first : 1 ≤ l.first = (let z : nat_lt 0 l.first ≡ true = positive.0 in grind (arith, nat_tests)) in
    let last : l.first + length l.payloads < MOST_GIVEN * k.length + 2 = grind (arith, nat_tests) in
    (first, omega (arith, last, t.young))

-- so many are there with a place for the process itself
pub own-long : {X : Type 0} (x : X) (n : ℕ) (xs : List X) → n ≤ length xs → length (with_own x n xs) ≡ suc (length xs)
own-long x n xs l = omega (arith, length-append (take n xs) (x ∷ drop n xs), length-take n xs, length-drop n xs, l)

sum-from : (a : ℕ) (xs : List ℕ) → fold ◌+◌ a xs ≡ a + sum xs
sum-from a [] = omega arith
sum-from a (x ∷ xs) =
    let first : sum (x ∷ xs) ≡ x + sum xs = sum-from (0 + x) xs ∙ (let e : 0 + x + sum xs ≡ x + sum xs = omega arith in e) in
    sum-from (a + x) xs ∙ (let e : a + x + sum xs ≡ a + (x + sum xs) = omega arith in e) ∙ ap (λ z. a + z) (sym first)

sum-cons : (x : ℕ) (xs : List ℕ) → sum (x ∷ xs) ≡ x + sum xs
sum-cons x xs = sum-from (0 + x) xs ∙ (let e : 0 + x + sum xs ≡ x + sum xs = omega arith in e)

sum-own : (n : ℕ) (xs : List ℕ) → sum (with_own 0 n xs) ≡ sum xs
sum-own zero xs = sum-cons 0 xs ∙ (let e : 0 + sum xs ≡ sum xs = omega arith in e)
sum-own (suc n) [] = refl
sum-own (suc n) (x ∷ xs) = sum-cons x (with_own 0 n xs) ∙ ap (λ z. x + z) (sum-own n xs) ∙ sym (sum-cons x xs)

get-sum : (xs : List ℕ) (q : ℕ) → slice_index_or xs q 0 ≤ sum xs
get-sum [] q = omega arith
get-sum (x ∷ xs) zero = let r : x ≤ sum (x ∷ xs) = omega (arith, sum-cons x xs) in r
get-sum (x ∷ xs) (suc q) =
    let rest : slice_index_or xs q 0 ≤ sum xs = get-sum xs q in
    let r : slice_index_or xs q 0 ≤ sum (x ∷ xs) = omega (arith, sum-cons x xs, rest) in
    r

-- no sender has more than all
pub counts-low : (k : Kept) (q : ℕ) → comes_back k ≡ true → slice_index_or (with_own 0 k.me k.counts) q 0 ≤ k.length
counts-low k q e = omega (arith, get-sum (with_own 0 k.me k.counts) q, sum-own k.me k.counts, (can-come k e).sum_is)

own-none : (n : ℕ) (xs : List ℕ) → n ≤ length xs → slice_index_or (with_own 0 n xs) n 0 ≡ 0
own-none zero xs l = refl
own-none (suc n) [] l = absurd (omega (arith, l))
own-none (suc n) (x ∷ xs) l = own-none n xs (omega (arith, l))

-- what the checkpoint covers is of peers
pub from-own : (k : Kept) → comes_back k ≡ true → FromPeers k.me k.count k.length (with_own 0 k.me k.counts) []
from-own k e =
    let t = can-come k e in
    record { total = sum-own k.me k.counts ∙ t.sum_is; none_own = own-none k.me k.counts (omega (arith, t.own, t.counts_are)); behind = tt }

-- what holds of each holds by place
pub at-each : {X : Type 0} (P : X → Type 0) (xs : List X) (d : X) → P d → Each P xs → (i : ℕ) → P (slice_index_or xs i d)
at-each P [] d h e i = h
at-each P (x ∷ xs) d h e zero = e.0
at-each P (x ∷ xs) d h e (suc i) = at-each P xs d h e.1 i

pub each-take : {X : Type 0} (P : X → Type 0) (n : ℕ) (xs : List X) → Each P xs → Each P (take n xs)
each-take P zero xs e = tt
each-take P (suc n) [] e = tt
each-take P (suc n) (x ∷ xs) e = (e.0, each-take P n xs e.1)

pub each-drop : {X : Type 0} (P : X → Type 0) (n : ℕ) (xs : List X) → Each P xs → Each P (drop n xs)
each-drop P zero xs e = e
each-drop P (suc n) [] e = tt
each-drop P (suc n) (x ∷ xs) e = each-drop P n xs e.1

-- no more than so many entries, with those that were dropped
abbrev pub IsLow : ℕ → TheQueue → Type 0
IsLow most q = q.dropped + length q.payloads ≤ most

queues-low : (most : ℕ) (ls : List KeptLog) → list_all is_log ls ≡ true → list_all (is_short (most + 2)) ls ≡ true → Each (IsLow most) (map queue_of ls)
queues-low most [] a b = tt
queues-low most (l ∷ ls) a b =
    let s = both (is_log l) (list_all is_log ls) a in
    let t = both (is_short (most + 2) l) (list_all (is_short (most + 2)) ls) b in
    let u = both (nat_lt 0 l.first) (nat_lt l.first (2 ^ 63)) s.0 in
    let first : 0 < l.first = (let z : nat_lt 0 l.first ≡ true = u.0 in grind (arith, nat_tests)) in
    let last : l.first + length l.payloads < most + 2 = (let z : nat_lt (l.first + length l.payloads) (most + 2) ≡ true = t.0 in grind (arith, nat_tests)) in
    (omega (arith, first, last), queues-low most ls s.1 t.1)

pub logs-short : (k : Kept) → comes_back k ≡ true → IsShort (with_own no_queue k.me (map queue_of k.logs)) k.length
logs-short k e d =
    let t = can-come k e in
    let most = MOST_GIVEN * k.length in
    let all : Each (IsLow most) (map queue_of k.logs) = queues-low most k.logs t.logs_from t.short in
    let none : IsLow most no_queue = omega arith in
    at-each (IsLow most) (with_own no_queue k.me (map queue_of k.logs)) no_queue none
    (each-append (IsLow most) (take k.me (map queue_of k.logs)) (no_queue ∷ drop k.me (map queue_of k.logs)) (each-take (IsLow most) k.me (map queue_of k.logs) all) (none, each-drop (IsLow most) k.me (map queue_of k.logs) all)) d
