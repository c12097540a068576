-- Sends that are held in order, and those of them that leave
use Rattle.std.proofs.Common.{◌≡◌, ◌≢◌, ℕ, zero, suc, ◌+◌, ◌<◌, ◌≤◌, List, [], ◌∷◌, ◌++◌, length, take, set, get_or, Bool, true, false, refl, sym, ap, ◌∙◌, arith}
use Rattle.std.specs.Prelude.{◌==◌, ◌||◌, nat_lt, nat_le, cond}
use Rattle.std.specs.List.{filter, list_any, All}
use Rattle.std.proofs.lemmas.Bool.Decides.{nat_tests}
use Rattle.std.proofs.lemmas.List.{get_or-set_same, get_or-set_other}
use Rattle.std.proofs.lemmas.List.Elements.{All-head, All-tail, All-push, All-nil, All-take}
use Rattle.std.proofs.lemmas.List.Sums.{sum_by-cons}
use Rattle.send_gate.specs.declared.gate.Held.{Held}
use Rattle.send_gate.specs.Gate.{TheGate, count_to, InOrder, WithinLimit, Releases}
use Rattle.send_gate.specs.Inside.Gate.{ReleasesNext}

pub InOrder-push : (hs : List Held) (h : Held) → InOrder hs → All (λ (g : Held). g.rsn ≤ h.rsn) hs → h.dst < 16 → InOrder (hs ++ h ∷ [])
InOrder-push [] h order below small = (small, All-nil _, tt)
InOrder-push (g ∷ hs) h order below small = (order.0, All-push (λ (x : Held). g.rsn ≤ x.rsn) hs h order.1 (All-head (λ (x : Held). x.rsn ≤ h.rsn) g hs below), InOrder-push hs h order.2 (All-tail (λ (x : Held). x.rsn ≤ h.rsn) g hs below) small)

count_to-cons : (d : ℕ) (g : Held) (hs : List Held) → count_to d (g ∷ hs) ≡ cond (g.dst == d) 1 0 + count_to d hs
count_to-cons d g hs = sum_by-cons (λ (x : Held). cond (x.dst == d) 1 0) g hs

pub count_to-push : (d : ℕ) (hs : List Held) (h : Held) → count_to d (hs ++ h ∷ []) ≡ count_to d hs + cond (h.dst == d) 1 0
count_to-push d [] h = omega arith
count_to-push d (g ∷ hs) h = omega (arith, count_to-push d hs h, count_to-cons d g (hs ++ h ∷ []), count_to-cons d g hs)

pub WithinLimit-push : (hs : List Held) (h : Held) (released : List ℕ) → WithinLimit hs released → get_or released h.dst 0 + count_to h.dst hs < 524288 → WithinLimit (hs ++ h ∷ []) released
WithinLimit-push hs h released limit room d small = by_dst (h.dst == d) refl
  where
    by_dst : (b : Bool) → (h.dst == d) ≡ b → get_or released d 0 + count_to d (hs ++ h ∷ []) ≤ 524288
    by_dst true e =
        let same : h.dst ≡ d = grind (arith, nat_tests) in
        let here : get_or released d 0 + count_to d hs < 524288 = rw same at room in
        rw (count_to-push d hs h, e) (omega arith)
    by_dst false e = rw (count_to-push d hs h, e) (omega (arith, limit d small))

pub InOrder-take : (n : ℕ) (hs : List Held) → InOrder hs → InOrder (take n hs)
InOrder-take zero hs order = tt
InOrder-take (suc n) [] order = tt
InOrder-take (suc n) (h ∷ hs) order = (order.0, All-take (λ (g : Held). h.rsn ≤ g.rsn) n hs order.1, InOrder-take n hs order.2)

count_to-take : (d n : ℕ) (hs : List Held) → count_to d (take n hs) ≤ count_to d hs
count_to-take d zero hs = omega arith
count_to-take d (suc n) [] = omega arith
count_to-take d (suc n) (h ∷ hs) = omega (arith, count_to-take d n hs, count_to-cons d h (take n hs), count_to-cons d h hs)

pub WithinLimit-take : (n : ℕ) (hs : List Held) (released : List ℕ) → WithinLimit hs released → WithinLimit (take n hs) released
WithinLimit-take n hs released limit d small = omega (arith, count_to-take d n hs, limit d small)

-- with nothing that waits, and another count for one destination
pub WithinLimit-set : (released : List ℕ) (dst count : ℕ) → count ≤ 524288 → dst < length released → WithinLimit [] released → WithinLimit [] (set released dst count)
WithinLimit-set released dst count bound inside limit d small = by_dst (dst == d) refl
  where
    by_dst : (b : Bool) → (dst == d) ≡ b → get_or (set released dst count) d 0 + 0 ≤ 524288
    by_dst true e = let same : dst ≡ d = grind (arith, nat_tests) in rw (← same) (omega (arith, get_or-set_same released dst count 0 inside, bound))
    by_dst false e = let apart : d ≢ dst = (λ same. grind (arith, nat_tests)) in omega (arith, get_or-set_other released dst d count 0 apart, limit d small)

-- what a front that leaves doesn't change
module _ (k : ℕ) (h : Held) (hs : List Held) (early : h.rsn ≤ k) where
  pub stays-next : filter (λ (x : Held). nat_lt k x.rsn) (h ∷ hs) ≡ filter (λ (x : Held). nat_lt k x.rsn) hs
  stays-next = let e : nat_lt k h.rsn ≡ false = grind (arith, nat_tests) in rw e refl

  pub any-next : list_any (λ (x : Held). nat_le x.rsn k) (h ∷ hs) ≡ true
  any-next = let e : nat_le h.rsn k ≡ true = grind (arith, nat_tests) in rw e refl

  pub counts-next : (d : ℕ) → count_to d (filter (λ (x : Held). nat_le x.rsn k) (h ∷ hs)) ≡ cond (h.dst == d) 1 0 + count_to d (filter (λ (x : Held). nat_le x.rsn k) hs)
  counts-next d = let e : nat_le h.rsn k ≡ true = grind (arith, nat_tests) in rw e (count_to-cons d h (filter (λ (x : Held). nat_le x.rsn k) hs))

-- one more is released to d if d is the destination
pub released-next : (released : List ℕ) (dst d : ℕ) → dst < length released → get_or (set released dst (get_or released dst 0 + 1)) d 0 ≡ get_or released d 0 + cond (dst == d) 1 0
released-next released dst d inside = by_dst (dst == d) refl
  where
    by_dst : (b : Bool) → (dst == d) ≡ b → get_or (set released dst (get_or released dst 0 + 1)) d 0 ≡ get_or released d 0 + cond b 1 0
    by_dst true e = let same : dst ≡ d = grind (arith, nat_tests) in rw (← same) (get_or-set_same released dst (get_or released dst 0 + 1) 0 inside)
    by_dst false e = let apart : d ≢ dst = (λ same. grind (arith, nat_tests)) in get_or-set_other released dst d (get_or released dst 0 + 1) 0 apart ∙ omega arith

-- if all positions are above the run, nothing leaves
pub stays-all : (k : ℕ) (hs : List Held) → All (λ (h : Held). k < h.rsn) hs → filter (λ (x : Held). nat_lt k x.rsn) hs ≡ hs
stays-all k [] above = refl
stays-all k (h ∷ hs) above =
    let here : k < h.rsn = All-head (λ (x : Held). k < x.rsn) h hs above in
    let e : nat_lt k h.rsn ≡ true = grind (arith, nat_tests) in
    rw e (ap (λ l. h ∷ l) (stays-all k hs (All-tail (λ (x : Held). k < x.rsn) h hs above)))

-- if all that is held is above k, none of it leaves
pub leaves-none : (k : ℕ) (hs : List Held) → All (λ (h : Held). k < h.rsn) hs → filter (λ (x : Held). nat_le x.rsn k) hs ≡ []
leaves-none k [] above = refl
leaves-none k (h ∷ hs) above =
    let here : k < h.rsn = All-head (λ (x : Held). k < x.rsn) h hs above in
    let e : nat_le h.rsn k ≡ false = grind (arith, nat_tests) in
    rw e (leaves-none k hs (All-tail (λ (x : Held). k < x.rsn) h hs above))

-- and there is none that would
pub any-none : (k : ℕ) (hs : List Held) → All (λ (h : Held). k < h.rsn) hs → list_any (λ (x : Held). nat_le x.rsn k) hs ≡ false
any-none k [] above = refl
any-none k (h ∷ hs) above =
    let here : k < h.rsn = All-head (λ (x : Held). k < x.rsn) h hs above in
    let e : nat_le h.rsn k ≡ false = grind (arith, nat_tests) in
    rw e (any-none k hs (All-tail (λ (x : Held). k < x.rsn) h hs above))

-- a release from start that came to now: what is still to leave, and what left
pub record Onward (k : ℕ) (start now : TheGate) (any : Bool) : Type 0 where
  pub stays : filter (λ (x : Held). nat_lt k x.rsn) now.waiting ≡ filter (λ (x : Held). nat_lt k x.rsn) start.waiting
  pub counts : (d : ℕ) → d < 16 → get_or now.released d 0 + count_to d (filter (λ (x : Held). nat_le x.rsn k) now.waiting) ≡ get_or start.released d 0 + count_to d (filter (λ (x : Held). nat_le x.rsn k) start.waiting)
  pub left : (any || list_any (λ (x : Held). nat_le x.rsn k) now.waiting) ≡ list_any (λ (x : Held). nat_le x.rsn k) start.waiting

or_true : (b : Bool) → (b || true) ≡ true
or_true true = refl
or_true false = refl

or_false : (b : Bool) → (b || false) ≡ b
or_false true = refl
or_false false = refl

-- one send more leaves
pub onward-next : (k : ℕ) (start now next : TheGate) (any : Bool) → Onward k start now any → ReleasesNext true k now next → Onward k start next true
onward-next k start now next any o (h, is, early, inside, counted) = record {
  stays = sym (ap (filter (λ (x : Held). nat_lt k x.rsn)) is ∙ stays-next k h next.waiting early) ∙ o.stays;
  counts = (λ d small. let more : count_to d (filter (λ (x : Held). nat_le x.rsn k) now.waiting) ≡ cond (h.dst == d) 1 0 + count_to d (filter (λ (x : Held). nat_le x.rsn k) next.waiting) = ap (λ l. count_to d (filter (λ (x : Held). nat_le x.rsn k) l)) is ∙ counts-next k h next.waiting early d in
      let one : get_or next.released d 0 ≡ get_or now.released d 0 + cond (h.dst == d) 1 0 = ap (λ l. get_or l d 0) counted ∙ released-next now.released h.dst d inside in
      omega (arith, more, one, o.counts d small));
  left = sym (ap (λ l. any || list_any (λ (x : Held). nat_le x.rsn k) l) is ∙ ap (λ b. any || b) (any-next k h next.waiting early) ∙ or_true any) ∙ o.left;
}

-- once none is left to leave, it is known whether any left
pub any-end : (k : ℕ) (start now last : TheGate) (any : Bool) → Onward k start now any → ReleasesNext false k now last → any ≡ list_any (λ (x : Held). nat_le x.rsn k) start.waiting
any-end k start now last any o (is, above) = sym (ap (λ b. any || b) (any-none k now.waiting above) ∙ or_false any) ∙ o.left

-- and all that had to leave has left
pub releases-end : (k : ℕ) (start now last : TheGate) (any : Bool) → Onward k start now any → ReleasesNext false k now last → Releases k start last
releases-end k start now last any o (is, above) = rw is (sym (stays-all k now.waiting above) ∙ o.stays, λ d small. let none : count_to d (filter (λ (x : Held). nat_le x.rsn k) now.waiting) ≡ 0 = ap (count_to d) (leaves-none k now.waiting above) in omega (arith, none, o.counts d small))
