-- Histories in which each message is the next of its sender
use Rattle.std.proofs.Common.{◌≡◌, ◌⊎◌, inl, inr, ℕ, zero, suc, ◌+◌, ◌<◌, ◌≤◌, List, [], ◌∷◌, ◌++◌, length, take, Bool, true, false, refl, ap, subst, arith, sym, ◌∙◌}
use Rattle.std.specs.Prelude.{Some, slice_get, if◌then◌else◌, ◌==◌, nat_lt, ◌&&◌}
use Rattle.std.proofs.lemmas.Bool.Decides.{nat_tests}
use Rattle.world.specs.declared.message.Message.{Message}
use Rattle.world.specs.History.{nth, count_of, rsn_from, rsn_of}
use Rattle.theorems.specs.Invariants.Exact.{Names}
use Rattle.theorems.specs.Invariants.Sound.{IsNext}
use Rattle.theorems.proofs.ListLemmas.{take-all, take-push, take-next, get-push}

-- a message more counts for its sender
pub count-push : (s : ℕ) (h : List Message) (m : Message) → count_of s (h ++ m ∷ []) ≡ count_of s h + (if m.sender == s then 1 else 0)
count-push s [] m = omega arith
count-push s (x ∷ h) m = let ih : count_of s (h ++ m ∷ []) ≡ count_of s h + (if m.sender == s then 1 else 0) = count-push s h m in omega arith

pub count-mono : (s : ℕ) (h : List Message) (j k : ℕ) → j ≤ k → count_of s (take j h) ≤ count_of s (take k h)
count-mono s [] zero zero l = omega arith
count-mono s [] zero (suc k) l = omega arith
count-mono s [] (suc j) zero l = omega arith
count-mono s [] (suc j) (suc k) l = omega arith
count-mono s (x ∷ h) zero zero l = omega arith
count-mono s (x ∷ h) zero (suc k) l = omega arith
count-mono s (x ∷ h) (suc j) zero l = absurd (omega arith)
count-mono s (x ∷ h) (suc j) (suc k) l = let ih : count_of s (take j h) ≤ count_of s (take k h) = count-mono s h j k (omega arith) in omega arith

pub count-next : (h : List Message) (k : ℕ) (x : Message) → slice_get h k ≡ Some x → count_of x.sender (take (suc k) h) ≡ suc (count_of x.sender (take k h))
count-next h k x e =
    let same : (x.sender == x.sender) ≡ true = grind (arith, nat_tests) in
    rw (take-next h k x e) (let c : count_of x.sender (take k h ++ x ∷ []) ≡ count_of x.sender (take k h) + (if x.sender == x.sender then 1 else 0) = count-push x.sender (take k h) x in let d = rw same at c in omega arith)

-- a history of p, one of n processes: each message is another's, and was its sender's next
abbrev pub Ordered : ℕ → ℕ → List Message → Type 0
Ordered n p h = (k : ℕ) (x : Message) → slice_get h k ≡ Some x → IsNext n p (take k h) x

-- a message after the first c has a greater SSN than there are messages of its sender among these
pub above : (n p : ℕ) (h : List Message) → Ordered n p h → (k : ℕ) (x : Message) → slice_get h k ≡ Some x → (c : ℕ) → c ≤ k → count_of x.sender (take c h) < x.ssn
above n p h o k x e c l = let a : x.ssn ≡ suc (count_of x.sender (take k h)) = (o k x e).next in let b : count_of x.sender (take c h) ≤ count_of x.sender (take k h) = count-mono x.sender h c k l in omega arith

earlier : (n p : ℕ) (h : List Message) → Ordered n p h → (a b : ℕ) (x y : Message) → slice_get h a ≡ Some x → slice_get h b ≡ Some y → x.sender ≡ y.sender → a < b → x.ssn < y.ssn
earlier n p h o a b x y ea eb same l =
    let next : x.ssn ≡ suc (count_of x.sender (take a h)) = (o a x ea).next in
    let upto : count_of x.sender (take (suc a) h) ≡ suc (count_of x.sender (take a h)) = count-next h a x ea in
    let more : count_of y.sender (take (suc a) h) < y.ssn = above n p h o b y eb (suc a) (omega arith) in
    let P : ℕ → Type 0 = λ s. count_of s (take (suc a) h) < y.ssn in
    let more' : count_of x.sender (take (suc a) h) < y.ssn = subst P (sym same) more in
    omega arith

-- no two messages have the same sender and SSN
pub unique : (n p : ℕ) (h : List Message) → Ordered n p h → (a b : ℕ) (x y : Message) → slice_get h a ≡ Some x → slice_get h b ≡ Some y → x.sender ≡ y.sender → x.ssn ≡ y.ssn → a ≡ b
unique n p h o a b x y ea eb s i = split (nat_lt a b) refl (nat_lt b a) refl
  where
    split : (l : Bool) → nat_lt a b ≡ l → (r : Bool) → nat_lt b a ≡ r → a ≡ b
    split true e r f = let l : x.ssn < y.ssn = earlier n p h o a b x y ea eb s (grind (arith, nat_tests)) in absurd (omega arith)
    split false e true f = let l : y.ssn < x.ssn = earlier n p h o b a y x eb ea (sym s) (grind (arith, nat_tests)) in absurd (omega arith)
    split false e false f = grind (arith, nat_tests)

-- what rsn_of finds is there
pub found-at : (b s i : ℕ) (h : List Message) (m : ℕ) → rsn_from b s i h ≡ Some m → (k : ℕ) × (m ≡ suc (b + k)) × (x : Message) × (slice_get h k ≡ Some x) × (x.sender ≡ s) × (x.ssn ≡ i)
found-at b s i [] m e = absurd (cc)
found-at b s i (x ∷ h) m e = split ((x.sender == s) && (x.ssn == i)) refl e (found-at (suc b) s i h m)
  where
    later : ((k : ℕ) × (m ≡ suc (suc b + k)) × (y : Message) × (slice_get h k ≡ Some y) × (y.sender ≡ s) × (y.ssn ≡ i)) → (k : ℕ) × (m ≡ suc (b + k)) × (y : Message) × (slice_get (x ∷ h) k ≡ Some y) × (y.sender ≡ s) × (y.ssn ≡ i)
    later r = (suc r.0, omega arith, r.2, r.3, r.4, r.5)

    split : (c : Bool) → ((x.sender == s) && (x.ssn == i)) ≡ c → (if c then Some (suc b) else rsn_from (suc b) s i h) ≡ Some m
        → (rsn_from (suc b) s i h ≡ Some m → (k : ℕ) × (m ≡ suc (suc b + k)) × (y : Message) × (slice_get h k ≡ Some y) × (y.sender ≡ s) × (y.ssn ≡ i))
        → (k : ℕ) × (m ≡ suc (b + k)) × (y : Message) × (slice_get (x ∷ h) k ≡ Some y) × (y.sender ≡ s) × (y.ssn ≡ i)
    split true t e more = let same : suc b ≡ m = cc in (0, omega arith, x, refl, grind (arith, nat_tests), grind (arith, nat_tests))
    split false t e more = later (more e)

-- it finds one if there is one
some-found : (b : ℕ) (h : List Message) (k : ℕ) (x : Message) → slice_get h k ≡ Some x → (m : ℕ) × (rsn_from b x.sender x.ssn h ≡ Some m)
some-found b [] k x e = absurd (cc)
some-found b (y ∷ h) zero x e =
    let same : y ≡ x = cc in
    let P : Message → Type 0 = λ z. (m : ℕ) × (rsn_from b z.sender z.ssn (y ∷ h) ≡ Some m) in
    subst P same (suc b, first)
  where
    first : rsn_from b y.sender y.ssn (y ∷ h) ≡ Some (suc b)
    first = let t : ((y.sender == y.sender) && (y.ssn == y.ssn)) ≡ true = grind (arith, nat_tests) in rw t
some-found b (y ∷ h) (suc k) x e = split ((y.sender == x.sender) && (y.ssn == x.ssn)) (some-found (suc b) h k x e)
  where
    split : (c : Bool) → (m : ℕ) × (rsn_from (suc b) x.sender x.ssn h ≡ Some m) → (m : ℕ) × ((if c then Some (suc b) else rsn_from (suc b) x.sender x.ssn h) ≡ Some m)
    split true more = (suc b, refl)
    split false more = more

-- in such a history rsn_of finds each message at its own place
pub placed : (n p : ℕ) (h : List Message) → Ordered n p h → (k : ℕ) (x : Message) → slice_get h k ≡ Some x → rsn_of h x.sender x.ssn ≡ Some (suc k)
placed n p h o k x e =
    let f : (m : ℕ) × (rsn_from 0 x.sender x.ssn h ≡ Some m) = some-found 0 h k x e in
    let r : (j : ℕ) × (f.0 ≡ suc (0 + j)) × (y : Message) × (slice_get h j ≡ Some y) × (y.sender ≡ x.sender) × (y.ssn ≡ x.ssn) = found-at 0 x.sender x.ssn h f.0 f.1 in
    let same : r.0 ≡ k = unique n p h o r.0 k r.2 x r.3 e r.4 r.5 in
    f.1 ∙ ap (λ m. Some m) (let q : f.0 ≡ suc (0 + r.0) = r.1 in omega arith)

-- the number that rsn_of gives names the message
pub names-found : (h : List Message) (s i m : ℕ) → rsn_of h s i ≡ Some m → Names h m s i
names-found h s i m e =
    let r : (j : ℕ) × (m ≡ suc (0 + j)) × (y : Message) × (slice_get h j ≡ Some y) × (y.sender ≡ s) × (y.ssn ≡ i) = found-at 0 s i h m e in
    let number : suc r.0 ≡ m = omega arith in
    let P : ℕ → Type 0 = λ k. nth h k ≡ Some r.2 in
    record { message = r.2; at = subst P number r.3; sender = r.4; ssn = r.5 }

-- one more message, which is next
pub ordered-push : (n p : ℕ) (h : List Message) (m : Message) → Ordered n p h → IsNext n p h m → Ordered n p (h ++ m ∷ [])
ordered-push n p h m o next k x e = split (get-push h m k x e)
  where
    split : ((k < length h) × (slice_get h k ≡ Some x)) ⊎ ((k ≡ length h) × (m ≡ x)) → IsNext n p (take k (h ++ m ∷ [])) x
    split (inl r) = rw (take-push h (m ∷ []) k (let l : k < length h = r.0 in omega arith)) (o k x r.1)
    split (inr r) =
        let whole : take k (h ++ m ∷ []) ≡ h = take-push h (m ∷ []) k (let l : k ≡ length h = r.0 in omega arith) ∙ ap (λ j. take j h) r.0 ∙ take-all h in
        let P : Message → Type 0 = λ y. IsNext n p (take k (h ++ m ∷ [])) y in
        subst P r.1 (rw whole next)
