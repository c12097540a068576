-- Messages in order, and histories before and behind a checkpoint
use Rattle.std.proofs.Common.{◌≡◌, ℕ, zero, suc, ◌+◌, List, [], ◌∷◌, ◌++◌, length, map, take, drop, Bool, true, false, refl, ap, ◌∙◌, subst, arith}
use Rattle.std.specs.Prelude.{Option, Some, None, slice_get, ◌==◌, if◌then◌else◌}
use Rattle.std.proofs.lemmas.Bool.Decides.{nat_tests}
use Rattle.world.specs.declared.message.Message.{Message}
use Rattle.world.specs.History.{count_of}
use Rattle.world.specs.World.{put}
use Rattle.world.specs.Plan.{if_next}
use Rattle.cluster.specs.Cluster.{Cluster}
use Rattle.node.specs.declared.job.OpenJob.{OpenJob}
use Rattle.node.specs.Stands.{InOrderFrom, job_of}
use Rattle.node.proofs.Lists.{count-append}
use Rattle.node.proofs.Numbers.{InOrderFrom-same}
use Rattle.recovery.specs.Plan.{Follows}
use Rattle.recovery.specs.StandsAtReplay.{IsInOrder}

-- one message more of a sender, by the next count of it
counted-more : (c : ℕ → ℕ) (m : Message) (s n : ℕ) (b : Bool) → (s == m.sender) ≡ b → (d : Bool) → (m.sender == s) ≡ d → c s + ((if d then 1 else 0) + n) ≡ (if b then suc (c m.sender) else c s) + n
counted-more c m s n true e true f = let same : s ≡ m.sender = grind (arith, nat_tests) in rw same (omega arith)
counted-more c m s n true e false f = absurd (grind (arith, nat_tests))
counted-more c m s n false e true f = absurd (grind (arith, nat_tests))
counted-more c m s n false e false f = omega arith

-- a history of which each message is the next of its sender
in-order-each : (c : ℕ → ℕ) (h : List Message) → ((k : ℕ) (x : Message) → slice_get h k ≡ Some x → x.ssn ≡ suc (c x.sender + count_of x.sender (take k h))) → InOrderFrom c h
in-order-each c [] each = tt
in-order-each c (m ∷ h) each = (
  omega (arith, each 0 m refl),
  in-order-each (put c m.sender (suc (c m.sender))) h (λ k x e. each (suc k) x e ∙ ap suc (counted-more c m x.sender (count_of x.sender (take k h)) (x.sender == m.sender) refl (m.sender == x.sender) refl)),
)

in-order-take : (c : ℕ → ℕ) (h : List Message) (n : ℕ) → InOrderFrom c h → InOrderFrom c (take n h)
in-order-take c h zero all = tt
in-order-take c [] (suc n) all = tt
in-order-take c (m ∷ h) (suc n) all = (all.0, in-order-take (put c m.sender (suc (c m.sender))) h n all.1)

-- the first messages of a history in order are
pub in-order-first : (c : Cluster) (p n : ℕ) → IsInOrder c p → InOrderFrom (λ q. 0) (take n (c.world.history p))
in-order-first c p n all = in-order-take (λ q. 0) (c.world.history p) n (in-order-each (λ q. 0) (c.world.history p) (λ k x e. omega (arith, all k x e)))

if-next-ssn : (h : List Message) (o : Option Message) (m : Message) → if_next h o ≡ Some m → m.ssn ≡ suc (count_of m.sender h)
if-next-ssn h None m e = absurd (cc)
if-next-ssn h (Some x) m e = split (x.ssn == suc (count_of x.sender h)) refl
  where
    split : (b : Bool) → (x.ssn == suc (count_of x.sender h)) ≡ b → m.ssn ≡ suc (count_of m.sender h)
    split true t =
        let at : if_next h (Some x) ≡ Some x = rw t refl in
        let same : x ≡ m = (cc (at, e)) in
        let P : Message → Type 0 = λ z. z.ssn ≡ suc (count_of z.sender h) in
        subst P same (grind (arith, nat_tests))
    split false t =
        let at : if_next h (Some x) ≡ None = rw t refl in
        absurd (cc (at, e))

-- what follows behind a history is in order
pub follows-in-order : (f : ℕ → Option Message) (h ms : List Message) → Follows f h ms → InOrderFrom (λ q. count_of q h) ms
follows-in-order f h [] t = tt
follows-in-order f h (m ∷ ms) t =
    (if-next-ssn h (f (suc (length h))) m t.0, InOrderFrom-same (λ q. count_of q (h ++ m ∷ [])) (put (λ q. count_of q h) m.sender (suc (count_of m.sender h))) ms each (follows-in-order f (h ++ m ∷ []) ms t.1))
  where
    each : (q : ℕ) → count_of q (h ++ m ∷ []) ≡ put (λ q. count_of q h) m.sender (suc (count_of m.sender h)) q
    each q =
        count-append q h (m ∷ []) ∙ counted-more (λ z. count_of z h) m q 0 (q == m.sender) refl (m.sender == q) refl
        ∙ (let e : put (λ z. count_of z h) m.sender (suc (count_of m.sender h)) q + 0 ≡ put (λ z. count_of z h) m.sender (suc (count_of m.sender h)) q = omega arith in e)

-- the senders of jobs are those of their messages
pub senders-of : (jobs : List OpenJob) → map (λ (j : OpenJob). j.sender) jobs ≡ map (λ (m : Message). m.sender) (map job_of jobs)
senders-of [] = refl
senders-of (j ∷ jobs) = ap (λ (l : List ℕ). j.sender ∷ l) (senders-of jobs)

-- what is before, and what is behind
pub front-part : {X : Type 0} (xs ys : List X) (n : ℕ) → length xs ≡ n → take n (xs ++ ys) ≡ xs
front-part [] ys zero e = refl
front-part [] ys (suc n) e = absurd (omega (arith, e))
front-part (x ∷ xs) ys zero e = absurd (omega (arith, e))
front-part (x ∷ xs) ys (suc n) e = ap (λ l. x ∷ l) (front-part xs ys n (omega (arith, e)))

pub back-part : {X : Type 0} (xs ys : List X) (n : ℕ) → length xs ≡ n → drop n (xs ++ ys) ≡ ys
back-part [] ys zero e = refl
back-part [] ys (suc n) e = absurd (omega (arith, e))
back-part (x ∷ xs) ys zero e = absurd (omega (arith, e))
back-part (x ∷ xs) ys (suc n) e = back-part xs ys n (omega (arith, e))
