-- Messages that are the first of what their sender sends
use Rattle.std.proofs.Common.{◌≡◌, ◌⊎◌, inl, inr, ℕ, zero, suc, ◌<◌, List, [], ◌∷◌, ◌++◌, length, take, Bool, true, false, refl, sym, ap, ◌∙◌, subst, arith, append_assoc}
use Rattle.std.specs.Prelude.{Option, Some, None, slice_get, ◌==◌, if◌then◌else◌}
use Rattle.std.proofs.lemmas.Bool.Decides.{nat_tests}
use Rattle.world.specs.declared.message.Message.{Message}
use Rattle.world.specs.History.{Payload, nth, count_of}
use Rattle.world.specs.Plan.{if_next, pushed}
use Rattle.theorems.specs.Growth.{Begins}
use Rattle.theorems.specs.Orphans.{payloads_of}
use Rattle.theorems.proofs.ListLemmas.{get-push, get-take, nth-prefix, begins-trans}
use Rattle.cluster.specs.Rules.{plan}
use Rattle.cluster.proofs.MemoryLemmas.{count-payloads}
use Rattle.cluster.specs.DurablePromises.{AreFirst}

pub append_nil : {X : Type 0} (xs : List X) → xs ++ [] ≡ xs
append_nil [] = refl
append_nil (x ∷ xs) = ap (λ ys. x ∷ ys) (append_nil xs)

-- a plan takes only what is its sender's next
pub if_next-is : (h : List Message) (o : Option Message) (x : Message) → if_next h o ≡ Some x → (o ≡ Some x) × (x.ssn ≡ suc (count_of x.sender h))
if_next-is h None x e = absurd (let z : None ≡ Some x = e in cc)
if_next-is h (Some m) x e = split (m.ssn == suc (count_of m.sender h)) refl e
  where
    split : (b : Bool) → (m.ssn == suc (count_of m.sender h)) ≡ b → (if b then Some m else None) ≡ Some x → (Some m ≡ Some x) × (x.ssn ≡ suc (count_of x.sender h))
    split true t e = let same : m ≡ x = cc in let P : Message → Type 0 = λ y. y.ssn ≡ suc (count_of y.sender h) in (e, subst P same (grind (arith, nat_tests)))
    split false t e = absurd (let z : None ≡ Some x = e in cc)

-- the first of less is the first of more
pub first-more : (h : List Message) (p : ℕ) (xs ys : List Payload) → Begins xs ys → AreFirst h p xs → AreFirst h p ys
first-more h p xs ys b f = record { each = λ i m e s. nth-prefix xs ys m.ssn m.payload b (f.each i m e s); order = begins-trans _ _ _ f.order b }

payloads-push : (p : ℕ) (h : List Message) (m : Message) → payloads_of p (h ++ m ∷ []) ≡ (if m.sender == p then payloads_of p h ++ m.payload ∷ [] else payloads_of p h)
payloads-push p [] m = split (m.sender == p)
  where
    split : (b : Bool) → (if b then m.payload ∷ [] else []) ≡ (if b then [] ++ m.payload ∷ [] else [])
    split true = refl
    split false = refl
payloads-push p (x ∷ h) m = split (x.sender == p) (m.sender == p) (payloads-push p h m)
  where
    split : (a b : Bool) → payloads_of p (h ++ m ∷ []) ≡ (if b then payloads_of p h ++ m.payload ∷ [] else payloads_of p h)
        → (if a then x.payload ∷ payloads_of p (h ++ m ∷ []) else payloads_of p (h ++ m ∷ []))
        ≡ (if b then (if a then x.payload ∷ payloads_of p h else payloads_of p h) ++ m.payload ∷ [] else (if a then x.payload ∷ payloads_of p h else payloads_of p h))
    split true true e = ap (λ ys. x.payload ∷ ys) e
    split true false e = ap (λ ys. x.payload ∷ ys) e
    split false true e = e
    split false false e = e

-- what begins ys, with the next of ys behind it, begins ys
begins-push : {X : Type 0} (xs ys : List X) (x : X) → Begins xs ys → slice_get ys (length xs) ≡ Some x → Begins (xs ++ x ∷ []) ys
begins-push {X} xs ys x b e = from b.0 b.1
  where
    from : (rest : List X) → xs ++ rest ≡ ys → Begins (xs ++ x ∷ []) ys
    from [] f = let g : slice_get xs (length xs) ≡ Some x = let P : List X → Type 0 = λ zs. slice_get zs (length xs) ≡ Some x in subst P (sym f ∙ append_nil xs) e in absurd (past xs x g)
      where
        past : (zs : List X) (z : X) → slice_get zs (length zs) ≡ Some z → ⊥
        past [] z g = cc
        past (y ∷ zs) z g = past zs z g
    from (y ∷ rest) f =
        let P : List X → Type 0 = λ zs. slice_get zs (length xs) ≡ Some x in
        let there : slice_get (xs ++ y ∷ rest) (length xs) ≡ Some x = subst P (sym f) e in
        let same : y ≡ x = at xs y rest x there in
        (rest, rw append_assoc (let Q : X → Type 0 = λ z. xs ++ z ∷ rest ≡ ys in subst Q same f))
      where
        at : (zs : List X) (y : X) (rest : List X) (x : X) → slice_get (zs ++ y ∷ rest) (length zs) ≡ Some x → y ≡ x
        at [] y rest x g = cc
        at (z ∷ zs) y rest x g = at zs y rest x g

-- one message more, which is its sender's next
pub first-push : (h : List Message) (m : Message) (p : ℕ) (xs : List Payload) → m.ssn ≡ suc (count_of m.sender h) → (m.sender ≡ p → nth xs m.ssn ≡ Some m.payload) → AreFirst h p xs → AreFirst (h ++ m ∷ []) p xs
first-push h m p xs next good f =
    record {
      each = λ i x e s. one i x s (get-push h m i x e);
      order = rw (payloads-push p h m) (last (m.sender == p) refl);
    }
  where
    one : (i : ℕ) (x : Message) → x.sender ≡ p → ((i < length h) × (slice_get h i ≡ Some x)) ⊎ ((i ≡ length h) × (m ≡ x)) → nth xs x.ssn ≡ Some x.payload
    one i x s (inl e) = f.each i x e.1 s
    one i x s (inr e) = let P : Message → Type 0 = λ y. y.sender ≡ p → nth xs y.ssn ≡ Some y.payload in subst P e.1 good s

    last : (b : Bool) → (m.sender == p) ≡ b → Begins (if b then payloads_of p h ++ m.payload ∷ [] else payloads_of p h) xs
    last true e =
        let s : m.sender ≡ p = grind (arith, nat_tests) in
        let Q : ℕ → Type 0 = λ s. m.ssn ≡ suc (count_of s h) in
        let n : m.ssn ≡ suc (length (payloads_of p h)) = subst Q s next ∙ ap suc (sym (count-payloads p h)) in
        let P : ℕ → Type 0 = λ i. nth xs i ≡ Some m.payload in
        begins-push (payloads_of p h) xs m.payload f.order (subst P n (good s))
    last false e = f.order

-- the first messages of these
pub first-take : (h : List Message) (k p : ℕ) (xs : List Payload) → AreFirst h p xs → AreFirst (take k h) p xs
first-take h k p xs f = record { each = λ i m e s. f.each i m (get-take h k i m e).1 s; order = begins-trans _ _ _ (fewer h k) f.order }
  where
    fewer : (h : List Message) (k : ℕ) → Begins (payloads_of p (take k h)) (payloads_of p h)
    fewer [] zero = ([], refl)
    fewer [] (suc k) = ([], refl)
    fewer (x ∷ h) zero = (payloads_of p (x ∷ h), refl)
    fewer (x ∷ h) (suc k) = split (x.sender == p) (fewer h k)
      where
        split : (b : Bool) → Begins (payloads_of p (take k h)) (payloads_of p h) → Begins (if b then x.payload ∷ payloads_of p (take k h) else payloads_of p (take k h)) (if b then x.payload ∷ payloads_of p h else payloads_of p h)
        split true r = (r.0, ap (λ ys. x.payload ∷ ys) r.1)
        split false r = r

-- what a plan adds keeps messages the first of what is sent
pub first-plan : (f : ℕ → Option Message) (h : List Message) (k p : ℕ) (xs : List Payload) → ((m : ℕ) (x : Message) → f m ≡ Some x → x.sender ≡ p → nth xs x.ssn ≡ Some x.payload) → AreFirst h p xs → AreFirst (plan f h k) p xs
first-plan f h zero p xs good a = a
first-plan f h (suc k) p xs good a = more (if_next (plan f h k) (f (suc (length (plan f h k))))) refl (first-plan f h k p xs good a)
  where
    more : (o : Option Message) → if_next (plan f h k) (f (suc (length (plan f h k)))) ≡ o → AreFirst (plan f h k) p xs → AreFirst (pushed (plan f h k) o) p xs
    more None e b = b
    more (Some x) e b = let t = if_next-is _ _ x e in first-push (plan f h k) x p xs t.1 (good _ x t.0) b
