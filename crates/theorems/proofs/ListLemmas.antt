-- Lists by number, and beginnings of lists
use Rattle.std.proofs.Common.{◌≡◌, ◌⊎◌, inl, inr, ℕ, zero, suc, ◌<◌, ◌≤◌, List, [], ◌∷◌, ◌++◌, length, take, refl, ap, subst, arith, ◌∙◌, length-append, append_assoc}
use Rattle.std.specs.Prelude.{Some, slice_get, Option, None}
use Rattle.std.proofs.lemmas.Option.{slice_get_within}
use Rattle.world.specs.declared.message.Message.{Message}
use Rattle.world.specs.History.{nth}
use Rattle.theorems.specs.Growth.{Begins}

pub take-all : {X : Type 0} (xs : List X) → take (length xs) xs ≡ xs
take-all [] = refl
take-all (x ∷ xs) = ap (λ ys. x ∷ ys) (take-all xs)

pub take-push : {X : Type 0} (xs ys : List X) (k : ℕ) → k ≤ length xs → take k (xs ++ ys) ≡ take k xs
take-push [] ys zero h = refl
take-push [] ys (suc k) h = absurd (omega arith)
take-push (x ∷ xs) ys zero h = refl
take-push (x ∷ xs) ys (suc k) h = ap (λ zs. x ∷ zs) (take-push xs ys k (omega arith))

pub take-take : {X : Type 0} (xs : List X) (j k : ℕ) → j ≤ k → take j (take k xs) ≡ take j xs
take-take [] zero zero h = refl
take-take [] zero (suc k) h = refl
take-take [] (suc j) zero h = refl
take-take [] (suc j) (suc k) h = refl
take-take (x ∷ xs) zero zero h = refl
take-take (x ∷ xs) zero (suc k) h = refl
take-take (x ∷ xs) (suc j) zero h = absurd (omega arith)
take-take (x ∷ xs) (suc j) (suc k) h = ap (λ zs. x ∷ zs) (take-take xs j k (omega arith))

pub take-next : {X : Type 0} (xs : List X) (k : ℕ) (x : X) → slice_get xs k ≡ Some x → take (suc k) xs ≡ take k xs ++ x ∷ []
take-next [] k x e = cc
take-next (y ∷ xs) zero x e = cc
take-next (y ∷ xs) (suc k) x e = ap (λ zs. y ∷ zs) (take-next xs k x e)

pub take-length : {X : Type 0} (xs : List X) (k : ℕ) → k ≤ length xs → length (take k xs) ≡ k
take-length [] zero l = refl
take-length [] (suc k) l = absurd (omega arith)
take-length (x ∷ xs) zero l = refl
take-length (x ∷ xs) (suc k) l = ap suc (take-length xs k (omega arith))

pub get-prefix : {X : Type 0} (xs ys : List X) (k : ℕ) (x : X) → slice_get xs k ≡ Some x → slice_get (xs ++ ys) k ≡ Some x
get-prefix [] ys k x e = cc
get-prefix (y ∷ xs) ys zero x e = e
get-prefix (y ∷ xs) ys (suc k) x e = get-prefix xs ys k x e

pub get-before : {X : Type 0} (xs ys : List X) (k : ℕ) (x : X) → k < length xs → slice_get (xs ++ ys) k ≡ Some x → slice_get xs k ≡ Some x
get-before [] ys k x h e = absurd (omega arith)
get-before (y ∷ xs) ys zero x h e = e
get-before (y ∷ xs) ys (suc k) x h e = get-before xs ys k x (omega arith) e

pub get-last : {X : Type 0} (xs : List X) (y : X) → slice_get (xs ++ y ∷ []) (length xs) ≡ Some y
get-last [] y = refl
get-last (x ∷ xs) y = get-last xs y

-- an element of a list with one more is an old one, or the new one
pub get-push : {X : Type 0} (xs : List X) (y : X) (k : ℕ) (x : X) → slice_get (xs ++ y ∷ []) k ≡ Some x → ((k < length xs) × (slice_get xs k ≡ Some x)) ⊎ ((k ≡ length xs) × (y ≡ x))
get-push [] y zero x e = inr (refl, cc)
get-push [] y (suc k) x e = absurd (cc)
get-push (z ∷ xs) y zero x e = inl (omega arith, e)
get-push (z ∷ xs) y (suc k) x e = next (get-push xs y k x e)
  where
    next : ((k < length xs) × (slice_get xs k ≡ Some x)) ⊎ ((k ≡ length xs) × (y ≡ x)) → ((suc k < length (z ∷ xs)) × (slice_get xs k ≡ Some x)) ⊎ ((suc k ≡ length (z ∷ xs)) × (y ≡ x))
    next (inl h) = inl (omega arith, h.1)
    next (inr h) = inr (ap suc h.0, h.1)

pub get-take : {X : Type 0} (xs : List X) (n k : ℕ) (x : X) → slice_get (take n xs) k ≡ Some x → (k < n) × (slice_get xs k ≡ Some x)
get-take [] zero k x e = absurd (cc)
get-take [] (suc n) k x e = absurd (cc)
get-take (y ∷ xs) zero k x e = absurd (cc)
get-take (y ∷ xs) (suc n) zero x e = (omega arith, e)
get-take (y ∷ xs) (suc n) (suc k) x e = let r : (k < n) × (slice_get xs k ≡ Some x) = get-take xs n k x e in (omega arith, r.1)

pub get-taken : {X : Type 0} (xs : List X) (n k : ℕ) (x : X) → k < n → slice_get xs k ≡ Some x → slice_get (take n xs) k ≡ Some x
get-taken [] n k x l e = absurd (cc)
get-taken (y ∷ xs) zero k x l e = absurd (omega arith)
get-taken (y ∷ xs) (suc n) zero x l e = e
get-taken (y ∷ xs) (suc n) (suc k) x l e = get-taken xs n k x (omega arith) e

pub get-within : {X : Type 0} (xs : List X) (k : ℕ) → k < length xs → (x : X) × (slice_get xs k ≡ Some x)
get-within [] k h = absurd (omega arith)
get-within (x ∷ xs) zero h = (x, refl)
get-within (x ∷ xs) (suc k) h = get-within xs k (omega arith)

-- the element of number m, from 1, is the one at m - 1
pub at-number : {X : Type 0} (xs : List X) (m : ℕ) (x : X) → nth xs m ≡ Some x → (k : ℕ) × (m ≡ suc k) × (slice_get xs k ≡ Some x)
at-number xs zero x e = absurd (cc)
at-number xs (suc k) x e = (k, refl, e)

-- the same by number, from 1
pub nth-prefix : {X : Type 0} (xs ys : List X) (m : ℕ) (x : X) → Begins xs ys → nth xs m ≡ Some x → nth ys m ≡ Some x
nth-prefix xs ys zero x b e = absurd (cc)
nth-prefix {X} xs ys (suc k) x b e = let P : List X → Type 0 = λ zs. slice_get zs k ≡ Some x in subst P b.1 (get-prefix xs b.0 k x e)

pub nth-within : {X : Type 0} (xs : List X) (m : ℕ) (x : X) → nth xs m ≡ Some x → (0 < m) × (m ≤ length xs)
nth-within xs zero x e = absurd (cc)
nth-within xs (suc k) x e = let h : k < length xs = slice_get_within xs k x e in (omega arith, omega arith)

-- each number from 1 to the length has an element
pub nth-of : {X : Type 0} (xs : List X) (m : ℕ) → 0 < m → m ≤ length xs → (x : X) × (nth xs m ≡ Some x)
nth-of xs zero a b = absurd (omega arith)
nth-of xs (suc k) a b = get-within xs k (omega arith)

pub nth-taken : {X : Type 0} (xs : List X) (n m : ℕ) (x : X) → m ≤ n → nth xs m ≡ Some x → nth (take n xs) m ≡ Some x
nth-taken xs n zero x l e = e
nth-taken xs n (suc k) x l e = get-taken xs n k x (omega arith) e

pub nth-take : {X : Type 0} (xs : List X) (n m : ℕ) (x : X) → nth (take n xs) m ≡ Some x → nth xs m ≡ Some x
nth-take xs n zero x e = absurd (cc)
nth-take xs n (suc k) x e = (get-take xs n k x e).1

pub some-same : {X : Type 0} (x y : X) (o : Option X) → o ≡ Some x → o ≡ Some y → x ≡ y
some-same x y o a b = cc

pub none-some : (x : Message) (o : Option Message) → o ≡ None → o ≡ Some x → ⊥
none-some x o a b = cc

append_nil : {X : Type 0} (xs : List X) → xs ++ [] ≡ xs
append_nil [] = refl
append_nil (x ∷ xs) = ap (λ ys. x ∷ ys) (append_nil xs)

pub begins-self : {X : Type 0} (xs : List X) → Begins xs xs
begins-self xs = ([], append_nil xs)

pub begins-trans : {X : Type 0} (xs ys zs : List X) → Begins xs ys → Begins ys zs → Begins xs zs
begins-trans xs ys zs a b = (a.0 ++ b.0, rw (← append_assoc) (ap (λ us. us ++ b.0) a.1 ∙ b.1))

pub begins-length : {X : Type 0} (xs ys : List X) → Begins xs ys → length xs ≤ length ys
begins-length {X} xs ys a = let P : List X → Type 0 = λ zs. length xs ≤ length zs in subst P a.1 (omega (arith, length-append {A = X}))

pub begins-take : {X : Type 0} (xs ys : List X) → Begins xs ys → (k : ℕ) → k ≤ length xs → take k ys ≡ take k xs
begins-take {X} xs ys a k h = let P : List X → Type 0 = λ zs. take k zs ≡ take k xs in subst P a.1 (take-push xs a.0 k h)
