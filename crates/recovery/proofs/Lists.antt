-- Lists and functions that are changed at one place
use Rattle.std.proofs.Common.{◌≡◌, ◌≢◌, ℕ, ◌<◌, List, [], ◌∷◌, ◌++◌, length, Bool, true, false, refl, sym, subst, arith}
use Rattle.std.specs.Prelude.{slice_index_or, slice_set, ◌==◌, if◌then◌else◌}
use Rattle.std.proofs.lemmas.Bool.Decides.{nat_tests}
use Rattle.std.proofs.lemmas.List.{get_or-set_same, get_or-set_other}
use Rattle.node.specs.Stands.{Each}

-- what holds of both holds of the one that is taken
pub either : {X : Type 0} (P : X → Type 0) (b : Bool) (x y : X) → P x → P y → P (if b then x else y)
either P true x y h g = h
either P false x y h g = g

-- what holds by place of a list and a function holds when both are changed at q
pub at-changed : {X Y : Type 0} (P : ℕ → X → Y → Type 0) (xs : List X) (d : X) (f : ℕ → Y) (q : ℕ) (x : X) (y : Y) (k : ℕ) → q < length xs → P q x y → P k (slice_index_or xs k d) (f k)
    → P k (slice_index_or (slice_set xs q x) k d) (if k == q then y else f k)
at-changed {X} {Y} P xs d f q x y k inside here there = split (k == q) refl
  where
    split : (b : Bool) → (k == q) ≡ b → P k (slice_index_or (slice_set xs q x) k d) (if b then y else f k)
    split true e =
        let same : k ≡ q = grind (arith, nat_tests) in
        let F : ℕ → Type 0 = λ z. P z (slice_index_or (slice_set xs q x) z d) y in
        subst F (sym same) (rw (get_or-set_same xs q x d inside) here)
    split false e =
        let apart : k ≢ q = grind (arith, nat_tests) in
        rw (get_or-set_other xs q k x d apart) there

pub each-append : {X : Type 0} (P : X → Type 0) (xs ys : List X) → Each P xs → Each P ys → Each P (xs ++ ys)
each-append P [] ys h g = g
each-append P (x ∷ xs) ys h g = (h.0, each-append P xs ys h.1 g)

pub each-more : {X : Type 0} (P Q : X → Type 0) (xs : List X) → ((x : X) → P x → Q x) → Each P xs → Each Q xs
each-more P Q [] f h = tt
each-more P Q (x ∷ xs) f h = (f x h.0, each-more P Q xs f h.1)
