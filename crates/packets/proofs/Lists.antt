-- Lists
use Rattle.std.proofs.Common.{◌≡◌, ℕ, zero, suc, ◌+◌, ◌<◌, List, [], ◌∷◌, ◌++◌, length, refl, subst, arith}
use Rattle.std.specs.Prelude.{Some, slice_get, slice_index_or}
use Rattle.world.specs.History.{Payload}

-- what is at a place of a list is behind another at that place after it
pub get-behind : {X : Type 0} (xs ys : List X) (k : ℕ) (x : X) → slice_get ys k ≡ Some x → slice_get (xs ++ ys) (length xs + k) ≡ Some x
get-behind {X} [] ys k x e =
    let P : ℕ → Type 0 = λ j. slice_get ys j ≡ Some x in
    let j : k ≡ 0 + k = omega arith in
    subst P j e
get-behind {X} (y ∷ xs) ys k x e =
    let P : ℕ → Type 0 = λ j. slice_get (y ∷ (xs ++ ys)) j ≡ Some x in
    let j : suc (length xs + k) ≡ suc (length xs) + k = omega arith in
    subst P j (get-behind xs ys k x e)

-- a payload within the list is there
pub get-some : (xs : List Payload) (k : ℕ) → k < length xs → slice_get xs k ≡ Some (slice_index_or xs k [])
get-some [] k l = absurd (omega arith)
get-some (x ∷ xs) zero l = refl
get-some (x ∷ xs) (suc k) l = get-some xs k (omega arith)
