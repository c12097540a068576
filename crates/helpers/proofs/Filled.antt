-- The places of a payload.
use Rattle.std.proofs.Common.{◌≡◌, ℕ, ◌<◌, ◌≤◌, List, ◌++◌, length, get_or, take, replicate, sym, ap, ◌∙◌, arith}
use Rattle.std.proofs.lemmas.List.{same_lists, places, take_at}
use Rattle.helpers.specs.Payload.{IsFilled, view64}

-- behind the used places are zeros
pub zero_behind : (used : ℕ) (xs : List ℕ) → IsFilled used xs → (k d : ℕ) → used ≤ k → k < 256 → get_or xs k d ≡ 0
zero_behind used xs h k d le lt =
    ap (λ l. get_or l k d) (sym h.filled_is) ∙ grind (arith, places, h.fits, h.size, le, lt)

first_places : (n used : ℕ) (xs : List ℕ) → n ≤ 256 → IsFilled used xs → take n xs ≡ take n (take used xs ++ replicate n 0)
first_places n used xs le h =
    same_lists _ _ (grind (arith, places, h.fits, h.size, le)) (λ k d at. grind (arith, places, h.fits, h.size, le, zero_behind used xs h k d))

-- the first 64 places hold what the payload is seen as
pub view_of : (used : ℕ) (xs : List ℕ) → IsFilled used xs → take 64 xs ≡ view64 (take used xs)
view_of used xs h = first_places 64 used xs (omega arith) h

length-front : (n : ℕ) (xs : List ℕ) → length (take n (xs ++ replicate n 0)) ≡ n
length-front n xs = grind (arith, places)

pub length-view64 : (xs : List ℕ) → length (view64 xs) ≡ 64
length-view64 xs = length-front 64 xs

-- 64 bytes are seen as they are
pub view64-whole : (xs : List ℕ) → length xs ≡ 64 → view64 xs ≡ xs
view64-whole xs size = take_at xs (replicate 64 0) 64 size
