-- Parts that stand one behind the other.
use Rattle.std.specs.Prelude.{◌≡◌, ◌≢◌, ◌⊎◌, ℕ, ◌<◌, ◌≤◌, List, [], ◌∷◌, length, take, drop}

-- the parts of these lengths, one behind the other
abbrev pub parts_of : List ℕ → List ℕ → List (List ℕ)
parts_of bytes [] = []
parts_of bytes (n ∷ ns) = take n bytes ∷ parts_of (drop n bytes) ns

-- the lengths are those of parts that fill the bytes, and this holds of each
abbrev pub AreParts : (List ℕ → Type 0) → List ℕ → List ℕ → Type 0
AreParts Is bytes [] = bytes ≡ []
AreParts Is bytes (n ∷ ns) = (n ≤ length bytes) × Is (take n bytes) × AreParts Is (drop n bytes) ns

-- they aren't, or it doesn't hold of one
abbrev pub IsMisfit : (List ℕ → Type 0) → List ℕ → List ℕ → Type 0
IsMisfit Is bytes [] = bytes ≢ []
IsMisfit Is bytes (n ∷ ns) = (length bytes < n) ⊎ (¬ (Is (take n bytes))) ⊎ IsMisfit Is (drop n bytes) ns
