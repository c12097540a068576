-- Numbers in memory: little-endian bytes.
use Rattle.std.specs.Prelude.{ℕ, zero, suc, ◌+◌, ◌*◌, ◌/◌, ◌%◌, List, [], ◌∷◌, ◌++◌, take, drop, length}

-- the number that bytes spell, the lowest byte first
abbrev pub le_value : List ℕ → ℕ
le_value [] = 0
le_value (b ∷ bs) = b + 256 * le_value bs

-- the lowest n bytes of a number, the lowest byte first
abbrev pub le_bytes : ℕ → ℕ → List ℕ
le_bytes zero v = []
le_bytes (suc n) v = v % 256 ∷ le_bytes n (v / 256)

-- the list with these elements in place of its own, from an index on
abbrev pub overwritten : List ℕ → ℕ → List ℕ → List ℕ
overwritten xs a ys = take a xs ++ (ys ++ drop (a + length ys) xs)
