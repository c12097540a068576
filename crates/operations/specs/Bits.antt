-- Numbers by their bits.
use Rattle.std.specs.Prelude.{ℕ, zero, suc, ◌+◌, ◌*◌, ◌^◌}

-- the number below 2 ^ n whose bit i is `bit i`
unfoldable pub word_of_bits : (ℕ → ℕ) → ℕ → ℕ
word_of_bits bit zero = 0
word_of_bits bit (suc n) = word_of_bits bit n + bit n * 2 ^ n
