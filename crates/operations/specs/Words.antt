-- Words of n bits as whole numbers below 2 ^ n, and their readings as signed numbers.
use Rattle.std.specs.Prelude.{ℕ, suc, ◌-◌, ◌%◌, ◌^◌, ℤ, pos, negsuc, nat_lt, if◌then◌else◌}
use Rattle.decode.specs.declared.insn.Width.{Width}
use Rattle.decode.specs.declared.insn.Width.TheVariants.{W32, W64}

-- how many bits an operation of this width works on (RFC 9669 sections 4.1 and 4.3)
abbrev pub bits_of : Width → ℕ
bits_of W32 = 32
bits_of W64 = 64

-- the part of a register that an operation of this width uses: its low 32 bits, or all (RFC 9669 sections 4.1 and 4.3)
abbrev pub low_of : Width → ℕ → ℕ
low_of W32 a = a % 2 ^ 32
low_of W64 a = a

-- a word of n bits read as signed, in two's complement: from half of 2 ^ n on, a means a - 2 ^ n (RFC 9669 section 2.1)
abbrev pub signed_of : ℕ → ℕ → ℤ
signed_of n a = if nat_lt a (2 ^ (n - 1)) then pos a else negsuc (2 ^ n - suc a)

-- a whole number as a word of n bits, modulo 2 ^ n (RFC 9669 section 2.1)
abbrev pub word_of_signed : ℕ → ℤ → ℕ
word_of_signed n (pos a) = a % 2 ^ n
word_of_signed n (negsuc a) = 2 ^ n - 1 - a % 2 ^ n

-- the low k bits as signed, extended to a word of n bits (RFC 9669 section 2.3)
abbrev pub extended_from : ℕ → ℕ → ℕ → ℕ
extended_from k n a = word_of_signed n (signed_of k (a % 2 ^ k))

-- an immediate, sign-extended to 64 bits (RFC 9669 sections 4.1 and 4.3)
abbrev pub word_of : ℤ → ℕ
word_of (pos n) = n
word_of (negsuc n) = 2 ^ 64 - suc n
