-- Spans of numbers, and the spans of the results of operations.
use Rattle.std.specs.Prelude.{ℕ, zero, suc, ◌+◌, ◌-◌, ◌*◌, ◌/◌, ◌^◌, ◌<◌, ◌≤◌, min, max, nat_lt, nat_le, ◌&&◌, if◌then◌else◌}
use Rattle.decode.specs.declared.insn.AluOp.{AluOp}
use Rattle.decode.specs.declared.insn.AluOp.TheVariants.{Add, Sub, Mul, Div, Sdiv, Or, And, Lsh, Rsh, Mod, Smod, Xor, Mov, Arsh}
pub use Rattle.spans.specs.declared.span.Span.{Span}

-- a span by its two ends
abbrev pub span : ℕ → ℕ → Span
span lo hi = record { lo = lo; hi = hi }

-- one number only
abbrev pub one : ℕ → Span
one x = span x x

-- all words of n bits, if nothing is known
abbrev pub whole : ℕ → Span
whole n = span 0 (2 ^ n - 1)

-- a span has a number, and its numbers are words of n bits
pub record IsSpan (n : ℕ) (a : Span) : Type 0 where
  pub some : a.lo ≤ a.hi
  pub words : a.hi < 2 ^ n

-- the numbers of the first are among those of the second, so the first says what the second says
abbrev pub Within : Span → Span → Type 0
Within a b = (b.lo ≤ a.lo) × (a.hi ≤ b.hi)

-- the least span that has the numbers of both
abbrev pub joined_span : Span → Span → Span
joined_span a b = span (min a.lo b.lo) (max a.hi b.hi)

-- from lo to hi if these are words of n bits; else the result may have wrapped, and can be any word
abbrev pub bounded : ℕ → ℕ → ℕ → Span
bounded n lo hi = if nat_lt hi (2 ^ n) then span lo hi else whole n

-- the least 2 ^ k - 1 that is at least m, for m below 2 ^ n: no OR and no XOR of two numbers up to m exceeds it
abbrev pub ones : ℕ → ℕ → ℕ
ones zero m = 0
ones (suc n) m = if nat_lt m (2 ^ n) then ones n m else 2 ^ suc n - 1

-- the span of the results of an operation (RFC 9669 section 4.1) on words of n bits, the first from dst's span a and
-- the second from the operand's span b; it has all words if the result may wrap, if b as a divisor may be 0, if b as a
-- shift count may be n or more, if ARSH may shift a negative word, and for SDIV and SMOD
abbrev pub result_span : AluOp → ℕ → Span → Span → Span
result_span Add n a b = bounded n (a.lo + b.lo) (a.hi + b.hi)
result_span Sub n a b = if nat_le b.hi a.lo then span (a.lo - b.hi) (a.hi - b.lo) else whole n
result_span Mul n a b = bounded n (a.lo * b.lo) (a.hi * b.hi)
result_span Div n a b = if nat_lt 0 b.lo then span (a.lo / b.hi) (a.hi / b.lo) else whole n
result_span Sdiv n a b = whole n
result_span Or n a b = span 0 (ones n (max a.hi b.hi))
result_span And n a b = span 0 (min a.hi b.hi)
result_span Lsh n a b = if nat_lt b.hi n then bounded n (a.lo * 2 ^ b.lo) (a.hi * 2 ^ b.hi) else whole n
result_span Rsh n a b = if nat_lt b.hi n then span (a.lo / 2 ^ b.hi) (a.hi / 2 ^ b.lo) else whole n
result_span Mod n a b = if nat_lt 0 b.lo then span 0 (b.hi - 1) else whole n
result_span Smod n a b = whole n
result_span Xor n a b = span 0 (ones n (max a.hi b.hi))
result_span Mov n a b = b
result_span Arsh n a b =
    if nat_lt b.hi n && nat_lt a.hi (2 ^ (n - 1)) then span (a.lo / 2 ^ b.hi) (a.hi / 2 ^ b.lo) else whole n
