-- What a jump shows of its two numbers if its condition is met (conditions: RFC 9669 section 4.3).
use Rattle.std.specs.Prelude.{ℕ, suc, ◌+◌, ◌-◌, ◌^◌, ◌==◌, min, max, nat_lt, nat_le, ◌&&◌, Bool, Option, Some, None, if◌then◌else◌}
use Rattle.std.specs.Option.{option_map}
use Rattle.decode.specs.declared.insn.Condition.{Condition}
use Rattle.decode.specs.declared.insn.Condition.TheVariants.{Equal, Greater, GreaterEqual, Set, NotEqual, SignedGreater}
use Rattle.decode.specs.declared.insn.Condition.TheVariants.{SignedGreaterEqual, Less, LessEqual, SignedLess, SignedLessEqual}
use Rattle.spans.specs.Span.{Span, span}

-- what is known of dst, and of the operand
abbrev pub SpanPair : Type 0
SpanPair = Span × Span

-- both spans; None if one of them has no number, so that nothing meets the condition
abbrev pub unless_empty : Span → Span → Option SpanPair
unless_empty a b = if nat_le a.lo a.hi && nat_le b.lo b.hi then Some (a, b) else None

-- the operand's span first
abbrev pub swapped : SpanPair → SpanPair
swapped p = (p.1, p.0)

-- the numbers of a that are less than some number of b, and those of b that are greater than some number of a
abbrev pub where_less : Span → Span → Option SpanPair
where_less a b = unless_empty (span a.lo (min a.hi (b.hi - 1))) (span (max b.lo (a.lo + 1)) b.hi)

-- the same for "at most" and "at least"
abbrev pub where_at_most : Span → Span → Option SpanPair
where_at_most a b = unless_empty (span a.lo (min a.hi b.hi)) (span (max b.lo a.lo) b.hi)

-- a span has only this number
abbrev pub is_one : Span → ℕ → Bool
is_one b x = b.lo == x && b.hi == x

-- a without each of its ends that is the only number of b
abbrev pub where_different : Span → Span → Option SpanPair
where_different a b =
    unless_empty (span (if is_one b a.lo then suc a.lo else a.lo) (if is_one b a.hi then a.hi - 1 else a.hi)) b

-- the words of n bits that are not negative
abbrev pub not_negative : ℕ → Span → Span
not_negative n b = span b.lo (min b.hi (2 ^ (n - 1) - 1))

-- a signed "less" or "at most": if a has no negative word, a greater word isn't negative either, and the comparison is
-- the unsigned one; else nothing is shown
abbrev pub where_signed : ℕ → (Span → Span → Option SpanPair) → Span → Span → Option SpanPair
where_signed n unsigned a b = if nat_lt a.hi (2 ^ (n - 1)) then unsigned a (not_negative n b) else Some (a, b)

-- what is known of two words of n bits that meet the condition; None if no word of a and word of b do
abbrev pub where_met : Condition → ℕ → Span → Span → Option SpanPair
where_met Equal n a b = Some (a, b)
where_met Set n a b = Some (a, b)
where_met NotEqual n a b = where_different a b
where_met Less n a b = where_less a b
where_met LessEqual n a b = where_at_most a b
where_met Greater n a b = option_map swapped (where_less b a)
where_met GreaterEqual n a b = option_map swapped (where_at_most b a)
where_met SignedLess n a b = where_signed n where_less a b
where_met SignedLessEqual n a b = where_signed n where_at_most a b
where_met SignedGreater n a b = option_map swapped (where_signed n where_less b a)
where_met SignedGreaterEqual n a b = option_map swapped (where_signed n where_at_most b a)

-- the condition that holds if this one doesn't; None if there is none
abbrev pub opposite : Condition → Option Condition
opposite Equal = Some NotEqual
opposite NotEqual = Some Equal
opposite Less = Some GreaterEqual
opposite GreaterEqual = Some Less
opposite LessEqual = Some Greater
opposite Greater = Some LessEqual
opposite SignedLess = Some SignedGreaterEqual
opposite SignedGreaterEqual = Some SignedLess
opposite SignedLessEqual = Some SignedGreater
opposite SignedGreater = Some SignedLessEqual
opposite Set = None

-- what a jump of n bits shows of two words of 64 bits; of numbers longer than n bits nothing is shown
abbrev pub shown : Option Condition → ℕ → Span → Span → Option SpanPair
shown None n a b = Some (a, b)
shown (Some condition) n a b =
    if nat_lt a.hi (2 ^ n) && nat_lt b.hi (2 ^ n) then where_met condition n a b else Some (a, b)
