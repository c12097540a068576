-- What leaves a frame are frames.
use Rattle.std.proofs.Common.{◌≡◌, ℕ, suc, ◌+◌, ◌%◌, ◌-◌, ◌*◌, ◌/◌, ◌^◌, ◌<◌, ◌≤◌, min, max, Bool, true, false, Option, Some, None, ℤ, pos, negsuc, ◌+ℤ◌, ◌≤ℤ◌, refl, sym, subst, arith}
use Rattle.std.specs.Prelude.{Result, Ok, Err, nat_lt, nat_le, int_le, ◌&&◌, ◌==◌, if◌then◌else◌}
use Rattle.std.specs.Option.{option_map}
use Rattle.std.proofs.lemmas.Bool.Decides.{nat_tests}
use Rattle.std.proofs.lemmas.Int.{ints}
use Rattle.std.proofs.lemmas.Nat.{pow_pos}
use Rattle.std.proofs.Math.Nat.{mul-le-mul, div-le_self, mod-lt}
use Rattle.decode.specs.declared.insn.Reg.{Reg}
use Rattle.decode.specs.declared.insn.AluOp.{AluOp}
use Rattle.decode.specs.declared.insn.AluOp.TheVariants.{Add, Sub, Mul, Div, Sdiv, Or, And, Lsh, Rsh, Mod, Smod, Xor, Mov, Arsh}
use Rattle.decode.specs.declared.insn.Width.{Width}
use Rattle.decode.specs.declared.insn.Width.TheVariants.{W32, W64}
use Rattle.decode.specs.declared.insn.Condition.{Condition}
use Rattle.decode.specs.declared.insn.Condition.TheVariants.{Equal, Greater, GreaterEqual, Set, NotEqual, SignedGreater, SignedGreaterEqual, Less, LessEqual, SignedLess, SignedLessEqual}
use Rattle.decode.specs.declared.insn.Operand.{Operand}
use Rattle.decode.specs.declared.insn.Operand.TheVariants as operand
use Rattle.decode.specs.declared.insn.Insn.TheVariants.{Alu, MovSx, Neg, End, Jump, JumpLong, JumpIf, Call, Exit, Load, LoadSx, StoreReg, StoreImm, Wide}
use Rattle.decode.specs.Encoding.{bytes_in, extension_offset, extension_width}
use Rattle.operations.specs.Words.{bits_of}
use Rattle.regtypes.specs.declared.frame.Region.{Region}
use Rattle.regtypes.specs.declared.frame.Region.TheVariants.{Message, State, Stack}
use Rattle.regtypes.specs.declared.rule.Rule.{Rule}
use Rattle.regtypes.specs.declared.rule.Rule.TheVariants.{V6}
use Rattle.spans.specs.Span.{IsSpan, Span, bounded, one, ones, result_span, span, whole}
use Rattle.spans.specs.Narrowing.{SpanPair, is_one, not_negative, opposite, shown, swapped, unless_empty, where_at_most, where_less, where_met, where_signed}
use Rattle.spans.specs.Frame.{Frame, IsFrame, IsKind, SpanKind, Num, Place, Reach, Unset, with_kind}
use Rattle.spans.specs.Access.{is_reached, loaded_kind, stored_frame, whole_word, wiped, word_kind, written_frame}
use Rattle.spans.specs.Ways.{AluForm, Computes, Copies, Gives, Moves, Sets, Sums, Ways, alu_form, behind_helper, extended_span, from_span, from_spans, low_span, moved_kind, moved_reach, moved_span, narrowed_frame, near_place, operand_kind, result_kind, set_kind, summed_kind}
use Rattle.spans.specs.Laws.{IsClosed, IsWay}
use Rattle.spans.proofs.Tests.{parts}
use Rattle.spans.proofs.Growth.{powers, quotients, ones-below}
use Rattle.spans.proofs.Narrowing.{WithinWay, where_met-inside}
use Rattle.spans.proofs.Monotone.{low_span-is, operand-is}
use Rattle.spans.proofs.Fits.{size-is}

-- ---- spans

whole-is : (n : ℕ) → IsSpan n (whole n)
whole-is n = let p : 0 < 2 ^ n = pow_pos n in record { some = omega arith; words = omega arith }

by_test : (t : Bool) (n : ℕ) (x : Span) → (t ≡ true → IsSpan n x) → IsSpan n (if t then x else whole n)
by_test true n x h = h refl
by_test false n x h = whole-is n

bounded-is : (n lo hi : ℕ) → lo ≤ hi → IsSpan n (bounded n lo hi)
bounded-is n lo hi h = by_test (nat_lt hi (2 ^ n)) n (span lo hi) (λ e. record { some = h; words = grind (arith, nat_tests) })

quotients-are : (n : ℕ) (a : Span) (y z : ℕ) → IsSpan n a → z ≤ y → 0 < z → IsSpan n (span (a.lo / y) (a.hi / z))
quotients-are n a y z i h p = record { some = quotients a.lo a.hi y z i.some h p; words = omega (arith, div-le_self a.hi z, i.words) }

shifts-are : (n : ℕ) (a b : Span) → IsSpan n a → b.lo ≤ b.hi → IsSpan n (span (a.lo / 2 ^ b.hi) (a.hi / 2 ^ b.lo))
shifts-are n a b i h = quotients-are n a (2 ^ b.hi) (2 ^ b.lo) i (powers b.lo b.hi h) (pow_pos b.lo)

up_to-is : (n m : ℕ) → m < 2 ^ n → IsSpan n (span 0 m)
up_to-is n m h = record { some = omega arith; words = h }

result_span-is : (op : AluOp) (n : ℕ) (a b : Span) → IsSpan n a → IsSpan n b → IsSpan n (result_span op n a b)
result_span-is Add n a b i j = bounded-is n (a.lo + b.lo) (a.hi + b.hi) (omega (arith, i.some, j.some))
result_span-is Sub n a b i j =
    by_test (nat_le b.hi a.lo) n (span (a.lo - b.hi) (a.hi - b.lo)) (λ e. record { some = omega (arith, i.some, j.some); words = omega (arith, i.words) })
result_span-is Mul n a b i j = bounded-is n (a.lo * b.lo) (a.hi * b.hi) (mul-le-mul i.some j.some)
result_span-is Div n a b i j =
    by_test (nat_lt 0 b.lo) n (span (a.lo / b.hi) (a.hi / b.lo)) (λ e. quotients-are n a b.hi b.lo i j.some (grind (arith, nat_tests)))
result_span-is Sdiv n a b i j = whole-is n
result_span-is Or n a b i j = up_to-is n (ones n (max a.hi b.hi)) (ones-below n (max a.hi b.hi))
result_span-is And n a b i j = up_to-is n (min a.hi b.hi) (omega (arith, i.words))
result_span-is Lsh n a b i j =
    by_test (nat_lt b.hi n) n (bounded n (a.lo * 2 ^ b.lo) (a.hi * 2 ^ b.hi)) (λ e. bounded-is n (a.lo * 2 ^ b.lo) (a.hi * 2 ^ b.hi) (mul-le-mul i.some (powers b.lo b.hi j.some)))
result_span-is Rsh n a b i j = by_test (nat_lt b.hi n) n (span (a.lo / 2 ^ b.hi) (a.hi / 2 ^ b.lo)) (λ e. shifts-are n a b i j.some)
result_span-is Mod n a b i j = by_test (nat_lt 0 b.lo) n (span 0 (b.hi - 1)) (λ e. up_to-is n (b.hi - 1) (omega (arith, j.words)))
result_span-is Smod n a b i j = whole-is n
result_span-is Xor n a b i j = up_to-is n (ones n (max a.hi b.hi)) (ones-below n (max a.hi b.hi))
result_span-is Mov n a b i j = j
result_span-is Arsh n a b i j =
    by_test (nat_lt b.hi n && nat_lt a.hi (2 ^ (n - 1))) n (span (a.lo / 2 ^ b.hi) (a.hi / 2 ^ b.lo)) (λ e. shifts-are n a b i j.some)

moved_span-is : (n : ℕ) (z : ℤ) (s : Span) → IsSpan n s → IsSpan n (moved_span n z s)
moved_span-is n (pos m) s i = bounded-is n (s.lo + m) (s.hi + m) (omega (arith, i.some))
moved_span-is n (negsuc m) s i =
    by_test (nat_le (suc m) s.lo) n (span (s.lo - suc m) (s.hi - suc m)) (λ e. record { some = omega (arith, i.some); words = omega (arith, i.words) })

wider : (n : ℕ) (s : Span) → n ≤ 64 → IsSpan n s → IsSpan 64 s
wider n s h i = record { some = i.some; words = omega (arith, i.words, powers n 64 h) }

few_bits : (width : Width) → bits_of width ≤ 64
few_bits W32 = omega arith
few_bits W64 = omega arith

extended_span-is : (k n : ℕ) (s : Span) → n ≤ 64 → IsSpan 64 s → IsSpan 64 (extended_span k n s)
extended_span-is k n s h i = by_case (nat_lt s.hi (2 ^ (k - 1)))
  where
    by_case : (t : Bool) → IsSpan 64 (if t then s else whole n)
    by_case true = i
    by_case false = wider n (whole n) h (whole-is n)

-- ---- kinds that arithmetic leaves

abbrev IsGiven : Result SpanKind Rule → Type 0
IsGiven (Err r) = Unit {0}
IsGiven (Ok k) = IsKind k

from_span-is : (make : Span → Span) → ((s : Span) → IsSpan 64 s → IsSpan 64 (make s)) → (k : SpanKind) → IsKind k → IsGiven (from_span make k)
from_span-is make h Unset i = tt
from_span-is make h (Num s) i = h s i
from_span-is make h (Place r s) i = tt

from_spans-is : (make : Span → Span → Span) → ((s t : Span) → IsSpan 64 s → IsSpan 64 t → IsSpan 64 (make s t)) → (a b : SpanKind) → IsKind a → IsKind b → IsGiven (from_spans make a b)
from_spans-is make h Unset b i j = tt
from_spans-is make h (Num s) b i j = from_span-is (make s) (λ t k. h s t i k) b j
from_spans-is make h (Place r s) Unset i j = tt
from_spans-is make h (Place r s) (Num t) i j = tt
from_spans-is make h (Place r s) (Place q t) i j = tt

set_kind-is : (k : SpanKind) → IsKind k → IsGiven (set_kind k)
set_kind-is Unset i = tt
set_kind-is (Num s) i = i
set_kind-is (Place r s) i = i

near_place-is : (r : Region) (s : Reach) → s.lo ≤ℤ s.hi → IsGiven (near_place r s)
near_place-is r s h = by_case (int_le (negsuc 32767) s.lo && int_le s.hi (pos 32767))
  where
    by_case : (t : Bool) → IsGiven (if t then Ok (Place r s) else Err V6)
    by_case true = h
    by_case false = tt

moved_reach-is : (s : Reach) (lo hi : ℤ) → s.lo ≤ℤ s.hi → lo ≤ℤ hi → (moved_reach s lo hi).lo ≤ℤ (moved_reach s lo hi).hi
moved_reach-is s lo hi h k = apart s.lo s.hi lo hi h k
  where
    apart : (w x y z : ℤ) → w ≤ℤ x → y ≤ℤ z → (w +ℤ y) ≤ℤ (x +ℤ z)
    apart w x y z a b = grind (arith, ints)

as_ints : (x y : ℕ) → x ≤ y → pos x ≤ℤ pos y
as_ints x y h = grind (arith, ints)

summed_kind-is : (a b : SpanKind) → IsKind a → IsKind b → IsGiven (summed_kind a b)
summed_kind-is (Num s) (Num t) i j = result_span-is Add 64 s t i j
summed_kind-is (Place r s) (Num t) i j = near_place-is r _ (moved_reach-is s (pos t.lo) (pos t.hi) i (as_ints t.lo t.hi j.some))
summed_kind-is (Num s) (Place r t) i j = near_place-is r _ (moved_reach-is t (pos s.lo) (pos s.hi) j (as_ints s.lo s.hi i.some))
summed_kind-is (Place r s) (Place q t) i j = tt
summed_kind-is Unset b i j = tt
summed_kind-is (Num s) Unset i j = tt
summed_kind-is (Place r s) Unset i j = tt

moved_kind-is : (width : Width) (z : ℤ) (k : SpanKind) → IsKind k → IsGiven (moved_kind width z k)
moved_kind-is width z (Num s) i = wider (bits_of width) _ (few_bits width) (moved_span-is (bits_of width) z (low_span width s) (low_span-is width s i))
moved_kind-is W64 z (Place r s) i = near_place-is r _ (moved_reach-is s z z i (stays z))
  where
    stays : (z : ℤ) → z ≤ℤ z
    stays z = grind (arith, ints)
moved_kind-is W32 z (Place r s) i = tt
moved_kind-is width z Unset i = tt

result_kind-is : (form : AluForm) (a b : SpanKind) → IsKind a → IsKind b → IsGiven (result_kind form a b)
result_kind-is Copies a b i j = set_kind-is b j
result_kind-is Sums a b i j = summed_kind-is a b i j
result_kind-is (Moves width z) a b i j = moved_kind-is width z a i
result_kind-is (Sets width) a b i j = from_span-is (low_span width) (λ s k. wider (bits_of width) _ (few_bits width) (low_span-is width s k)) b j
result_kind-is (Computes op width) a b i j =
    from_spans-is (λ s t. result_span op (bits_of width) (low_span width s) (low_span width t)) (λ s t k l. wider (bits_of width) _ (few_bits width) (result_span-is op (bits_of width) (low_span width s) (low_span width t) (low_span-is width s k) (low_span-is width t l))) a b i j

-- ---- jumps

abbrev IsFull : Option SpanPair → Type 0
IsFull None = Unit {0}
IsFull (Some p) = (p.0.lo ≤ p.0.hi) × (p.1.lo ≤ p.1.hi)

unless_empty-full : (a b : Span) → IsFull (unless_empty a b)
unless_empty-full a b = by_case (nat_le a.lo a.hi && nat_le b.lo b.hi) (λ e. let t = parts (nat_le a.lo a.hi) (nat_le b.lo b.hi) e in (grind (arith, nat_tests, t.0), grind (arith, nat_tests, t.1)))
  where
    by_case : (t : Bool) → (t ≡ true → (a.lo ≤ a.hi) × (b.lo ≤ b.hi)) → IsFull (if t then Some (a, b) else None)
    by_case true k = k refl
    by_case false k = tt

swapped-full : (w : Option SpanPair) → IsFull w → IsFull (option_map swapped w)
swapped-full None h = tt
swapped-full (Some p) h = (h.1, h.0)

where_signed-full : (n : ℕ) (unsigned : Span → Span → Option SpanPair) → ((a b : Span) → IsFull (unsigned a b)) → (a b : Span) → a.lo ≤ a.hi → b.lo ≤ b.hi → IsFull (where_signed n unsigned a b)
where_signed-full n unsigned h a b i j = by_case (nat_lt a.hi (2 ^ (n - 1)))
  where
    by_case : (t : Bool) → IsFull (if t then unsigned a (not_negative n b) else Some (a, b))
    by_case true = h a (not_negative n b)
    by_case false = (i, j)

where_less-full : (a b : Span) → IsFull (where_less a b)
where_less-full a b = unless_empty-full (span a.lo (min a.hi (b.hi - 1))) (span (max b.lo (a.lo + 1)) b.hi)

where_at_most-full : (a b : Span) → IsFull (where_at_most a b)
where_at_most-full a b = unless_empty-full (span a.lo (min a.hi b.hi)) (span (max b.lo a.lo) b.hi)

where_met-full : (condition : Condition) (n : ℕ) (a b : Span) → a.lo ≤ a.hi → b.lo ≤ b.hi → IsFull (where_met condition n a b)
where_met-full Equal n a b i j = (i, j)
where_met-full Set n a b i j = (i, j)
where_met-full NotEqual n a b i j = unless_empty-full (span (if is_one b a.lo then suc a.lo else a.lo) (if is_one b a.hi then a.hi - 1 else a.hi)) b
where_met-full Less n a b i j = where_less-full a b
where_met-full LessEqual n a b i j = where_at_most-full a b
where_met-full Greater n a b i j = swapped-full (where_less b a) (where_less-full b a)
where_met-full GreaterEqual n a b i j = swapped-full (where_at_most b a) (where_at_most-full b a)
where_met-full SignedLess n a b i j = where_signed-full n where_less where_less-full a b i j
where_met-full SignedLessEqual n a b i j = where_signed-full n where_at_most where_at_most-full a b i j
where_met-full SignedGreater n a b i j = swapped-full (where_signed n where_less b a) (where_signed-full n where_less where_less-full b a j i)
where_met-full SignedGreaterEqual n a b i j = swapped-full (where_signed n where_at_most b a) (where_signed-full n where_at_most where_at_most-full b a j i)

abbrev ArePair : Option SpanPair → Type 0
ArePair None = Unit {0}
ArePair (Some p) = IsSpan 64 p.0 × IsSpan 64 p.1

narrower-are : (w : Option SpanPair) (a b : Span) → IsFull w → WithinWay w (Some (a, b)) → IsSpan 64 a → IsSpan 64 b → ArePair w
narrower-are None a b f l i j = tt
narrower-are (Some p) a b f l i j = (record { some = f.0; words = omega (arith, l.0.1, i.words) }, record { some = f.1; words = omega (arith, l.1.1, j.words) })

shown-are : (condition : Option Condition) (n : ℕ) (a b : Span) → IsSpan 64 a → IsSpan 64 b → ArePair (shown condition n a b)
shown-are None n a b i j = (i, j)
shown-are (Some condition) n a b i j = by_case (nat_lt a.hi (2 ^ n) && nat_lt b.hi (2 ^ n))
  where
    by_case : (t : Bool) → ArePair (if t then where_met condition n a b else Some (a, b))
    by_case true = narrower-are (where_met condition n a b) a b (where_met-full condition n a b i.some j.some) (where_met-inside condition n a b a b (omega arith, omega arith) (omega arith, omega arith)) i j
    by_case false = (i, j)

-- ---- frames

-- a frame with another kind in a cell is a frame
pub with_kind-is : (f : Frame) (c : ℕ) (k : SpanKind) → IsFrame f → IsKind k → IsFrame (with_kind f c k)
with_kind-is f c k h i d = by_case (d == c)
  where
    by_case : (t : Bool) → IsKind (if t then k else f d)
    by_case true = i
    by_case false = h d

narrowed_frame-is : (f : Frame) (dst : Reg) (o : Operand) (p : SpanPair) → IsFrame f → IsSpan 64 p.0 → IsSpan 64 p.1 → IsFrame (narrowed_frame f dst o p)
narrowed_frame-is f dst (operand.Imm z) p h i j = with_kind-is f dst.number (Num p.0) h i
narrowed_frame-is f dst (operand.Reg r) p h i j = by_case (dst.number == r.number)
  where
    by_case : (t : Bool) → IsFrame (if t then f else with_kind (with_kind f dst.number (Num p.0)) r.number (Num p.1))
    by_case true = h
    by_case false = with_kind-is (with_kind f dst.number (Num p.0)) r.number (Num p.1) (with_kind-is f dst.number (Num p.0) h i) j

way-is : (f : Frame) (dst : Reg) (o : Operand) (w : Option SpanPair) → IsFrame f → ArePair w → IsWay (option_map (narrowed_frame f dst o) w)
way-is f dst o None h a = tt
way-is f dst o (Some p) h a = narrowed_frame-is f dst o p h a.0 a.1

wiped-is : (f : Frame) (s : Reach) (o : ℤ) (n : ℕ) → IsFrame f → IsFrame (wiped f s o n)
wiped-is f s o n h c = by_case (is_reached s o n c)
  where
    by_case : (t : Bool) → IsKind (if t then Num (whole 64) else f c)
    by_case true = whole-is 64
    by_case false = h c

written_frame-is : (w : Option ℕ) (f : Frame) (k : SpanKind) (s : Reach) (o : ℤ) (n : ℕ) → IsFrame f → IsKind k → IsFrame (written_frame w f k s o n)
written_frame-is (Some c) f k s o n h i = with_kind-is f c k h i
written_frame-is None f k s o n h i = wiped-is f s o n h

stored_frame-is : (f : Frame) (k a : SpanKind) (o : ℤ) (n : ℕ) → IsFrame f → IsKind k → IsFrame (stored_frame f k a o n)
stored_frame-is f k Unset o n h i = h
stored_frame-is f k (Num s) o n h i = h
stored_frame-is f k (Place Message s) o n h i = h
stored_frame-is f k (Place State s) o n h i = h
stored_frame-is f k (Place Stack s) o n h i = written_frame-is (whole_word s o n) f k s o n h i

word_kind-is : (w : Option ℕ) (f : Frame) (n : ℕ) → n ≤ 8 → IsFrame f → IsKind (word_kind w f n)
word_kind-is (Some c) f n l h = h c
word_kind-is None f n l h = wider (8 * n) (whole (8 * n)) (omega arith) (whole-is (8 * n))

loaded_kind-is : (f : Frame) (a : SpanKind) (o : ℤ) (n : ℕ) → n ≤ 8 → IsFrame f → IsKind (loaded_kind f a o n)
loaded_kind-is f Unset o n l h = word_kind-is None f n l h
loaded_kind-is f (Num s) o n l h = word_kind-is None f n l h
loaded_kind-is f (Place Message s) o n l h = word_kind-is None f n l h
loaded_kind-is f (Place State s) o n l h = word_kind-is None f n l h
loaded_kind-is f (Place Stack s) o n l h = word_kind-is (whole_word s o n) f n l h

behind_helper-is : (f : Frame) → IsFrame f → IsFrame (behind_helper f)
behind_helper-is f h c = by_tests (c == 0) (nat_lt c 6)
  where
    by_tests : (t u : Bool) → IsKind (if t then Num (span 0 15) else if u then Unset else f c)
    by_tests true u = record { some = omega arith; words = omega arith }
    by_tests false true = tt
    by_tests false false = h c

-- ---- instructions

one_way : (g : Frame) (w : Ways) → IsFrame g → w ≡ (Some g, None) → IsWay w.0 × IsWay w.1
one_way g w h e = subst (λ (z : Ways). IsWay z.0 × IsWay z.1) (sym e) (h, tt)

jump_way : (g : Frame) (w : Ways) → IsFrame g → w ≡ (None, Some g) → IsWay w.0 × IsWay w.1
jump_way g w h e = subst (λ (z : Ways). IsWay z.0 × IsWay z.1) (sym e) (tt, h)

gives-is : (k : Result SpanKind Rule) (f : Frame) (dst : Reg) (w : Ways) → IsFrame f → IsGiven k → Gives k f dst w → IsWay w.0 × IsWay w.1
gives-is k f dst w h i g = one_way (with_kind f dst.number g.0) w (with_kind-is f dst.number g.0 h (subst IsGiven g.1 i)) g.2

any-is : IsKind (Num (whole 64))
any-is = whole-is 64

pub closed : IsClosed
closed state (Alu op width dst o) f w h l = gives-is _ f dst w h (result_kind-is (alu_form op width o) (f dst.number) (operand_kind width o f) (h dst.number) (operand-is width o f h)) l
closed state (MovSx x dst src) f w h l =
    gives-is _ f dst w h (from_span-is (extended_span (extension_offset x) (bits_of (extension_width x))) (λ s i. extended_span-is (extension_offset x) (bits_of (extension_width x)) s (few_bits (extension_width x)) i) (f src.number) (h src.number)) l
closed state (Neg width dst) f w h l = gives-is _ f dst w h (from_span-is (λ s. whole 64) (λ s i. whole-is 64) (f dst.number) (h dst.number)) l
closed state (End order bits dst) f w h l = gives-is _ f dst w h (from_span-is (λ s. whole 64) (λ s i. whole-is 64) (f dst.number) (h dst.number)) l
closed state (Wide dst value) f w h l = gives-is (Ok (Num (one (value % 2 ^ 64)))) f dst w h (record { some = omega arith; words = mod-lt value (pow_pos 64) }) l
closed state (Jump offset) f w h l = jump_way f w h l
closed state (JumpLong distance) f w h l = jump_way f w h l
closed state (JumpIf condition width dst o offset) f w h l =
    let i : IsSpan 64 l.0 = subst IsKind l.2 (h dst.number) in
    let j : IsSpan 64 l.1 = subst IsKind l.3 (operand-is width o f h) in
    let way = λ (c : Option Condition). way-is f dst o (shown c (bits_of width) l.0 l.1) h (shown-are c (bits_of width) l.0 l.1 i j) in
    subst (λ (z : Ways). IsWay z.0 × IsWay z.1) (sym l.4) (way (opposite condition), way (Some condition))
closed state (Call helper) f w h l = one_way (behind_helper f) w (behind_helper-is f h) l.1
closed state Exit f w h l = subst (λ (z : Ways). IsWay z.0 × IsWay z.1) (sym l.1) (tt, tt)
closed state (Load size dst src offset) f w h l =
    one_way _ w (with_kind-is f dst.number _ h (loaded_kind-is f (f src.number) offset (bytes_in size) (size-is size).1 h)) l.1
closed state (LoadSx size dst src offset) f w h l = one_way _ w (with_kind-is f dst.number (Num (whole 64)) h any-is) l.1
closed state (StoreReg size dst src offset) f w h l =
    one_way _ w (stored_frame-is f (f src.number) (f dst.number) offset (bytes_in size) h (h src.number)) l.1
closed state (StoreImm size dst offset imm) f w h l =
    one_way _ w (stored_frame-is f (operand_kind W64 (operand.Imm imm) f) (f dst.number) offset (bytes_in size) h (operand-is W64 (operand.Imm imm) f h)) l.1
