-- The local rules are monotone.
use Rattle.std.proofs.Common.{◌≡◌, ℕ, zero, suc, ◌+◌, ◌-◌, ◌*◌, ◌%◌, ◌^◌, ◌<◌, ◌≤◌, min, Bool, true, false, Option, Some, None, ℤ, pos, negsuc, ◌+ℤ◌, ◌≤ℤ◌, ◌<ℤ◌, refl, sym, ap, subst, arith}
use Rattle.std.specs.Prelude.{Result, Ok, Err, nat_lt, nat_le, int_le, ◌&&◌, ◌==◌, if◌then◌else◌}
use Rattle.std.specs.Option.{option_map}
use Rattle.std.proofs.lemmas.Bool.{false≢true}
use Rattle.std.proofs.lemmas.Bool.Decides.{nat_tests}
use Rattle.std.proofs.lemmas.Int.{ints}
use Rattle.std.proofs.lemmas.Nat.{pow_pos}
use Rattle.std.proofs.Math.Nat.{mod-lt}
use Rattle.decode.specs.declared.insn.Reg.{Reg}
use Rattle.decode.specs.declared.insn.AluOp.TheVariants as alu
use Rattle.decode.specs.declared.insn.Width.{Width}
use Rattle.decode.specs.declared.insn.Width.TheVariants.{W32, W64}
use Rattle.decode.specs.declared.insn.Condition.{Condition}
use Rattle.decode.specs.declared.insn.Operand.{Operand}
use Rattle.decode.specs.declared.insn.Operand.TheVariants as operand
use Rattle.decode.specs.declared.insn.Extension.{Extension}
use Rattle.decode.specs.declared.insn.Extension.TheVariants.{W32From8, W32From16, W64From8, W64From16, W64From32}
use Rattle.decode.specs.declared.insn.Insn.TheVariants.{Alu, MovSx, Neg, End, Jump, JumpLong, JumpIf, Call, Exit, Load, LoadSx, StoreReg, StoreImm, Wide}
use Rattle.decode.specs.Encoding.{bytes_in, loaded, extension_offset, extension_width}
use Rattle.operations.specs.Words.{bits_of, word_of}
use Rattle.regtypes.specs.declared.frame.Region.{Region}
use Rattle.regtypes.specs.declared.rule.Rule.{Rule}
use Rattle.regtypes.specs.declared.rule.Rule.TheVariants.{V6}
use Rattle.spans.specs.Span.{IsSpan, Span, Within, one, result_span, span, whole}
use Rattle.spans.specs.Narrowing.{SpanPair, opposite, shown, where_met}
use Rattle.spans.specs.Frame.{Frame, IsFrame, IsKind, SpanKind, Leq, LeqKind, Num, Place, Reach, Unset, WithinReach, with_kind}
use Rattle.spans.specs.Access.{is_inside, is_reached, loaded_kind, region_size, stored_frame}
use Rattle.spans.specs.Ways.{AluForm, Computes, Copies, Gives, HasArguments, HasPayload, HasSized, LeqWay, Moves, Sets, Sums, Ways, alu_form, behind_helper, extended_span, from_span, from_spans, low_span, moved_kind, moved_reach, moved_span, narrowed_frame, near_place, operand_kind, result_kind, set_kind, summed_kind, way}
use Rattle.spans.specs.Laws.{IsMonotone}
use Rattle.spans.proofs.Tests.{parts, both}
use Rattle.spans.proofs.Order.{within-refl}
use Rattle.spans.proofs.Growth.{by_tests, bounded-grows, powers, in_whole, result_span-grows}
use Rattle.spans.proofs.Narrowing.{WithinWay, where_met-narrows, where_met-inside}
use Rattle.spans.proofs.Access.{is_inside-grows, numbers-grow, num-grows, with_kind-grows, reaches, reached_by, loads-grow, stores-grow}

-- what the weaker frame gives the stronger one gives too, and says no less
abbrev Refines : Result SpanKind Rule → Result SpanKind Rule → Type 0
Refines v (Err r) = Unit {0}
Refines (Err r) (Ok h) = ⊥
Refines (Ok k) (Ok h) = LeqKind k h

-- a kind that says more than a span of numbers is a span within it
pub num_shape : (a : SpanKind) (t : Span) → LeqKind a (Num t) → (s : Span) × (a ≡ Num s) × Within s t
num_shape Unset t l = absurd l
num_shape (Num s) t l = (s, refl, l)
num_shape (Place r s) t l = absurd l

place_shape : (a : SpanKind) (q : Region) (t : Reach) → LeqKind a (Place q t) → (s : Reach) × (a ≡ Place q s) × WithinReach s t
place_shape Unset q t l = absurd l
place_shape (Num s) q t l = absurd l
place_shape (Place r s) q t l = (s, ap (λ x. Place x s) l.0, l.1)

-- ---- arithmetic

pub low_span-grows : (width : Width) (s t : Span) → Within s t → Within (low_span width s) (low_span width t)
low_span-grows W32 s t l = bounded-grows 32 s.lo s.hi t.lo t.hi l.0 l.1
low_span-grows W64 s t l = l

-- of a span of words, the span of their low bits has words of the width
pub low_span-is : (width : Width) (s : Span) → IsSpan 64 s → IsSpan (bits_of width) (low_span width s)
low_span-is W32 s i = by_test (nat_lt s.hi (2 ^ 32)) (λ e. grind (arith, nat_tests))
  where
    by_test : (t : Bool) → (t ≡ true → s.hi < 2 ^ 32) → IsSpan 32 (if t then span s.lo s.hi else whole 32)
    by_test true k = record { some = i.some; words = k refl }
    by_test false k = record { some = omega arith; words = omega arith }
low_span-is W64 s i = i

pub moved_span-grows : (n : ℕ) (z : ℤ) (s t : Span) → IsSpan n s → Within s t → Within (moved_span n z s) (moved_span n z t)
moved_span-grows n (pos m) s t i l = bounded-grows n (s.lo + m) (s.hi + m) (t.lo + m) (t.hi + m) (omega (arith, l.0)) (omega (arith, l.1))
moved_span-grows n (negsuc m) s t i l =
    by_tests (nat_le (suc m) s.lo) (nat_le (suc m) t.lo) n (span (s.lo - suc m) (s.hi - suc m)) (span (t.lo - suc m) (t.hi - suc m)) (λ e. grind (arith, nat_tests, l.0)) (λ e. in_whole n (s.lo - suc m) (s.hi - suc m) (omega (arith, i.words))) (λ e. (omega (arith, l.0), omega (arith, l.1)))

near_place-refines : (r : Region) (s t : Reach) → WithinReach s t → Refines (near_place r s) (near_place r t)
near_place-refines r s t l = by_two (int_le (negsuc 32767) s.lo && int_le s.hi (pos 32767)) (int_le (negsuc 32767) t.lo && int_le t.hi (pos 32767)) nearer
  where
    nearer : (int_le (negsuc 32767) t.lo && int_le t.hi (pos 32767)) ≡ true → (int_le (negsuc 32767) s.lo && int_le s.hi (pos 32767)) ≡ true
    nearer e = let p = parts (int_le (negsuc 32767) t.lo) (int_le t.hi (pos 32767)) e in both (int_le (negsuc 32767) s.lo) (int_le s.hi (pos 32767)) (grind (arith, ints, p.0, l.0)) (grind (arith, ints, p.1, l.1))

    by_two : (u v : Bool) → (v ≡ true → u ≡ true) → Refines (if u then Ok (Place r s) else Err V6) (if v then Ok (Place r t) else Err V6)
    by_two true true k = (refl, l)
    by_two true false k = tt
    by_two false true k = absurd (false≢true (k refl))
    by_two false false k = tt

further : (x y u v : ℤ) → x ≤ℤ y → u ≤ℤ v → (x +ℤ u) ≤ℤ (y +ℤ v)
further x y u v h k = grind (arith, ints)

as_ints : (x y : ℕ) → x ≤ y → pos x ≤ℤ pos y
as_ints x y h = grind (arith, ints)

moved_reach-grows : (s t : Reach) (a b c d : ℤ) → WithinReach s t → c ≤ℤ a → b ≤ℤ d → WithinReach (moved_reach s a b) (moved_reach t c d)
moved_reach-grows s t a b c d l h k = (further t.lo s.lo c a l.0 h, further s.hi t.hi b d l.1 k)

set_kind-refines : (a b : SpanKind) → LeqKind a b → Refines (set_kind a) (set_kind b)
set_kind-refines a Unset l = tt
set_kind-refines Unset (Num t) l = l
set_kind-refines (Num s) (Num t) l = l
set_kind-refines (Place r s) (Num t) l = l
set_kind-refines Unset (Place q t) l = l
set_kind-refines (Num s) (Place q t) l = l
set_kind-refines (Place r s) (Place q t) l = l

summed_kind-refines : (a b c d : SpanKind) → LeqKind a c → LeqKind b d → IsKind a → IsKind b → IsKind c → IsKind d → Refines (summed_kind a b) (summed_kind c d)
summed_kind-refines a b (Num t) (Num u) l m ia ib ic id =
    let x = num_shape a t l in
    let y = num_shape b u m in
    subst (λ k. Refines (summed_kind k b) (Ok (Num (result_span alu.Add 64 t u)))) (sym x.1) (subst (λ k. Refines (summed_kind (Num x.0) k) (Ok (Num (result_span alu.Add 64 t u)))) (sym y.1) (bounded-grows 64 (x.0.lo + y.0.lo) (x.0.hi + y.0.hi) (t.lo + u.lo) (t.hi + u.hi) (omega (arith, x.2.0, y.2.0)) (omega (arith, x.2.1, y.2.1))))
summed_kind-refines a b (Place q t) (Num u) l m ia ib ic id =
    let x = place_shape a q t l in
    let y = num_shape b u m in
    subst (λ k. Refines (summed_kind k b) (near_place q (moved_reach t (pos u.lo) (pos u.hi)))) (sym x.1) (subst (λ k. Refines (summed_kind (Place q x.0) k) (near_place q (moved_reach t (pos u.lo) (pos u.hi)))) (sym y.1) (near_place-refines q _ _ (moved_reach-grows x.0 t (pos y.0.lo) (pos y.0.hi) (pos u.lo) (pos u.hi) x.2 (as_ints u.lo y.0.lo y.2.0) (as_ints y.0.hi u.hi y.2.1))))
summed_kind-refines a b (Num t) (Place q u) l m ia ib ic id =
    let x = num_shape a t l in
    let y = place_shape b q u m in
    subst (λ k. Refines (summed_kind k b) (near_place q (moved_reach u (pos t.lo) (pos t.hi)))) (sym x.1) (subst (λ k. Refines (summed_kind (Num x.0) k) (near_place q (moved_reach u (pos t.lo) (pos t.hi)))) (sym y.1) (near_place-refines q _ _ (moved_reach-grows y.0 u (pos x.0.lo) (pos x.0.hi) (pos t.lo) (pos t.hi) y.2 (as_ints t.lo x.0.lo x.2.0) (as_ints x.0.hi t.hi x.2.1))))
summed_kind-refines a b (Place q t) (Place q' u) l m ia ib ic id = tt
summed_kind-refines a b Unset d l m ia ib ic id = tt
summed_kind-refines a b (Num t) Unset l m ia ib ic id = tt
summed_kind-refines a b (Place q t) Unset l m ia ib ic id = tt

moved_kind-refines : (width : Width) (z : ℤ) (a c : SpanKind) → LeqKind a c → IsKind a → Refines (moved_kind width z a) (moved_kind width z c)
moved_kind-refines width z a Unset l i = tt
moved_kind-refines width z Unset (Num t) l i = absurd l
moved_kind-refines width z (Num s) (Num t) l i = moved_span-grows (bits_of width) z (low_span width s) (low_span width t) (low_span-is width s i) (low_span-grows width s t l)
moved_kind-refines width z (Place r s) (Num t) l i = absurd l
moved_kind-refines W32 z a (Place q t) l i = tt
moved_kind-refines W64 z a (Place q t) l i =
    let x = place_shape a q t l in
    subst (λ k. Refines (moved_kind W64 z k) (near_place q (moved_reach t z z))) (sym x.1) (near_place-refines q _ _ (moved_reach-grows x.0 t z z z z x.2 (grind (arith, ints)) (grind (arith, ints))))

from_span-refines : (f : Span → Span) → ((s t : Span) → IsSpan 64 s → IsSpan 64 t → Within s t → Within (f s) (f t)) → (a c : SpanKind) → IsKind a → IsKind c → LeqKind a c → Refines (from_span f a) (from_span f c)
from_span-refines f h a Unset i j l = tt
from_span-refines f h a (Place q t) i j l = tt
from_span-refines f h Unset (Num t) i j l = absurd l
from_span-refines f h (Num s) (Num t) i j l = h s t i j l
from_span-refines f h (Place r s) (Num t) i j l = absurd l

from_spans-refines : (f : Span → Span → Span) → ((s t u v : Span) → IsSpan 64 s → IsSpan 64 t → IsSpan 64 u → IsSpan 64 v → Within s u → Within t v → Within (f s t) (f u v)) → (a b c d : SpanKind) → IsKind a → IsKind b → IsKind c → IsKind d → LeqKind a c → LeqKind b d → Refines (from_spans f a b) (from_spans f c d)
from_spans-refines f h a b Unset d ia ib ic id l m = tt
from_spans-refines f h a b (Place q t) Unset ia ib ic id l m = tt
from_spans-refines f h a b (Place q t) (Num u) ia ib ic id l m = tt
from_spans-refines f h a b (Place q t) (Place q' u) ia ib ic id l m = tt
from_spans-refines f h Unset b (Num u) d ia ib ic id l m = absurd l
from_spans-refines f h (Place r s) b (Num u) d ia ib ic id l m = absurd l
from_spans-refines f h (Num s) b (Num u) Unset ia ib ic id l m = tt
from_spans-refines f h (Num s) b (Num u) (Place q v) ia ib ic id l m = tt
from_spans-refines f h (Num s) Unset (Num u) (Num v) ia ib ic id l m = absurd m
from_spans-refines f h (Num s) (Num t) (Num u) (Num v) ia ib ic id l m = h s t u v ia ib ic id l m
from_spans-refines f h (Num s) (Place r t) (Num u) (Num v) ia ib ic id l m = absurd m

pub some_bits : (width : Width) → 0 < bits_of width
some_bits W32 = omega arith
some_bits W64 = omega arith

computed-refines : (form : AluForm) (a b c d : SpanKind) → IsKind a → IsKind b → IsKind c → IsKind d → LeqKind a c → LeqKind b d → Refines (result_kind form a b) (result_kind form c d)
computed-refines Copies a b c d ia ib ic id l m = set_kind-refines b d m
computed-refines Sums a b c d ia ib ic id l m = summed_kind-refines a b c d l m ia ib ic id
computed-refines (Moves width z) a b c d ia ib ic id l m = moved_kind-refines width z a c l ia
computed-refines (Sets width) a b c d ia ib ic id l m = from_span-refines (low_span width) (λ s t i j k. low_span-grows width s t k) b d ib id m
computed-refines (Computes op width) a b c d ia ib ic id l m =
    from_spans-refines (λ s t. result_span op (bits_of width) (low_span width s) (low_span width t)) (λ s t u v is it iu iv h k. result_span-grows op (bits_of width) (low_span width s) (low_span width t) (low_span width u) (low_span width v) (some_bits width) (low_span-is width s is) (low_span-is width t it) (low_span-is width u iu) (low_span-is width v iv) (low_span-grows width s u h) (low_span-grows width t v k)) a b c d ia ib ic id l m

-- what a frame knows of an operand is a kind with a number or a place in it
pub operand-is : (width : Width) (o : Operand) (f : Frame) → IsFrame f → IsKind (operand_kind width o f)
operand-is W32 (operand.Imm z) f i = let h = mod-lt (word_of z) (pow_pos 32) in record { some = omega arith; words = omega (arith, h) }
operand-is W64 (operand.Imm z) f i = record { some = omega arith; words = mod-lt (word_of z) (pow_pos 64) }
operand-is width (operand.Reg r) f i = i r.number

operand-grows : (width : Width) (o : Operand) (f g : Frame) → Leq f g → LeqKind (operand_kind width o f) (operand_kind width o g)
operand-grows width (operand.Imm z) f g l = (omega arith, omega arith)
operand-grows width (operand.Reg r) f g l = l r.number

-- the bits that are extended are no more than the width has
pub extension-fits : (x : Extension) → extension_offset x ≤ bits_of (extension_width x)
extension-fits W32From8 = omega arith
extension-fits W32From16 = omega arith
extension-fits W64From8 = omega arith
extension-fits W64From16 = omega arith
extension-fits W64From32 = omega arith

extended_span-grows : (k n : ℕ) (s t : Span) → k ≤ n → Within s t → Within (extended_span k n s) (extended_span k n t)
extended_span-grows k n s t h l = let wide : 2 ^ (k - 1) ≤ 2 ^ n = powers (k - 1) n (omega arith) in by_tests (nat_lt s.hi (2 ^ (k - 1))) (nat_lt t.hi (2 ^ (k - 1))) n s t (λ e. grind (arith, nat_tests, l.1)) (λ e. (omega arith, below (grind (arith, nat_tests)) wide)) (λ e. l)
  where
    below : s.hi < 2 ^ (k - 1) → 2 ^ (k - 1) ≤ 2 ^ n → s.hi ≤ 2 ^ n - 1
    below h w = omega arith

gives-grows : (f g : Frame) (dst : Reg) (v u : Result SpanKind Rule) (w : Ways) → Leq f g → Refines v u → Gives u g dst w → (x : Ways) × (Gives v f dst x × (LeqWay x.0 w.0 × LeqWay x.1 w.1))
gives-grows f g dst (Err q) u w l r h = absurd (subst (λ z. Refines (Err q) z) h.1 r)
gives-grows f g dst (Ok k) u w l r h =
    let lk : LeqKind k h.0 = subst (λ z. Refines (Ok k) z) h.1 r in
    ((Some (with_kind f dst.number k), None), ((k, refl, refl), subst (λ (z : Ways). LeqWay (Some (with_kind f dst.number k)) z.0 × LeqWay None z.1) (sym h.2) (with_kind-grows f g dst.number k h.0 l lk, tt)))

-- ---- jumps

shown-narrows : (condition : Option Condition) (n : ℕ) (a b c d : Span) → 0 < n → IsSpan 64 a → IsSpan 64 b → IsSpan 64 c → IsSpan 64 d → Within a c → Within b d → WithinWay (shown condition n a b) (shown condition n c d)
shown-narrows None n a b c d p ia ib ic id l m = (l, m)
shown-narrows (Some condition) n a b c d p ia ib ic id l m =
    by_two (nat_lt a.hi (2 ^ n) && nat_lt b.hi (2 ^ n)) (nat_lt c.hi (2 ^ n) && nat_lt d.hi (2 ^ n)) (λ e. let t = parts (nat_lt c.hi (2 ^ n)) (nat_lt d.hi (2 ^ n)) e in both (nat_lt a.hi (2 ^ n)) (nat_lt b.hi (2 ^ n)) (grind (arith, nat_tests, t.0, l.1)) (grind (arith, nat_tests, t.1, m.1))) (λ e. let t = parts (nat_lt c.hi (2 ^ n)) (nat_lt d.hi (2 ^ n)) e in (grind (arith, nat_tests, t.0), grind (arith, nat_tests, t.1)))
  where
    by_two : (u v : Bool) → (v ≡ true → u ≡ true) → (v ≡ true → (c.hi < 2 ^ n) × (d.hi < 2 ^ n)) → WithinWay (if u then where_met condition n a b else Some (a, b)) (if v then where_met condition n c d else Some (c, d))
    by_two true true k w = let x = w refl in where_met-narrows condition n a b c d p (record { some = ia.some; words = omega (arith, x.0, l.1) }) (record { some = ib.some; words = omega (arith, x.1, m.1) }) (record { some = ic.some; words = x.0 }) (record { some = id.some; words = x.1 }) l m
    by_two true false k w = where_met-inside condition n a b c d l m
    by_two false true k w = absurd (false≢true (k refl))
    by_two false false k w = (l, m)

narrowed_frame-grows : (f g : Frame) (dst : Reg) (o : Operand) (p q : SpanPair) → Leq f g → Within p.0 q.0 → Within p.1 q.1 → Leq (narrowed_frame f dst o p) (narrowed_frame g dst o q)
narrowed_frame-grows f g dst (operand.Imm z) p q l h k = with_kind-grows f g dst.number (Num p.0) (Num q.0) l h
narrowed_frame-grows f g dst (operand.Reg r) p q l h k = by_test (dst.number == r.number)
  where
    by_test : (t : Bool) → Leq (if t then f else with_kind (with_kind f dst.number (Num p.0)) r.number (Num p.1)) (if t then g else with_kind (with_kind g dst.number (Num q.0)) r.number (Num q.1))
    by_test true = l
    by_test false = with_kind-grows (with_kind f dst.number (Num p.0)) (with_kind g dst.number (Num q.0)) r.number (Num p.1) (Num q.1) (with_kind-grows f g dst.number (Num p.0) (Num q.0) l h) k

way-grows : (f g : Frame) (dst : Reg) (o : Operand) (v w : Option SpanPair) → Leq f g → WithinWay v w → LeqWay (option_map (narrowed_frame f dst o) v) (option_map (narrowed_frame g dst o) w)
way-grows f g dst o None w l h = tt
way-grows f g dst o (Some p) None l h = h
way-grows f g dst o (Some p) (Some q) l h = narrowed_frame-grows f g dst o p q l h.0 h.1

-- ---- helpers

is_reached-grows : (s : Reach) (o : ℤ) (n m c : ℕ) → n ≤ m → is_reached s o n c ≡ true → is_reached s o m c ≡ true
is_reached-grows s o n m c h e =
    let r = reaches s o n c e in
    reached_by s o m c (record { some = omega (arith, r.some); cell = r.cell; begins = longer (pos (8 * (c - 11))) (s.hi +ℤ o) n m h r.begins; ends = r.ends })
  where
    longer : (x u : ℤ) (n m : ℕ) → n ≤ m → x <ℤ (u +ℤ pos n) → x <ℤ (u +ℤ pos m)
    longer x u n m h k = grind (arith, ints)

is_inside-shrinks : (len : ℕ) (s : Reach) (o : ℤ) (n m : ℕ) → n ≤ m → is_inside len s o m ≡ true → is_inside len s o n ≡ true
is_inside-shrinks len s o n m h e =
    let p = parts (int_le (pos 0) (s.lo +ℤ o)) (int_le (s.hi +ℤ o +ℤ pos m) (pos len)) e in
    both (int_le (pos 0) (s.lo +ℤ o)) (int_le (s.hi +ℤ o +ℤ pos n) (pos len)) p.0 (shorter (s.hi +ℤ o) (pos len) n m h p.1)
  where
    shorter : (u v : ℤ) (n m : ℕ) → n ≤ m → int_le (u +ℤ pos m) v ≡ true → int_le (u +ℤ pos n) v ≡ true
    shorter u v n m h k = grind (arith, ints)

payload-grows : (state : ℕ) (f g : Frame) (a b : SpanKind) (n m : ℕ) → Leq f g → LeqKind a b → n ≤ m → HasPayload state g b m → HasPayload state f a n
payload-grows state f g a Unset n m l la h e = absurd e
payload-grows state f g a (Num t) n m l la h e = absurd e
payload-grows state f g a (Place q t) n m l la h e =
    let x = place_shape a q t la in
    subst (λ k. HasPayload state f k n) (sym x.1) (is_inside-shrinks (region_size state q) x.0 (pos 0) n m h (is_inside-grows (region_size state q) x.0 t (pos 0) m x.2 e.0), λ stack c r. numbers-grow f g x.0 t (pos 0) m l x.2 (e.1 stack) c (is_reached-grows x.0 (pos 0) n m c h r))

sized-grows : (state : ℕ) (f g : Frame) (a b c d : SpanKind) → Leq f g → LeqKind a b → LeqKind c d → HasSized state g b d → HasSized state f a c
sized-grows state f g a b c Unset l la lc e = absurd e
sized-grows state f g a b c (Place q t) l la lc e = absurd e
sized-grows state f g a b c (Num t) l la lc e =
    let x = num_shape c t lc in
    subst (λ k. HasSized state f a k) (sym x.1) (payload-grows state f g a b (min x.0.hi 256) (min t.hi 256) l la (omega (arith, x.2.1)) e)

helps-grow : (state : ℕ) (f g : Frame) (z : ℤ) → Leq f g → HasArguments state g z → HasArguments state f z
helps-grow state f g (pos zero) l e = absurd e
helps-grow state f g (pos (suc zero)) l e = (num-grows (f 1) (g 1) (l 1) e.0, payload-grows state f g (f 2) (g 2) 64 64 l (l 2) (omega arith) e.1)
helps-grow state f g (pos (suc (suc zero))) l e = payload-grows state f g (f 1) (g 1) 64 64 l (l 1) (omega arith) e
helps-grow state f g (pos (suc (suc (suc zero)))) l e = tt
helps-grow state f g (pos (suc (suc (suc (suc zero))))) l e = tt
helps-grow state f g (pos (suc (suc (suc (suc (suc zero)))))) l e = (num-grows (f 1) (g 1) (l 1) e.0, sized-grows state f g (f 2) (g 2) (f 3) (g 3) l (l 2) (l 3) e.1)
helps-grow state f g (pos (suc (suc (suc (suc (suc (suc zero))))))) l e = sized-grows state f g (f 1) (g 1) (f 2) (g 2) l (l 1) (l 2) e
helps-grow state f g (pos (suc (suc (suc (suc (suc (suc (suc n)))))))) l e = absurd e
helps-grow state f g (negsuc n) l e = absurd e

behind_helper-grows : (f g : Frame) → Leq f g → Leq (behind_helper f) (behind_helper g)
behind_helper-grows f g l c = by_two (c == 0) (nat_lt c 6)
  where
    by_two : (t u : Bool) → LeqKind (if t then Num (span 0 15) else if u then Unset else f c) (if t then Num (span 0 15) else if u then Unset else g c)
    by_two true u = (omega arith, omega arith)
    by_two false true = tt
    by_two false false = l c

-- ---- instructions

-- one frame leaves to the instruction behind
passes : (f' g' : Frame) (w : Ways) → Leq f' g' → w ≡ (Some g', None) → LeqWay (Some f') w.0 × LeqWay None w.1
passes f' g' w l e = subst (λ (z : Ways). LeqWay (Some f') z.0 × LeqWay None z.1) (sym e) (l, tt)

jumps : (f g : Frame) (w : Ways) → Leq f g → w ≡ (None, Some g) → LeqWay None w.0 × LeqWay (Some f) w.1
jumps f g w l e = subst (λ (z : Ways). LeqWay None z.0 × LeqWay (Some f) z.1) (sym e) (tt, l)

pub monotone : IsMonotone
monotone state (Alu op width dst o) f g w p q l h =
    gives-grows f g dst (result_kind (alu_form op width o) (f dst.number) (operand_kind width o f)) (result_kind (alu_form op width o) (g dst.number) (operand_kind width o g)) w l (computed-refines (alu_form op width o) (f dst.number) (operand_kind width o f) (g dst.number) (operand_kind width o g) (p dst.number) (operand-is width o f p) (q dst.number) (operand-is width o g q) (l dst.number) (operand-grows width o f g l)) h
monotone state (MovSx x dst src) f g w p q l h =
    gives-grows f g dst _ _ w l (from_span-refines (extended_span (extension_offset x) (bits_of (extension_width x))) (λ s t i j k. extended_span-grows (extension_offset x) (bits_of (extension_width x)) s t (extension-fits x) k) (f src.number) (g src.number) (p src.number) (q src.number) (l src.number)) h
monotone state (Neg width dst) f g w p q l h =
    gives-grows f g dst _ _ w l (from_span-refines (λ s. whole 64) (λ s t i j k. within-refl (whole 64)) (f dst.number) (g dst.number) (p dst.number) (q dst.number) (l dst.number)) h
monotone state (End order bits dst) f g w p q l h =
    gives-grows f g dst _ _ w l (from_span-refines (λ s. whole 64) (λ s t i j k. within-refl (whole 64)) (f dst.number) (g dst.number) (p dst.number) (q dst.number) (l dst.number)) h
monotone state (Wide dst value) f g w p q l h = gives-grows f g dst (Ok (Num (one (value % 2 ^ 64)))) (Ok (Num (one (value % 2 ^ 64)))) w l (within-refl (one (value % 2 ^ 64))) h
monotone state (Jump offset) f g w p q l h = ((None, Some f), (refl, jumps f g w l h))
monotone state (JumpLong distance) f g w p q l h = ((None, Some f), (refl, jumps f g w l h))
monotone state (JumpIf condition width dst o offset) f g w p q l h =
    let x = num_shape (f dst.number) h.0 (subst (LeqKind (f dst.number)) h.2 (l dst.number)) in
    let y = num_shape (operand_kind width o f) h.1 (subst (LeqKind (operand_kind width o f)) h.3 (operand-grows width o f g l)) in
    let ia : IsSpan 64 x.0 = subst IsKind x.1 (p dst.number) in
    let ib : IsSpan 64 y.0 = subst IsKind y.1 (operand-is width o f p) in
    let ic : IsSpan 64 h.0 = subst IsKind h.2 (q dst.number) in
    let id : IsSpan 64 h.1 = subst IsKind h.3 (operand-is width o g q) in
    let leaves = λ (c : Option Condition). way-grows f g dst o (shown c (bits_of width) x.0 y.0) (shown c (bits_of width) h.0 h.1) l (shown-narrows c (bits_of width) x.0 y.0 h.0 h.1 (some_bits width) ia ib ic id x.2 y.2) in
    let next = way (opposite condition) width dst o f x.0 y.0 in
    let taken = way (Some condition) width dst o f x.0 y.0 in
    ((next, taken), ((x.0, y.0, x.1, y.1, refl), subst (λ (z : Ways). LeqWay next z.0 × LeqWay taken z.1) (sym h.4) (leaves (opposite condition), leaves (Some condition))))
monotone state (Call helper) f g w p q l h = ((Some (behind_helper f), None), ((helps-grow state f g helper l h.0, refl), passes (behind_helper f) (behind_helper g) w (behind_helper-grows f g l) h.1))
monotone state Exit f g w p q l h = ((None, None), ((num-grows (f 0) (g 0) (l 0) h.0, refl), (tt, tt)))
monotone state (Load size dst src offset) f g w p q l h =
    let r = loads-grow state f g (f src.number) (g src.number) offset (bytes_in size) p (p src.number) l (l src.number) h.0 in
    ((Some (with_kind f dst.number (loaded_kind f (f src.number) offset (bytes_in size))), None), ((r.0, refl), passes _ _ w (with_kind-grows f g dst.number _ _ l r.1) h.1))
monotone state (LoadSx size dst src offset) f g w p q l h =
    let r = loads-grow state f g (f src.number) (g src.number) offset (bytes_in (loaded size)) p (p src.number) l (l src.number) h.0 in
    ((Some (with_kind f dst.number (Num (whole 64))), None), ((r.0, refl), passes _ _ w (with_kind-grows f g dst.number (Num (whole 64)) (Num (whole 64)) l (within-refl (whole 64))) h.1))
monotone state (StoreReg size dst src offset) f g w p q l h =
    let r = stores-grow state f g (f src.number) (g src.number) (f dst.number) (g dst.number) offset (bytes_in size) p (p src.number) (p dst.number) l (l src.number) (l dst.number) h.0 in
    ((Some (stored_frame f (f src.number) (f dst.number) offset (bytes_in size)), None), ((r.0, refl), passes _ _ w r.1 h.1))
monotone state (StoreImm size dst offset imm) f g w p q l h =
    let k = Num (one (word_of imm % 2 ^ 64)) in
    let r = stores-grow state f g k k (f dst.number) (g dst.number) offset (bytes_in size) p (operand-is W64 (operand.Imm imm) f p) (p dst.number) l (within-refl (one (word_of imm % 2 ^ 64))) (l dst.number) h.0 in
    ((Some (stored_frame f k (f dst.number) offset (bytes_in size)), None), ((r.0, refl), passes _ _ w r.1 h.1))
