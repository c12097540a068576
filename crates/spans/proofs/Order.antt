-- The order of kinds and of frames, and what two of them both say.
use Rattle.std.proofs.Common.{◌≡◌, Bool, true, false, ℤ, ◌≤ℤ◌, refl, sym, ◌∙◌, arith}
use Rattle.std.specs.Prelude.{int_le, if◌then◌else◌}
use Rattle.std.proofs.Math.Nat.{le-max_left, le-max_right, le-min, max-le, min-le_left, min-le_right}
use Rattle.std.proofs.lemmas.Int.{ints}
use Rattle.regtypes.specs.declared.frame.Region.TheVariants.{Message, State, Stack}
use Rattle.spans.specs.Span.{IsSpan, Span, Within, joined_span}
use Rattle.spans.specs.Frame.{Frame, IsKind, SpanKind, Leq, LeqKind, Num, Place, Reach, Unset, WithinReach, joined_kind, joined_reach}
use Rattle.spans.specs.Laws.{IsLeastJoin, IsOrder}

pub within-refl : (a : Span) → Within a a
within-refl a = (omega arith, omega arith)

pub within-trans : (a b c : Span) → Within a b → Within b c → Within a c
within-trans a b c l m = (omega (arith, l.0, m.0), omega (arith, l.1, m.1))

reach-refl : (s : Reach) → WithinReach s s
reach-refl s = (grind (arith, ints), grind (arith, ints))

reach-trans : (s t u : Reach) → WithinReach s t → WithinReach t u → WithinReach s u
reach-trans s t u l m = (up u.lo t.lo s.lo m.0 l.0, up s.hi t.hi u.hi l.1 m.1)
  where
    up : (x y z : ℤ) → x ≤ℤ y → y ≤ℤ z → x ≤ℤ z
    up x y z h k = grind (arith, ints)

pub LeqKind-refl : (k : SpanKind) → LeqKind k k
LeqKind-refl Unset = tt
LeqKind-refl (Num s) = within-refl s
LeqKind-refl (Place r s) = (refl, reach-refl s)

pub LeqKind-trans : (a b c : SpanKind) → LeqKind a b → LeqKind b c → LeqKind a c
LeqKind-trans a b Unset l m = tt
LeqKind-trans a Unset (Num u) l m = absurd m
LeqKind-trans Unset (Num t) (Num u) l m = l
LeqKind-trans (Num s) (Num t) (Num u) l m = within-trans s t u l m
LeqKind-trans (Place r s) (Num t) (Num u) l m = l
LeqKind-trans a (Place q t) (Num u) l m = absurd m
LeqKind-trans a Unset (Place q u) l m = absurd m
LeqKind-trans a (Num t) (Place q u) l m = absurd m
LeqKind-trans Unset (Place q t) (Place p u) l m = l
LeqKind-trans (Num s) (Place q t) (Place p u) l m = l
LeqKind-trans (Place r s) (Place q t) (Place p u) l m = (l.0 ∙ m.0, reach-trans s t u l.1 m.1)

pub Leq-refl : (f : Frame) → Leq f f
Leq-refl f c = LeqKind-refl (f c)

pub Leq-trans : (f g h : Frame) → Leq f g → Leq g h → Leq f h
Leq-trans f g h l m c = LeqKind-trans (f c) (g c) (h c) (l c) (m c)

pub is-order : IsOrder
is-order = (Leq-refl, Leq-trans)

-- ---- joins

joined_span-is : (s t : Span) → IsSpan 64 s → IsSpan 64 t → IsSpan 64 (joined_span s t)
joined_span-is s t i j = record { some = omega (arith, i.some, j.some); words = omega (arith, i.words, j.words) }

joined_span-left : (s t : Span) → Within s (joined_span s t)
joined_span-left s t = (min-le_left s.lo t.lo, le-max_left s.hi t.hi)

joined_span-right : (s t : Span) → Within t (joined_span s t)
joined_span-right s t = (min-le_right s.lo t.lo, le-max_right s.hi t.hi)

joined_span-least : (s t u : Span) → Within s u → Within t u → Within (joined_span s t) u
joined_span-least s t u l m = (le-min l.0 m.0, max-le l.1 m.1)

lesser : (x y : ℤ) → ((if int_le x y then x else y) ≤ℤ x) × ((if int_le x y then x else y) ≤ℤ y)
lesser x y = (grind (arith, ints), grind (arith, ints))

greater : (x y : ℤ) → (x ≤ℤ (if int_le x y then y else x)) × (y ≤ℤ (if int_le x y then y else x))
greater x y = (grind (arith, ints), grind (arith, ints))

joined_reach-left : (s t : Reach) → WithinReach s (joined_reach s t)
joined_reach-left s t = ((lesser s.lo t.lo).0, (greater s.hi t.hi).0)

joined_reach-right : (s t : Reach) → WithinReach t (joined_reach s t)
joined_reach-right s t = ((lesser s.lo t.lo).1, (greater s.hi t.hi).1)

joined_reach-least : (s t u : Reach) → WithinReach s u → WithinReach t u → WithinReach (joined_reach s t) u
joined_reach-least s t u l m = (low (int_le s.lo t.lo), high (int_le s.hi t.hi))
  where
    low : (b : Bool) → u.lo ≤ℤ (if b then s.lo else t.lo)
    low true = l.0
    low false = m.0

    high : (b : Bool) → (if b then t.hi else s.hi) ≤ℤ u.hi
    high true = m.1
    high false = l.1

joined_reach-is : (s t : Reach) → s.lo ≤ℤ s.hi → (joined_reach s t).lo ≤ℤ (joined_reach s t).hi
joined_reach-is s t h = let l = joined_reach-left s t in between (joined_reach s t).lo s.lo s.hi (joined_reach s t).hi l.0 h l.1
  where
    between : (w x y z : ℤ) → w ≤ℤ x → x ≤ℤ y → y ≤ℤ z → w ≤ℤ z
    between w x y z a b c = grind (arith, ints)

joined_kind-is : (a b : SpanKind) → IsKind a → IsKind b → IsKind (joined_kind a b)
joined_kind-is (Num s) (Num t) i j = joined_span-is s t i j
joined_kind-is (Place Message s) (Place Message t) i j = joined_reach-is s t i
joined_kind-is (Place State s) (Place State t) i j = joined_reach-is s t i
joined_kind-is (Place Stack s) (Place Stack t) i j = joined_reach-is s t i
joined_kind-is a b i j = tt

joined_kind-left : (a b : SpanKind) → LeqKind a (joined_kind a b)
joined_kind-left (Num s) (Num t) = joined_span-left s t
joined_kind-left (Place Message s) (Place Message t) = (refl, joined_reach-left s t)
joined_kind-left (Place State s) (Place State t) = (refl, joined_reach-left s t)
joined_kind-left (Place Stack s) (Place Stack t) = (refl, joined_reach-left s t)
joined_kind-left a b = tt

joined_kind-right : (a b : SpanKind) → LeqKind b (joined_kind a b)
joined_kind-right (Num s) (Num t) = joined_span-right s t
joined_kind-right (Place Message s) (Place Message t) = (refl, joined_reach-right s t)
joined_kind-right (Place State s) (Place State t) = (refl, joined_reach-right s t)
joined_kind-right (Place Stack s) (Place Stack t) = (refl, joined_reach-right s t)
joined_kind-right a b = tt

joined_kind-least : (a b k : SpanKind) → LeqKind a k → LeqKind b k → LeqKind (joined_kind a b) k
joined_kind-least a b Unset l m = tt
joined_kind-least (Num s) (Num t) (Num u) l m = joined_span-least s t u l m
joined_kind-least Unset b (Num u) l m = absurd l
joined_kind-least (Place r s) b (Num u) l m = absurd l
joined_kind-least (Num s) Unset (Num u) l m = absurd m
joined_kind-least (Num s) (Place q t) (Num u) l m = absurd m
joined_kind-least Unset b (Place p u) l m = absurd l
joined_kind-least (Num s) b (Place p u) l m = absurd l
joined_kind-least (Place r s) Unset (Place p u) l m = absurd m
joined_kind-least (Place r s) (Num t) (Place p u) l m = absurd m
joined_kind-least (Place Message s) (Place Message t) (Place p u) l m = (l.0, joined_reach-least s t u l.1 m.1)
joined_kind-least (Place State s) (Place State t) (Place p u) l m = (l.0, joined_reach-least s t u l.1 m.1)
joined_kind-least (Place Stack s) (Place Stack t) (Place p u) l m = (l.0, joined_reach-least s t u l.1 m.1)
joined_kind-least (Place Message s) (Place State t) (Place p u) l m = let e : Message ≡ State = l.0 ∙ sym m.0 in cc
joined_kind-least (Place Message s) (Place Stack t) (Place p u) l m = let e : Message ≡ Stack = l.0 ∙ sym m.0 in cc
joined_kind-least (Place State s) (Place Message t) (Place p u) l m = let e : State ≡ Message = l.0 ∙ sym m.0 in cc
joined_kind-least (Place State s) (Place Stack t) (Place p u) l m = let e : State ≡ Stack = l.0 ∙ sym m.0 in cc
joined_kind-least (Place Stack s) (Place Message t) (Place p u) l m = let e : Stack ≡ Message = l.0 ∙ sym m.0 in cc
joined_kind-least (Place Stack s) (Place State t) (Place p u) l m = let e : Stack ≡ State = l.0 ∙ sym m.0 in cc

pub is-least-join : IsLeastJoin
is-least-join = (
  (λ f g i j c. joined_kind-is (f c) (g c) (i c) (j c)),
  (λ f g. ((λ c. joined_kind-left (f c) (g c)), (λ c. joined_kind-right (f c) (g c)))),
  (λ f g h l m c. joined_kind-least (f c) (g c) (h c) (l c) (m c)),
)
