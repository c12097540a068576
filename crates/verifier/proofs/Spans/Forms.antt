-- Form 3 keeps the laws that make one pass decide.
use Rattle.std.proofs.Common.{◌≡◌, ℕ, ◌+◌, ◌≤◌, ◌≤ℤ◌, ℤ, List, length, Option, Some, None, refl, ap, ◌∙◌, subst, arith}
use Rattle.std.specs.Option.{option_and_then, option_or}
use Rattle.std.proofs.lemmas.Int.{ints}
use Rattle.decode.specs.declared.insn.Insn.{Insn}
use Rattle.decode.specs.Slots.{insn_at, size_of}
use Rattle.regtypes.specs.declared.rule.Rule.{Rule}
use Rattle.decode.specs.Flow.{flow_of}
use Rattle.regtypes.specs.Rules.{first_broken}
use Rattle.regtypes.specs.Typing.{flow_tests}
use Rattle.regtypes.proofs.Typings.{within}
use Rattle.regtypes.proofs.Monotone.{both_none}
use Rattle.spans.specs.declared.span.Span.{Span}
use Rattle.spans.specs.declared.kind.Reach.{Reach}
use Rattle.spans.specs.declared.kind.SpanKind.{SpanKind}
use Rattle.spans.specs.declared.kind.SpanKind.TheVariants.{Unset, Num, Place}
use Rattle.spans.specs.Frame.{Frame, IsFrame, Leq, LeqKind}
use Rattle.spans.specs.Ways.{LeqWay, Ways}
use Rattle.spans.proofs.Order.{Leq-refl, Leq-trans}
use Rattle.spans.proofs.Monotone.{monotone}
use Rattle.verifier.specs.Span.Rules.{broken_rule, frame_pointer_rule, frame_rule}
use Rattle.verifier.specs.Span.Ways.{ways}
use Rattle.verifier.proofs.Spans.Exact.{both, exact, neither}
use Rattle.spans.specs.Typing.{Table, IsTyping, target}
use Rattle.spans.specs.Typing as calls
use Rattle.verifier.specs.Form.{Below, IsForm}
use Rattle.verifier.specs.Fixpoint.{IsTyped}
use Rattle.verifier.specs.Span.Typing.{IsAllowed, broken, span_form}
use Rattle.verifier.specs.Span.Laws.{AreTypings, IsOneRefusal, IsPlaced}
use Rattle.verifier.proofs.Passes.{one_refusal}
use Rattle.verifier.proofs.Spans.Slots.{later}

-- ---- order

same_reach : (s t : Reach) → t.lo ≤ℤ s.lo → s.hi ≤ℤ t.hi → s.lo ≤ℤ t.lo → t.hi ≤ℤ s.hi → s ≡ t
same_reach s t a b c d =
    let low = meet s.lo t.lo c a in
    let high = meet s.hi t.hi b d in
    λ i. record { lo = low i; hi = high i }
  where
    meet : (x y : ℤ) → x ≤ℤ y → y ≤ℤ x → x ≡ y
    meet x y l m = grind (arith, ints)

same_span : (s t : Span) → t.lo ≤ s.lo → s.hi ≤ t.hi → s.lo ≤ t.lo → t.hi ≤ s.hi → s ≡ t
same_span s t a b c d =
    let low : s.lo ≡ t.lo = omega arith in
    let high : s.hi ≡ t.hi = omega arith in
    λ i. record { lo = low i; hi = high i }

-- kinds of which each says what the other says are one
same_kind : (a b : SpanKind) → LeqKind a b → LeqKind b a → a ≡ b
same_kind Unset Unset l m = refl
same_kind Unset (Num t) l m = absurd l
same_kind Unset (Place q t) l m = absurd l
same_kind (Num s) Unset l m = absurd m
same_kind (Num s) (Num t) l m = ap (λ x. Num x) (same_span s t l.0 l.1 m.0 m.1)
same_kind (Num s) (Place q t) l m = absurd l
same_kind (Place r s) Unset l m = absurd m
same_kind (Place r s) (Num t) l m = absurd l
same_kind (Place r s) (Place q t) l m =
    let regions = l.0 in
    let reaches = same_reach s t l.1.0 l.1.1 m.1.0 m.1.1 in
    λ i. Place (regions i) (reaches i)

pub Leq-antisym : (f g : Frame) → Leq f g → Leq g f → f ≡ g
Leq-antisym f g l m = λ i c. same_kind (f c) (g c) (l c) (m c) i

-- ---- ways

module _ (state : ℕ) (slots : List (Option Insn)) where
  -- what a way leaves that fits a table fits one above it
  pub way_above : (a b : Table) → Below (span_form state slots) a b → (t : ℕ) (w : Option Frame) → calls.Enters a t w → calls.Enters b t w
  way_above a b le t None h = tt
  way_above a b le t (Some g) h = let k = le t h.0 h.1 in (k.0, k.1, Leq-trans g h.0 k.0 h.2 k.2)

  allowed_above : (a b : Table) (s : ℕ) (f : Frame) → Below (span_form state slots) a b → IsAllowed state slots a s f → IsAllowed state slots b s f
  allowed_above a b s f le h = record {
    insn = h.insn;
    there = h.there;
    frame = h.frame;
    kept = h.kept;
    goes = way_above a b le (s + size_of h.insn) (ways h.insn f).0 h.goes;
    leaps = way_above a b le (target s h.insn) (ways h.insn f).1 h.leaps;
  }

-- a way that leaves more fits wherever one that leaves less does
way_weaker : (table : Table) (t : ℕ) (v w : Option Frame) → LeqWay v w → calls.Enters table t w → calls.Enters table t v
way_weaker table t None w l h = tt
way_weaker table t (Some f) None l h = absurd l
way_weaker table t (Some f) (Some g) l h = (h.0, h.1, Leq-trans f g h.0 l h.2)

module _ (state : ℕ) (slots : List (Option Insn)) where
  -- what an instruction keeps that breaks no rule
  pub unbroken_parts : (s : ℕ) (i : Insn) (f : Frame) → broken state slots s i f ≡ None → (first_broken (flow_tests slots s (flow_of i)) ≡ None) × (frame_pointer_rule i ≡ None) × (frame_rule state i f ≡ None)
  unbroken_parts s i f h =
      let k = both_none (first_broken (flow_tests slots s (flow_of i))) (broken_rule state i f) h in
      let m = neither (frame_pointer_rule i) (frame_rule state i f) k.1 in
      (k.0, m.0, m.1)

  -- an instruction that keeps V1, V2 and V4 and breaks no rule that asks a frame breaks none
  pub none_broken : (s : ℕ) (i : Insn) (f : Frame) → (first_broken (flow_tests slots s (flow_of i)) ≡ None) × (frame_pointer_rule i ≡ None) → frame_rule state i f ≡ None → broken state slots s i f ≡ None
  none_broken s i f p r = ap (λ o. option_or o (broken_rule state i f)) p.0 ∙ both (frame_pointer_rule i) (frame_rule state i f) p.1 r

  -- a frame that says more breaks no more, and on each way one leaves that says more
  weaker : (s : ℕ) (i : Insn) (f g : Frame) → IsFrame f → IsFrame g → Leq f g → broken state slots s i g ≡ None → (broken state slots s i f ≡ None) × (LeqWay (ways i f).0 (ways i g).0 × LeqWay (ways i f).1 (ways i g).1)
  weaker s i f g ff fg le h =
      let p = unbroken_parts s i g h in
      let k = monotone state i f g (ways i g) ff fg le ((exact state i g).0 p.2) in
      let e = (exact state i f).1 k.0 k.1.0 in
      (none_broken s i f (p.0, p.1) e.0, subst (λ (v : Ways). LeqWay v.0 (ways i g).0 × LeqWay v.1 (ways i g).1) e.1 k.1.1)

  allowed_weaker : (t : Table) (s : ℕ) (f g : Frame) → IsFrame f → Leq f g → IsAllowed state slots t s g → IsAllowed state slots t s f
  allowed_weaker t s f g ff le h =
      let k = weaker s h.insn f g ff h.frame le h.kept in
      record {
        insn = h.insn;
        there = h.there;
        frame = ff;
        kept = k.0;
        goes = way_weaker t (s + size_of h.insn) (ways h.insn f).0 (ways h.insn g).0 k.1.0 h.goes;
        leaps = way_weaker t (target s h.insn) (ways h.insn f).1 (ways h.insn g).1 k.1.1 h.leaps;
      }

  not_allowed : (t : Table) (s : ℕ) (f : Frame) (rule : Rule) → option_and_then (λ (i : Insn). broken state slots s i f) (insn_at slots s) ≡ Some rule → IsAllowed state slots t s f → ⊥
  not_allowed t s f rule e a =
      let none = a.kept in
      let some : broken state slots s a.insn f ≡ Some rule = subst (λ o. option_and_then (λ (i : Insn). broken state slots s i f) o ≡ Some rule) a.there e in
      cc

  pub form_3 : IsForm (span_form state slots)
  form_3 = record {
    reflexive = Leq-refl;
    transitive = Leq-trans;
    antisymmetric = λ s f g a b. Leq-antisym f g;
    within = λ s f a. within slots s a.1.0 a.1.1;
    above = allowed_above state slots;
    monotone = λ t s f g a b le h. allowed_weaker t s f g a.0 le h;
    refused = not_allowed;
  }

-- ---- laws

module _ (state : ℕ) (slots : List (Option Insn)) (table : Table) where
  same_insn : (i j : Insn) (o : Option Insn) → o ≡ Some i → o ≡ Some j → i ≡ j
  same_insn i j o a b = cc

  -- what is allowed is so in a typing of `spans`, and keeps V1, V2 and V4
  to_calls : (s : ℕ) (f : Frame) → IsAllowed state slots table s f → calls.IsAllowed state (length slots) (insn_at slots) table s f × IsPlaced slots s
  to_calls s f h =
      let p = unbroken_parts state slots s h.insn f h.kept in (
        record {
          insn = h.insn;
          ways = ways h.insn f;
          there = h.there;
          before = within slots s h.insn h.there;
          later = later slots s h.insn p.0;
          frame = h.frame;
          leaves = (exact state h.insn f).0 p.2;
          goes = h.goes;
          leaps = h.leaps;
        },
        λ j e. subst (λ x. (first_broken (flow_tests slots s (flow_of x)) ≡ None) × (frame_pointer_rule x ≡ None)) (same_insn h.insn j (insn_at slots s) h.there e) (p.0, p.1),
      )

  of_calls : (s : ℕ) (f : Frame) → calls.IsAllowed state (length slots) (insn_at slots) table s f → IsPlaced slots s → IsAllowed state slots table s f
  of_calls s f a p =
      let e = (exact state a.insn f).1 a.ways a.leaves in
      record {
        insn = a.insn;
        there = a.there;
        frame = a.frame;
        kept = none_broken state slots s a.insn f (p a.insn a.there) e.0;
        goes = subst (λ (v : Ways). calls.Enters table (s + size_of a.insn) v.0) e.1 a.goes;
        leaps = subst (λ (v : Ways). calls.Enters table (target s a.insn) v.1) e.1 a.leaps;
      }

  all_to_calls : IsTyped (span_form state slots) table → (s : ℕ) (f : Frame) → table s ≡ Some f → calls.IsAllowed state (length slots) (insn_at slots) table s f × IsPlaced slots s
  all_to_calls h s f e = let b = (h.stands s f e).1 in to_calls s f (h.allowed s f (within slots s b.0 b.1) e)

-- a typing of form 3 is one of calls
pub typing_of : (state : ℕ) (slots : List (Option Insn)) (table : Table) → IsTyped (span_form state slots) table → IsTyping state (length slots) (insn_at slots) table
typing_of state slots table h = record { start = h.start; each = λ s f e. (all_to_calls state slots table h s f e).0 }

pub are_typings : AreTypings
are_typings state slots table = (
  (λ h. (typing_of state slots table h, (λ s f e. (all_to_calls state slots table h s f e).1))),
  (λ h. record {
    start = h.0.start;
    stands = λ s f e. let a = h.0.each s f e in (a.frame, (a.insn, a.there));
    allowed = λ s f lt e. of_calls state slots table s f (h.0.each s f e) (h.1 s f e);
  }),
)

pub one_refusal_3 : IsOneRefusal
one_refusal_3 state slots = one_refusal (span_form state slots) (form_3 state slots)
