-- What a slot and its ways do to the least typing of form 3.
use Rattle.std.proofs.Common.{◌≡◌, ℕ, ◌+◌, ◌<◌, List, Option, Some, None, refl, sym, subst, arith}
use Rattle.std.specs.Option.{option_and_then}
use Rattle.decode.specs.declared.insn.Insn.{Insn}
use Rattle.decode.specs.Slots.{insn_at, size_of}
use Rattle.regtypes.specs.declared.rule.Rule.{Rule}
use Rattle.decode.specs.Flow.{flow_of}
use Rattle.regtypes.specs.Rules.{first_broken}
use Rattle.regtypes.specs.Typing.{flow_tests}
use Rattle.spans.specs.Frame.{Frame, IsFrame, Leq, entry_frame, joined}
use Rattle.spans.specs.Laws.{IsWay}
use Rattle.spans.specs.Ways.{Leaves}
use Rattle.spans.proofs.Order.{Leq-refl, is-least-join}
use Rattle.spans.proofs.Entry.{entered}
use Rattle.spans.proofs.Closed.{closed}
use Rattle.verifier.specs.Span.Rules.{frame_pointer_rule, frame_rule}
use Rattle.verifier.specs.Span.Ways.{ways}
use Rattle.verifier.proofs.Spans.Exact.{exact}
use Rattle.spans.specs.Typing.{Table, target}
use Rattle.spans.specs.Typing as calls
use Rattle.verifier.specs.Form.{Below}
use Rattle.decode.specs.Slots.{Follows}
use Rattle.verifier.specs.Fixpoint.{IsLeast, StopsAt}
use Rattle.verifier.specs.Inside.Pass.{IsOpening}
use Rattle.verifier.specs.Inside.SpanPass.{IsMerged, IsSpread, IsWayMerged, merged}
use Rattle.verifier.specs.Span.Typing.{IsAllowed, broken, span_form}
use Rattle.verifier.proofs.Passes.{Led, Merged, led_more, led_none, least_opening, least_step}
use Rattle.verifier.proofs.Spans.Forms.{form_3, unbroken_parts, way_above}
use Rattle.verifier.proofs.Spans.Slots.{next_begins, size_positive, taken_begins, target_past}

-- ---- joins

merged_frame : (o : Option Frame) (f : Frame) → IsFrame f → ((g : Frame) → o ≡ Some g → IsFrame g) → IsFrame (merged o f)
merged_frame None f a h = a
merged_frame (Some g) f a h = is-least-join.0 g f (h g refl) a

merged_covers : (o : Option Frame) (f : Frame) → Leq f (merged o f)
merged_covers None f = Leq-refl f
merged_covers (Some g) f = (is-least-join.1 g f).1

merged_keeps : (o : Option Frame) (f g : Frame) → o ≡ Some g → Leq g (merged o f)
merged_keeps None f g e = cc
merged_keeps (Some h) f g e = let q : h ≡ g = cc in subst (λ (x : Frame). Leq x (joined h f)) q (is-least-join.1 h f).0

merged_least : (o : Option Frame) (f k : Frame) → Leq f k → ((g : Frame) → o ≡ Some g → Leq g k) → Leq (merged o f) k
merged_least None f k l u = l
merged_least (Some h) f k l u = is-least-join.2 h f k (u h refl) l

same_insn : (i j : Insn) (o : Option Insn) → o ≡ Some i → o ≡ Some j → i ≡ j
same_insn i j o a b = cc

module _ (state : ℕ) (slots : List (Option Insn)) where
  merged_is : (old new : Table) (to : ℕ) (f : Frame) → IsFrame f → ((i : Insn) × (insn_at slots to ≡ Some i)) → IsMerged old to f new → Merged (span_form state slots) old to f new
  merged_is old new to f a b m = record {
    other = m.other;
    frame = merged (old to) f;
    there = m.there;
    stands = λ h. (merged_frame (old to) f a (λ g e. (h g e).0), b);
    covers = merged_covers (old to) f;
    keeps = λ g e. merged_keeps (old to) f g e;
    least = λ k l u. merged_least (old to) f k l u;
  }

  -- one way more, where something leaves on it
  led_way : (slot to : ℕ) (Fit : Table → Type 0) (old mid new : Table) (w : Option Frame) → slot < to → IsWay w → ((f : Frame) → w ≡ Some f → (i : Insn) × (insn_at slots to ≡ Some i)) → ((a b : Table) → Below (span_form state slots) a b → Fit a → Fit b) → Led (span_form state slots) slot Fit old mid → IsWayMerged mid to w new → Led (span_form state slots) slot (λ t. Fit t × calls.Enters t to w) old new
  led_way slot to Fit old mid new None lt a b up l m =
      subst (λ (n : Table). Led (span_form state slots) slot (λ t. Fit t × Unit {0}) old n) (sym m)
      (record { same = l.same; grows = l.grows; stands = l.stands; fits = (l.fits, tt); least = λ t b e. l.least t b e.0 })
  led_way slot to Fit old mid new (Some f) lt a b up l m = led_more (span_form state slots) (form_3 state slots) slot Fit old mid new to f lt l (merged_is mid new to f a (b f refl) m) up

-- ---- a slot

module _ (state : ℕ) (slots : List (Option Insn)) (n : ℕ) (old : Table) (f : Frame) (i : Insn) (follows : Follows slots) (l : IsLeast (span_form state slots) n old) (there : old n ≡ Some f) (begin : insn_at slots n ≡ Some i) where
  -- where the instruction of a frame breaks a rule, the pass stops at its slot
  pub stops : (rule : Rule) → broken state slots n i f ≡ Some rule → StopsAt (span_form state slots) rule n
  stops rule h = record {
    table = old;
    least = l;
    frame = f;
    there = there;
    breaks = subst (λ o. option_and_then (λ (i : Insn). broken state slots n i f) o ≡ Some rule) (sym begin) h;
  }

  module _ (unbroken : broken state slots n i f ≡ None) where
    kept : (first_broken (flow_tests slots n (flow_of i)) ≡ None) × (frame_pointer_rule i ≡ None) × (frame_rule state i f ≡ None)
    kept = unbroken_parts state slots n i f unbroken

    frame : IsFrame f
    frame = (l.types.stands n f there).0

    leaves : Leaves state i f (ways i f)
    leaves = (exact state i f).0 kept.2

    abbrev Fit : Table → Type 0
    Fit t = (Unit {0} × calls.Enters t (n + size_of i) (ways i f).0) × calls.Enters t (target n i) (ways i f).1

    allow : (t : Table) → Fit t → IsAllowed state slots t n f
    allow t h = record {
      insn = i;
      there = begin;
      frame = frame;
      kept = unbroken;
      goes = h.0.1;
      leaps = h.1;
    }

    fit : (t : Table) → IsAllowed state slots t n f → Fit t
    fit t a =
        let e : a.insn ≡ i = same_insn a.insn i (insn_at slots n) a.there begin in
        ((tt, subst (λ j. calls.Enters t (n + size_of j) (ways j f).0) e a.goes), subst (λ j. calls.Enters t (target n j) (ways j f).1) e a.leaps)

    -- where none is broken and what leaves is joined into the slots behind, the table is least for one slot more
    pub stepped : (new : Table) → IsSpread old n i (ways i f) new → IsLeast (span_form state slots) (n + 1) new
    stepped new sp =
        let c = closed state i f (ways i f) frame leaves in
        let p = size_positive i in
        let one = led_way state slots n (n + size_of i) (λ t. Unit {0}) old old sp.mid (ways i f).0 (omega (arith, p)) c.0 (λ g e. next_begins slots n i f g follows begin kept.0 e) (λ a b le h. tt) (led_none (span_form state slots) (form_3 state slots) n old) sp.goes in
        let two = led_way state slots n (target n i) (λ t. Unit {0} × calls.Enters t (n + size_of i) (ways i f).0) old sp.mid new (ways i f).1 (target_past slots n i kept.0) c.1 (λ g e. taken_begins slots n i f g kept.0 e) (λ a b le h. (tt, way_above state slots a b le (n + size_of i) (ways i f).0 h.1)) one sp.leaps in
        least_step (span_form state slots) (form_3 state slots) n Fit old new f l there allow fit two

-- ---- the table at first

-- before any slot was looked at, the entry's frame alone is the least typing
pub least_first : (state : ℕ) (slots : List (Option Insn)) (table : Table) (i : Insn) → IsOpening entry_frame table → insn_at slots 0 ≡ Some i → IsLeast (span_form state slots) 0 table
least_first state slots table i o b = least_opening (span_form state slots) (form_3 state slots) table o.first o.none (entered.0, (i, b))
