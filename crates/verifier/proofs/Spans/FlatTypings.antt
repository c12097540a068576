-- A typing of forms 1 and 2 is one of form 3.
use Rattle.std.proofs.Common.{◌≡◌, ℕ, ◌+◌, List, Option, Some, None, ℤ, pos, refl, sym, ap, ◌∙◌, subst}
use Rattle.std.specs.Prelude.{unsigned_abs}
use Rattle.std.specs.List.{AllByRecursion}
use Rattle.std.specs.Option.{option_map}
use Rattle.decode.specs.declared.insn.Insn.{Insn}
use Rattle.decode.specs.declared.insn.Insn.TheVariants.{Jump, JumpLong, JumpIf, Exit}
use Rattle.decode.specs.Slots.{insn_at, size_of, slots_of}
use Rattle.regtypes.specs.declared.image_form.ImageForm.{ImageForm}
use Rattle.regtypes.specs.declared.frame.Frame.{Frame as FlatFrame}
use Rattle.decode.specs.Flow.{flow_of}
use Rattle.regtypes.specs.Exits.{exits}
use Rattle.regtypes.specs.Frame.{entry_frame as flat_entry}
use Rattle.regtypes.specs.Ways.{next, taken}
use Rattle.regtypes.specs.Rules.{tests_of}
use Rattle.regtypes.specs.Typing.{Table as FlatTable, IsTyping, Enters as FlatEnters, flow_tests, frame_at}
use Rattle.regtypes.proofs.Monotone.{both_pass}
use Rattle.regtypes.proofs.Typings.{typing_keeps, typing_leads}
use Rattle.spans.specs.Frame.{Frame, entry_frame}
use Rattle.spans.specs.Ways.{LeqWay}
use Rattle.spans.proofs.Order.{Leq-trans}
use Rattle.verifier.specs.Span.Ways.{ways}
use Rattle.verifier.specs.Span.Rules.{frame_pointer_rule, frame_rule}
use Rattle.verifier.proofs.Spans.Exact.{neither}
use Rattle.spans.specs.Typing.{Enters, target}
use Rattle.verifier.specs.Fixpoint.{IsTyped}
use Rattle.verifier.specs.Span.Typing.{IsAllowed, span_form}
use Rattle.verifier.proofs.Spans.Forms.{none_broken}
use Rattle.verifier.specs.Span.FlatLaws.{AreTypingsSubsumed}
use Rattle.verifier.specs.Span.FlatFrames.{read_frame, read_table}
use Rattle.verifier.proofs.Spans.FlatFrames.{entered, order_kept, read_frame-is}
use Rattle.verifier.proofs.Spans.FlatRules.{rules_subsumed}

-- what is read stands where it was
there : (table : FlatTable) (s : ℕ) (f : Frame) → read_table table s ≡ Some f → (g : FlatFrame) × (frame_at table s ≡ Some g) × (read_frame g ≡ f)
there table s f e = by_case (frame_at table s) refl e
  where
    by_case : (o : Option FlatFrame) → frame_at table s ≡ o → option_map read_frame o ≡ Some f → (g : FlatFrame) × (frame_at table s ≡ Some g) × (read_frame g ≡ f)
    by_case None q h = cc
    by_case (Some g) q h = (g, q, some_once (read_frame g) f h)
      where
        some_once : (x y : Frame) → Some x ≡ Some y → x ≡ y
        some_once x y e = cc

-- ---- what leaves

-- what leaves on a way enters the slot where it leads
enters : (table : FlatTable) (e : ℤ × FlatFrame) (t : ℕ) (w : Option Frame) → e.0 ≡ pos t → FlatEnters table e → LeqWay w (Some (read_frame e.1)) → Enters (read_table table) t w
enters table e t None q h l = tt
enters table e t (Some f) q h l =
    let at : h.0 ≡ t = let a = h.2 in cc in
    let there : read_table table t ≡ Some (read_frame h.1) = ap (read_table table) (sym at) ∙ ap (option_map read_frame) h.3 in
    (read_frame h.1, there, Leq-trans f (read_frame e.1) (read_frame h.1) l (order_kept e.1 h.1 h.4))

landed : (table : FlatTable) (e : ℤ × FlatFrame) → FlatEnters table e → e.0 ≡ pos (unsigned_abs e.0)
landed table e h = h.2 ∙ ap pos (sym (ap unsigned_abs h.2))

-- the way to the instruction behind
goes : (table : FlatTable) (s : ℕ) (i : Insn) (g : FlatFrame) → AllByRecursion (FlatEnters table) (exits s i g) → LeqWay (ways i (read_frame g)).0 (Some (read_frame (next i g))) → Enters (read_table table) (s + size_of i) (ways i (read_frame g)).0
goes table s (Jump offset) g a l = tt
goes table s (JumpLong distance) g a l = tt
goes table s (JumpIf condition width dst o offset) g a l = enters table _ (s + 1) (ways (JumpIf condition width dst o offset) (read_frame g)).0 refl a.1.0 l
goes table s Exit g a l = tt
goes table s i g a l = enters table _ (s + size_of i) (ways i (read_frame g)).0 refl a.0 l

-- the way by a jump
leaps : (table : FlatTable) (s : ℕ) (i : Insn) (g : FlatFrame) → AllByRecursion (FlatEnters table) (exits s i g) → LeqWay (ways i (read_frame g)).1 (Some (read_frame (taken i g))) → Enters (read_table table) (target s i) (ways i (read_frame g)).1
leaps table s (Jump offset) g a l = enters table _ (target s (Jump offset)) (ways (Jump offset) (read_frame g)).1 (landed table _ a.0) a.0 l
leaps table s (JumpLong distance) g a l = enters table _ (target s (JumpLong distance)) (ways (JumpLong distance) (read_frame g)).1 (landed table _ a.0) a.0 l
leaps table s (JumpIf condition width dst o offset) g a l = enters table _ (target s (JumpIf condition width dst o offset)) (ways (JumpIf condition width dst o offset) (read_frame g)).1 (landed table _ a.0) a.0 l
leaps table s i g a l = tt

-- ---- slots

module _ (form : ImageForm) (slots : List (Option Insn)) (state : ℕ) (table : FlatTable) (t : IsTyping form slots state table) where
  allowed_at : (s : ℕ) (g : FlatFrame) (i : Insn) → frame_at table s ≡ Some g → insn_at slots s ≡ Some i → IsAllowed state slots (read_table table) s (read_frame g)
  allowed_at s g i e b =
      let k = both_pass (flow_tests slots s (flow_of i)) (tests_of form state i g) (typing_keeps form slots state table s g i t e b) in
      let r = rules_subsumed form state i g (t.whole s g e) (t.short s g e) k.1 in
      let n = neither (frame_pointer_rule i) (frame_rule state i (read_frame g)) r.0 in
      let a = typing_leads form slots state table s g i t e b in
      record {
        insn = i;
        there = b;
        frame = read_frame-is g.kinds;
        kept = none_broken state slots s i (read_frame g) (k.0, n.0) n.1;
        goes = goes table s i g a r.1;
        leaps = leaps table s i g a r.2;
      }

  allowed : (s : ℕ) (f : Frame) → read_table table s ≡ Some f → IsAllowed state slots (read_table table) s f
  allowed s f e =
      let g = there table s f e in
      let b = t.begins s g.0 g.1 in
      subst (λ (x : Frame). IsAllowed state slots (read_table table) s x) g.2 (allowed_at s g.0 b.0 g.1 b.1)

  start : Enters (read_table table) 0 (Some entry_frame)
  start = enters table (pos 0, flat_entry form) 0 (Some entry_frame) refl t.start (entered form)

  pub typed : IsTyped (span_form state slots) (read_table table)
  typed = record {
    start = start;
    stands = λ s f e. let a = allowed s f e in (a.frame, (a.insn, a.there));
    allowed = λ s f lt e. allowed s f e;
  }

pub typings_subsumed : AreTypingsSubsumed
typings_subsumed form code state table t =
    let k = typed form (slots_of code) state table t in
    (k, λ least l. l.least (read_table table) k)
