use Rattle.std.proofs.Common.{◌≡◌, ◌+◌, ◌<◌, ◌≤◌, List, Option, length, inl, sym, ap, ◌∙◌, subst, arith}
use Rattle.decode.specs.declared.insn.Insn.{Insn}
use Rattle.decode.specs.Slots.{slots_of}
use Rattle.limits.specs.declared.TheConstants.{SLOTS}
use Rattle.decode.specs.Slots.{Follows}
use Rattle.verifier.specs.Fixpoint.{IsLeast, StopsAt}
use Rattle.verifier.specs.Inside.SpanPass.{AreFitting, IsSlotJudged}
use Rattle.verifier.specs.Span.Typing.{span_form, table_of}
use Rattle.decode.proofs.Layouts.{first_begins_at, laid_some}
use Rattle.verifier.proofs.Passes.{fault, kept_whole, taken_whole}
use Rattle.verifier.proofs.Spans.Forms.{form_3}
use Rattle.verifier.proofs.Spans.Passes.{least_first}
use Rattle.verifier.proofs.Spans.Slots.{are_fitting}
use Rattle.verifier.proofs.span.pass.span_frames_of.Goals as goal

pub opening-requires : goal.opening-requires
opening-requires c =
    let e = ap length c.in_ok-slots.ensures.slots in
    let n = laid_some c.args.code.now c.requires.some in
    omega (arith, c.len.ensures)

pub loop-slot-init : goal.loop-slot-init
loop-slot-init c =
    let e = ap length c.in_ok-slots.ensures.slots in
    let k = laid_some c.args.code.now c.requires.some in
    let n : 0 < length c.in_ok-slots.slots.items = omega arith in
    let b = first_begins_at c.args.code.now c.in_ok-slots.slots.items c.in_ok-slots.ensures.slots n in
    (omega (arith, c.in_ok-table.ensures.size, c.len.ensures), least_first c.args.state_len c.in_ok-slots.slots.items (table_of c.in_ok-table.table.items) b.0 c.in_ok-table.ensures.only b.1)

pub judge-requires-clause-follows : goal.judge-requires-clause-follows
judge-requires-clause-follows c = subst Follows (sym c.deref.ensures.value) c.in_ok-slots.ensures.follows

pub judge-requires-clause-fits : goal.judge-requires-clause-fits
judge-requires-clause-fits c = subst AreFitting (sym (c.deref.ensures.value ∙ c.in_ok-slots.ensures.slots)) (are_fitting c.args.code.now c.requires.fits)

pub returns-in-Some-clause-judged : goal.returns-in-Some-clause-judged
returns-in-Some-clause-judged c =
    let slots = slots_of c.args.code.now in
    let e : c.in_ok-slots.slots.items ≡ slots = c.in_ok-slots.ensures.slots in
    let j = subst (IsSlotJudged c.args.state_len c.deref.result.now c.loop-slot.slot c.deref_mut.result.now c.judge.new.table) c.in-Some.is c.in_ok-rule.ensures.judged in
    let b = subst (λ s. StopsAt (span_form c.args.state_len s) c.in-Some.rule c.loop-slot.slot) (c.deref.ensures.value ∙ e) j.0 in
    let same : c.judge.new.table ≡ c.loop-slot.table.items = j.1 ∙ c.deref_mut.ensures.value in
    let whole = kept_whole c.judge.new.table c.loop-slot.table.items c.loop-slot.table.len (sym c.deref_mut.ensures.len ∙ ap length (sym j.1)) same in
    let l = subst (λ s. IsLeast (span_form c.args.state_len s) c.loop-slot.slot (table_of c.loop-slot.table.items)) e c.loop-slot.invariant.1 in
    (subst (λ t. IsLeast (span_form c.args.state_len slots) c.loop-slot.slot (table_of t)) (sym whole) l, fault (span_form c.args.state_len slots) (form_3 c.args.state_len slots) c.in-Some.rule c.loop-slot.slot (inl b))

pub returns-clause-judged : goal.returns-clause-judged
returns-clause-judged c =
    let q : c.loop-slot.slot ≡ length c.in_ok-slots.slots.items = omega arith in
    let l = subst (λ n. IsLeast (span_form c.args.state_len c.in_ok-slots.slots.items) n (table_of c.loop-slot.table.items)) q c.loop-slot.invariant.1 in
    subst (λ s. IsLeast (span_form c.args.state_len s) (length s) (table_of c.loop-slot.table.items)) c.in_ok-slots.ensures.slots l

pub judge-requires-clause-short : goal.judge-requires-clause-short
judge-requires-clause-short c = subst (λ (s : List (Option Insn)). length s ≤ SLOTS) (sym (c.deref.ensures.value ∙ c.in_ok-slots.ensures.slots)) c.requires.slots

pub judge-requires-clause-within : goal.judge-requires-clause-within
judge-requires-clause-within c = subst (λ n. c.loop-slot.slot < n) (c.len-slot-end.ensures ∙ sym c.deref.ensures.len) c.loop-slot-test.true

pub judge-requires-clause-same : goal.judge-requires-clause-same
judge-requires-clause-same c = ap length c.deref_mut.ensures.value ∙ c.loop-slot.invariant.0 ∙ ap length (sym c.deref.ensures.value)

pub judge-requires-clause-least : goal.judge-requires-clause-least
judge-requires-clause-least c =
    let l = subst (λ s. IsLeast (span_form c.args.state_len s) c.loop-slot.slot (table_of c.loop-slot.table.items)) (sym c.deref.ensures.value) c.loop-slot.invariant.1 in
    subst (λ t. IsLeast (span_form c.args.state_len c.deref.result.now) c.loop-slot.slot (table_of t)) (sym c.deref_mut.ensures.value) l

pub loop-slot-preserved : goal.loop-slot-preserved
loop-slot-preserved c =
    let new = c.judge.new.table in
    let old = c.loop-slot.table.items in
    let size = c.in_ok-rule.ensures.size in
    let whole = taken_whole new old c.loop-slot.table.len (sym (size ∙ c.deref_mut.ensures.len)) in
    let j = subst (IsSlotJudged c.args.state_len c.deref.result.now c.loop-slot.slot c.deref_mut.result.now new) c.in_default.is c.in_ok-rule.ensures.judged in
    let l = subst (λ s. IsLeast (span_form c.args.state_len s) (c.loop-slot.slot + 1) (table_of new)) c.deref.ensures.value j in
    (ap length whole ∙ size ∙ ap length c.deref_mut.ensures.value ∙ c.loop-slot.invariant.0, subst (λ t. IsLeast (span_form c.args.state_len c.in_ok-slots.slots.items) (c.loop-slot.slot + 1) (table_of t)) (sym whole) l)
