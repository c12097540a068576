use Rattle.std.proofs.Common.{◌≡◌, ◌<◌, refl, sym, subst, Some, None, arith}
use Rattle.std.proofs.Math.Nat.{lt_of_lt_of_le}
use Rattle.decode.specs.Slots.{insn_at}
use Rattle.spans.specs.Frame.{kind_at}
use Rattle.spans.specs.Ways.{Ways}
use Rattle.verifier.specs.Inside.SpanPass.{IsSpread}
use Rattle.verifier.specs.Span.Typing.{span_form, table_of}
use Rattle.verifier.proofs.Passes.{least_skip}
use Rattle.verifier.proofs.Spans.Forms.{form_3, unbroken_parts}
use Rattle.verifier.proofs.Spans.Passes.{stepped, stops}
use Rattle.verifier.proofs.Spans.Slots.{forward, insn_is, next_way_within, taken_within, there_none, there_some}
use Rattle.verifier.proofs.span.judgement.judge.Goals as goal
use Rattle.verifier.proofs.span.judgement.judge.Goals.{After-deref}

there : (c : After-deref) → table_of c.args.table.now c.args.slot ≡ Some (kind_at c.deref.result.now.kinds)
there c = there_some c.args.table.now c.args.slot _ c.in-Some.frame c.deref.result.now (omega (arith, c.requires.same, c.requires.within)) c.in-Some.is c.deref.ensures

begin : (c : After-deref) → insn_at c.args.slots.now c.args.slot ≡ Some c.in-Some-slots.insn
begin c = insn_is c.args.slots.now c.args.slot _ (Some c.in-Some-slots.insn) c.requires.within c.in-Some-slots.is

pub bounds-table-slot : goal.bounds-table-slot
bounds-table-slot c = subst (λ n. c.args.slot < n) (sym c.requires.same) c.requires.within

pub returns-in-None-clause-size : goal.returns-in-None-clause-size
returns-in-None-clause-size c = refl

pub returns-in-None-clause-judged : goal.returns-in-None-clause-judged
returns-in-None-clause-judged c =
    least_skip (span_form c.args.state_len c.args.slots.now) (form_3 c.args.state_len c.args.slots.now) c.args.slot (table_of c.args.table.now) c.requires.least (there_none c.args.table.now c.args.slot _ (omega (arith, c.requires.same, c.requires.within)) c.in-None.is)

pub bounds-slots-slot : goal.bounds-slots-slot
bounds-slots-slot c = c.requires.within

pub bounds : goal.bounds
bounds c = c.requires.within

pub unreachable-requires : goal.unreachable-requires
unreachable-requires c =
    let there = there_some c.args.table.now c.args.slot _ c.in-Some.frame c.in-Some.frame.value (omega (arith, c.requires.same, c.requires.within)) c.in-Some.is refl in
    let b = (c.requires.least.types.stands c.args.slot (kind_at c.in-Some.frame.value.kinds) there).1 in
    let h : insn_at c.args.slots.now c.args.slot ≡ None = insn_is c.args.slots.now c.args.slot _ None c.requires.within c.in-None-slots.is in
    let e = b.1 in
    cc

pub leave-requires-clause-short : goal.leave-requires-clause-short
leave-requires-clause-short c = lt_of_lt_of_le c.requires.within c.requires.short

pub leave-requires-clause-within : goal.leave-requires-clause-within
leave-requires-clause-within c = c.requires.within

pub leave-requires-clause-fits : goal.leave-requires-clause-fits
leave-requires-clause-fits c = c.requires.fits c.args.slot c.in-Some-slots.insn (begin c)

pub leave-requires-clause-frame : goal.leave-requires-clause-frame
leave-requires-clause-frame c = (c.requires.least.types.stands c.args.slot (kind_at c.deref.result.now.kinds) (there c)).0

pub returns-in-Err-clause-size : goal.returns-in-Err-clause-size
returns-in-Err-clause-size c = refl

pub returns-in-Err-clause-judged : goal.returns-in-Err-clause-judged
returns-in-Err-clause-judged c =
    let there = there_some c.args.table.now c.args.slot _ c.in-Some.frame c.deref.result.now (omega (arith, c.requires.same, c.requires.within)) c.in-Some.is c.deref.ensures in
    let begin = insn_is c.args.slots.now c.args.slot _ (Some c.in-Some-slots.insn) c.requires.within c.in-Some-slots.is in
    (stops c.args.state_len c.args.slots.now c.args.slot (table_of c.args.table.now) (kind_at c.deref.result.now.kinds) c.in-Some-slots.insn c.requires.follows c.requires.least there begin c.in-Err.rule c.in-Err.ensures, refl)

pub spread-requires-clause-short : goal.spread-requires-clause-short
spread-requires-clause-short c = lt_of_lt_of_le c.requires.within c.requires.short

pub spread-requires-clause-forward : goal.spread-requires-clause-forward
spread-requires-clause-forward c =
    forward c.args.slots.now c.args.slot c.in-Some-slots.insn (unbroken_parts c.args.state_len c.args.slots.now c.args.slot c.in-Some-slots.insn (kind_at c.deref.result.now.kinds) c.in-Ok.ensures.0).0

pub spread-requires-clause-next : goal.spread-requires-clause-next
spread-requires-clause-next c =
    let t = c.in-Ok.ensures in
    next_way_within c.args.slots.now c.args.slot _ c.in-Some-slots.insn (kind_at c.deref.result.now.kinds) _ t.1 c.requires.same (unbroken_parts c.args.state_len c.args.slots.now c.args.slot c.in-Some-slots.insn (kind_at c.deref.result.now.kinds) t.0).0

pub spread-requires-clause-taken : goal.spread-requires-clause-taken
spread-requires-clause-taken c =
    let t = c.in-Ok.ensures in
    taken_within c.args.slots.now c.args.slot _ c.in-Some-slots.insn (kind_at c.deref.result.now.kinds) _ t.1 c.requires.same (unbroken_parts c.args.state_len c.args.slots.now c.args.slot c.in-Some-slots.insn (kind_at c.deref.result.now.kinds) t.0).0

pub returns-in-Ok-spread-clause-size : goal.returns-in-Ok-spread-clause-size
returns-in-Ok-spread-clause-size c = c.spread.ensures.size

pub returns-in-Ok-spread-clause-judged : goal.returns-in-Ok-spread-clause-judged
returns-in-Ok-spread-clause-judged c =
    let t = c.in-Ok.ensures in
    let there = there_some c.args.table.now c.args.slot _ c.in-Some.frame c.deref.result.now (omega (arith, c.requires.same, c.requires.within)) c.in-Some.is c.deref.ensures in
    let begin = insn_is c.args.slots.now c.args.slot _ (Some c.in-Some-slots.insn) c.requires.within c.in-Some-slots.is in
    let spread = subst (λ (w : Ways). IsSpread (table_of c.args.table.now) c.args.slot c.in-Some-slots.insn w (table_of c.spread.new.table)) t.1 c.in-Ok-spread.ensures.spread in
    stepped c.args.state_len c.args.slots.now c.args.slot (table_of c.args.table.now) (kind_at c.deref.result.now.kinds) c.in-Some-slots.insn c.requires.follows c.requires.least there begin t.0 (table_of c.spread.new.table) spread

pub returns-in-Err-spread-clause-size : goal.returns-in-Err-spread-clause-size
returns-in-Err-spread-clause-size c = c.spread.ensures.size

pub returns-in-Err-spread-clause-judged : goal.returns-in-Err-spread-clause-judged
returns-in-Err-spread-clause-judged c = tt
