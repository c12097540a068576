use Rattle.std.proofs.Common.{◌≡◌, ◌<◌, length, inl, sym, ap, ◌∙◌, subst, arith}
use Rattle.decode.specs.Slots.{slots_of}
use Rattle.regtypes.specs.Typing.{frame_at}
use Rattle.decode.specs.Slots.{Follows}
use Rattle.verifier.specs.Fixpoint.{IsLeast, StopsAt}
use Rattle.verifier.specs.Least.{IsLeastTyping, flat_form}
use Rattle.verifier.proofs.LeastTypings.{flat_laws, least_first}
use Rattle.verifier.proofs.Passes.{fault, kept_whole}
use Rattle.decode.proofs.Layouts.{first_begins_at, laid_some}
use Rattle.verifier.proofs.pass.frames_of.Goals as goal

pub opening-requires : goal.opening-requires
opening-requires c =
    let e = ap length c.in_ok-slots.ensures.slots in
    let n = laid_some c.args.code.now c.requires.some in
    omega (arith, c.len.ensures)

pub loop-slot-init : goal.loop-slot-init
loop-slot-init c =
    let e = ap length c.in_ok-slots.ensures.slots in
    let k = laid_some c.args.code.now c.requires.some in
    let n : 0 < length c.in_ok-slots.slots.items = omega arith in
    let b = first_begins_at c.args.code.now c.in_ok-slots.slots.items c.in_ok-slots.ensures.slots n in
    (omega (arith, c.in_ok-table.ensures.size, c.len.ensures), least_first c.args.form c.args.state_len c.in_ok-slots.slots.items c.in_ok-table.table.items b.0 c.in_ok-table.ensures.only b.1)

pub judge-requires-clause-follows : goal.judge-requires-clause-follows
judge-requires-clause-follows c = subst Follows (sym c.deref.ensures.value) c.in_ok-slots.ensures.follows

pub returns-in-Err-clause-judged : goal.returns-in-Err-clause-judged
returns-in-Err-clause-judged c =
    let slots = slots_of c.args.code.now in
    let e : c.in_ok-slots.slots.items ≡ slots = c.in_ok-slots.ensures.slots in
    let b = subst (λ s. StopsAt (flat_form c.args.form c.args.state_len s) c.in-Err.rule c.loop-slot.slot) (c.deref.ensures.value ∙ e) c.in-Err.ensures.judged in
    let same : c.judge.new.table ≡ c.loop-slot.table.items = c.in-Err.ensures.kept ∙ c.deref_mut.ensures.value in
    let whole = kept_whole c.judge.new.table c.loop-slot.table.items c.loop-slot.table.len (sym c.deref_mut.ensures.len ∙ ap length (sym c.in-Err.ensures.kept)) same in
    let l = subst (λ s. IsLeast (flat_form c.args.form c.args.state_len s) c.loop-slot.slot (frame_at c.loop-slot.table.items)) e c.loop-slot.invariant.1 in
    (subst (λ t. IsLeast (flat_form c.args.form c.args.state_len slots) c.loop-slot.slot (frame_at t)) (sym whole) l, fault (flat_form c.args.form c.args.state_len slots) (flat_laws c.args.form c.args.state_len slots) c.in-Err.rule c.loop-slot.slot (inl b))

pub returns-clause-judged : goal.returns-clause-judged
returns-clause-judged c =
    let q : c.loop-slot.slot ≡ length c.in_ok-slots.slots.items = omega arith in
    let l = subst (λ n. IsLeast (flat_form c.args.form c.args.state_len c.in_ok-slots.slots.items) n (frame_at c.loop-slot.table.items)) q c.loop-slot.invariant.1 in
    subst (λ s. IsLeastTyping c.args.form s c.args.state_len c.loop-slot.table.items) c.in_ok-slots.ensures.slots l
