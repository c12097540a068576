use Rattle.std.proofs.Common.{◌≡◌, ◌∙◌, subst, rules, Some, None, pos, ◌+ℤ◌, ◌+◌}
use mir.Val.{SFits}
use mir.Syntax.{w32}
use Rattle.std.proofs.lemmas.Int.{to_z-of_z}
use Rattle.decode.specs.Slots.{insn_at}
use Rattle.regtypes.specs.Typing.{frame_at}
use Rattle.verifier.proofs.LeastTypings.{flat_laws, frame_is, insn_is, leaves_short, breaks_flow, breaks_local, step_ends, step_leaps, step_falls, step_forks}
use Rattle.verifier.specs.Least.{flat_form}
use Rattle.verifier.proofs.Passes.{least_skip}
use Rattle.verifier.proofs.judgement.judge.Goals as goal

pub returns-in-None-clause-judged : goal.returns-in-None-clause-judged
returns-in-None-clause-judged c =
    least_skip (flat_form c.args.form c.args.state_len c.args.slots.now) (flat_laws c.args.form c.args.state_len c.args.slots.now) c.args.slot (frame_at c.args.table.now) c.requires.least (frame_is c.args.table.now c.args.slot ∙ c.in-None.is)

pub unreachable-requires : goal.unreachable-requires
unreachable-requires c =
    let there : frame_at c.args.table.now c.args.slot ≡ Some c.in-Some.frame = frame_is c.args.table.now c.args.slot ∙ c.in-Some.is in
    let b = (c.requires.least.types.stands c.args.slot c.in-Some.frame there).begins in
    let h : insn_at c.args.slots.now c.args.slot ≡ None = insn_is c.args.slots.now c.args.slot _ None c.requires.within c.in-None-slots.is in
    let e = b.1 in
    cc

pub returns-in-Err-clause-judged : goal.returns-in-Err-clause-judged
returns-in-Err-clause-judged c =
    let there : frame_at c.args.table.now c.args.slot ≡ Some c.in-Some.frame = frame_is c.args.table.now c.args.slot ∙ c.in-Some.is in
    let begin : insn_at c.args.slots.now c.args.slot ≡ Some c.in-Some-slots.insn = insn_is c.args.slots.now c.args.slot _ (Some c.in-Some-slots.insn) c.requires.within c.in-Some-slots.is in
    breaks_flow c.args.form c.args.slots.now c.args.state_len c.args.slot c.args.table.now c.in-Some.frame c.in-Some-slots.insn c.flow_from-flow.result c.in-Some.frame c.in-Some.frame c.requires.follows c.requires.least there begin c.flow_from-flow.ensures c.in-Err.rule c.in-Err.ensures

pub returns-in-Err-transfer-clause-judged : goal.returns-in-Err-transfer-clause-judged
returns-in-Err-transfer-clause-judged c =
    let there : frame_at c.args.table.now c.args.slot ≡ Some c.in-Some.frame = frame_is c.args.table.now c.args.slot ∙ c.in-Some.is in
    let begin : insn_at c.args.slots.now c.args.slot ≡ Some c.in-Some-slots.insn = insn_is c.args.slots.now c.args.slot _ (Some c.in-Some-slots.insn) c.requires.within c.in-Some-slots.is in
    breaks_local c.args.form c.args.slots.now c.args.state_len c.args.slot c.args.table.now c.in-Some.frame c.in-Some-slots.insn c.flow_from-flow.result c.in-Some.frame c.in-Some.frame c.requires.follows c.requires.least there begin c.flow_from-flow.ensures c.in_default.ensures c.in-Err-transfer.rule c.in-Err-transfer.ensures

pub returns-in-Ends-clause-judged : goal.returns-in-Ends-clause-judged
returns-in-Ends-clause-judged c =
    let there : frame_at c.args.table.now c.args.slot ≡ Some c.in-Some.frame = frame_is c.args.table.now c.args.slot ∙ c.in-Some.is in
    let begin : insn_at c.args.slots.now c.args.slot ≡ Some c.in-Some-slots.insn = insn_is c.args.slots.now c.args.slot _ (Some c.in-Some-slots.insn) c.requires.within c.in-Some-slots.is in
    let t = c.in-Ok.ensures in
    step_ends c.args.form c.args.slots.now c.args.state_len c.args.slot c.args.table.now c.in-Some.frame c.in-Some-slots.insn c.flow_from-flow.result c.in-Ok.left.next c.in-Ok.left.taken c.requires.follows c.requires.least there begin c.flow_from-flow.ensures c.in_default.ensures t.0 t.1 t.2 c.in-Ends.is

pub returns-in-Leaps-clause-judged : goal.returns-in-Leaps-clause-judged
returns-in-Leaps-clause-judged c =
    let there : frame_at c.args.table.now c.args.slot ≡ Some c.in-Some.frame = frame_is c.args.table.now c.args.slot ∙ c.in-Some.is in
    let begin : insn_at c.args.slots.now c.args.slot ≡ Some c.in-Some-slots.insn = insn_is c.args.slots.now c.args.slot _ (Some c.in-Some-slots.insn) c.requires.within c.in-Some-slots.is in
    let t = c.in-Ok.ensures in
    let f : SFits w32 c.in-Leaps.distance = search rules in
    let z = subst (λ d. pos (c.args.slot + 1) +ℤ d ≡ pos c.target.result) (to_z-of_z w32 c.in-Leaps.distance f) c.target.ensures.place in
    step_leaps c.args.form c.args.slots.now c.args.state_len c.args.slot c.args.table.now c.in-Some.frame c.in-Some-slots.insn c.flow_from-flow.result c.in-Ok.left.next c.in-Ok.left.taken c.requires.follows c.requires.least there begin c.flow_from-flow.ensures c.in_default.ensures t.0 t.1 t.2 c.in-Leaps.distance c.target.result c.merge.new.table c.in-Leaps.is z c.target.ensures.later c.target.ensures.begins c.merge.ensures

pub returns-in-Falls-clause-judged : goal.returns-in-Falls-clause-judged
returns-in-Falls-clause-judged c =
    let there : frame_at c.args.table.now c.args.slot ≡ Some c.in-Some.frame = frame_is c.args.table.now c.args.slot ∙ c.in-Some.is in
    let begin : insn_at c.args.slots.now c.args.slot ≡ Some c.in-Some-slots.insn = insn_is c.args.slots.now c.args.slot _ (Some c.in-Some-slots.insn) c.requires.within c.in-Some-slots.is in
    let t = c.in-Ok.ensures in
    step_falls c.args.form c.args.slots.now c.args.state_len c.args.slot c.args.table.now c.in-Some.frame c.in-Some-slots.insn c.flow_from-flow.result c.in-Ok.left.next c.in-Ok.left.taken c.requires.follows c.requires.least there begin c.flow_from-flow.ensures c.in_default.ensures t.0 t.1 t.2 c.in-Falls.size c.merge-in-Falls.new.table c.in-Falls.is c.merge-in-Falls.ensures

pub returns-in-Forks-clause-judged : goal.returns-in-Forks-clause-judged
returns-in-Forks-clause-judged c =
    let there : frame_at c.args.table.now c.args.slot ≡ Some c.in-Some.frame = frame_is c.args.table.now c.args.slot ∙ c.in-Some.is in
    let begin : insn_at c.args.slots.now c.args.slot ≡ Some c.in-Some-slots.insn = insn_is c.args.slots.now c.args.slot _ (Some c.in-Some-slots.insn) c.requires.within c.in-Some-slots.is in
    let t = c.in-Ok.ensures in
    let f : SFits w32 c.in-Forks.distance = search rules in
    let z = subst (λ d. pos (c.args.slot + 1) +ℤ d ≡ pos c.target-in-Forks.result) (to_z-of_z w32 c.in-Forks.distance f) c.target-in-Forks.ensures.place in
    step_forks c.args.form c.args.slots.now c.args.state_len c.args.slot c.args.table.now c.in-Some.frame c.in-Some-slots.insn c.flow_from-flow.result c.in-Ok.left.next c.in-Ok.left.taken c.requires.follows c.requires.least there begin c.flow_from-flow.ensures c.in_default.ensures t.0 t.1 t.2 c.in-Forks.distance c.target-in-Forks.result c.merge-in-Forks.new.table c.merge-in-Forks-2.new.table c.in-Forks.is z c.target-in-Forks.ensures.later c.target-in-Forks.ensures.begins c.merge-in-Forks.ensures c.merge-in-Forks-2.ensures

pub merge-requires-clause-short : goal.merge-requires-clause-short
merge-requires-clause-short c =
    let there : frame_at c.args.table.now c.args.slot ≡ Some c.in-Some.frame = frame_is c.args.table.now c.args.slot ∙ c.in-Some.is in
    let t = c.in-Ok.ensures in
    (leaves_short c.in-Some-slots.insn c.in-Some.frame c.in-Ok.left.next c.in-Ok.left.taken (c.requires.least.types.stands c.args.slot c.in-Some.frame there).short t.1 t.2).1

pub merge-requires-in-Falls-clause-short : goal.merge-requires-in-Falls-clause-short
merge-requires-in-Falls-clause-short c =
    let there : frame_at c.args.table.now c.args.slot ≡ Some c.in-Some.frame = frame_is c.args.table.now c.args.slot ∙ c.in-Some.is in
    let t = c.in-Ok.ensures in
    (leaves_short c.in-Some-slots.insn c.in-Some.frame c.in-Ok.left.next c.in-Ok.left.taken (c.requires.least.types.stands c.args.slot c.in-Some.frame there).short t.1 t.2).0

pub merge-requires-in-Forks-clause-short : goal.merge-requires-in-Forks-clause-short
merge-requires-in-Forks-clause-short c =
    let there : frame_at c.args.table.now c.args.slot ≡ Some c.in-Some.frame = frame_is c.args.table.now c.args.slot ∙ c.in-Some.is in
    let t = c.in-Ok.ensures in
    (leaves_short c.in-Some-slots.insn c.in-Some.frame c.in-Ok.left.next c.in-Ok.left.taken (c.requires.least.types.stands c.args.slot c.in-Some.frame there).short t.1 t.2).0

pub merge-requires-in-Forks-2-clause-short : goal.merge-requires-in-Forks-2-clause-short
merge-requires-in-Forks-2-clause-short c =
    let there : frame_at c.args.table.now c.args.slot ≡ Some c.in-Some.frame = frame_is c.args.table.now c.args.slot ∙ c.in-Some.is in
    let t = c.in-Ok.ensures in
    (leaves_short c.in-Some-slots.insn c.in-Some.frame c.in-Ok.left.next c.in-Ok.left.taken (c.requires.least.types.stands c.args.slot c.in-Some.frame there).short t.1 t.2).1
