use Rattle.std.proofs.Common.{◌≡◌, ◌+◌, length, sym, ap, ◌∙◌, subst, arith}
use Rattle.decode.specs.Slots.{slots}
use Rattle.decode.proofs.SlotLemmas.{length-slots_of}
use Rattle.native.specs.SlotTasks.{tasks_in}
use Rattle.native.specs.Inside.Operations.{AreTold}
use Rattle.native.proofs.Told.{Telling, telling_none, telling_more}
use Rattle.native.proofs.slot_tasks.tasks_of.Goals as goal

pub slots-init : goal.slots-init
slots-init c =
    let p = c.args.image.now in
    telling_none p.slots p.table p.len c.args.ops.now c.args.pool.now c.in_ok-tasks.tasks.items c.in_ok-tasks.ensures.items

pub slots-preserved : goal.slots-preserved
slots-preserved c =
    let p = c.args.image.now in
    let t = c.task_there.result in
    let next = telling_more p.slots p.table p.len c.args.ops.now c.args.pool.now c.slots.tasks.items c.slots.slot t c.task_there.ensures.value c.task_there.ensures.told c.slots.invariant in
    subst (λ ts. Telling p.slots p.table p.len c.args.ops.now c.args.pool.now ts (c.slots.slot + 1)) (sym c.in_ok-push.ensures.items) next

pub returns-clause-value : goal.returns-clause-value
returns-clause-value c =
    let p = c.args.image.now in
    let n : c.slots-count.result ≡ length p.slots = c.slots-count.ensures ∙ ap slots c.code.ensures.value ∙ sym (length-slots_of p.code) ∙ ap length (sym c.code.ensures.slots) in
    let end : c.slots.slot ≡ length p.slots = omega arith in
    c.slots.invariant.value ∙ ap (tasks_in p.slots p.table p.len) end

pub returns-clause-told : goal.returns-clause-told
returns-clause-told c =
    let p = c.args.image.now in
    let n : c.slots-count.result ≡ length p.slots = c.slots-count.ensures ∙ ap slots c.code.ensures.value ∙ sym (length-slots_of p.code) ∙ ap length (sym c.code.ensures.slots) in
    let end : c.slots.slot ≡ length p.slots = omega arith in
    subst (AreTold p.table c.args.ops.now c.args.pool.now c.slots.tasks.items) end c.slots.invariant.told

pub returns-clause-long : goal.returns-clause-long
returns-clause-long c =
    let p = c.args.image.now in
    let n : c.slots-count.result ≡ length p.slots = c.slots-count.ensures ∙ ap slots c.code.ensures.value ∙ sym (length-slots_of p.code) ∙ ap length (sym c.code.ensures.slots) in
    let end : c.slots.slot ≡ length p.slots = omega arith in
    c.slots.invariant.long ∙ end
