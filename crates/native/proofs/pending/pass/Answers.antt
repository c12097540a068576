use Rattle.std.proofs.Common.{◌≡◌, ◌<◌, ◌+◌, length, sym, subst, ◌∙◌, arith}
use Rattle.std.specs.Prelude.{◌||◌}
use Rattle.std.proofs.lemmas.List.{get_or_read}
use Rattle.std.proofs.lemmas.Option.{slice_get_within}
use Rattle.native.specs.declared.task.SlotTask.TheVariants as task
use Rattle.native.specs.SlotTasks.{task_at}
use Rattle.native.proofs.Uncounted.{Passed, passed_more}
use Rattle.native.proofs.pending.pass.Goals as goal
use Rattle.native.proofs.pending.pass.Goals.{then-changed, else-changed}

pub loop-slot-preserved : goal.loop-slot-preserved
loop-slot-preserved c =
    let tasks = c.args.tasks.now in
    let slot = c.loop-slot.slot in
    let lt : slot < length tasks = omega (arith, c.loop-slot-test.true) in
    let is : c.index-tasks-slot.result ≡ task_at tasks slot = get_or_read tasks _ _ lt c.index-tasks-slot.is task.Dead in
    let e = c.lower_behind-less.ensures in
    let more : c.if-changed.changed ≡ (c.loop-slot.changed || c.lower_behind-less.result) =
    elim c.if-changed.branch [ then-changed w ↦ rw w.if-changed.true (w.changed-is ∙ w.if-changed.true) | else-changed w ↦ rw w.if-changed.false w.changed-is ] in
    subst (λ b. Passed tasks c.args.pending.now.items c.lower_behind-less.new.pending.items b (slot + 1)) (sym more)
    (passed_more tasks c.args.pending.now.items c.loop-slot.pending.items c.lower_behind-less.new.pending.items c.loop-slot.changed c.lower_behind-less.result slot c.index-tasks-slot.result lt is e.list e.more e.same e.balanced e.falls c.loop-slot.invariant)

pub returns-clause-balanced : goal.returns-clause-balanced
returns-clause-balanced c =
    λ f k t found.
    let w = slice_get_within c.args.tasks.now k t found in
    let below : k < c.loop-slot.slot = omega (arith, w, c.loop-slot-test.false) in
    c.loop-slot.invariant.balanced f k t below found
