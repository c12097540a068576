use Rattle.std.proofs.Common.{◌≡◌, true, sym, ◌∙◌, subst, arith}
use Rattle.std.specs.Prelude.{OnOk}
use Rattle.std.proofs.lemmas.Option.{slice_get-get_or}
use Rattle.native.specs.declared.task.SlotTask.TheVariants as task
use Rattle.native.specs.Tasks.{is_eligible}
use Rattle.native.specs.Code.{Emits}
use Rattle.native.specs.SlotCode.{Serves}
use Rattle.native.specs.Pending.{IsBalanced}
use Rattle.native.specs.Laid.{Fuses, ServesBy}
use Rattle.native.specs.SlotTasks.{task_at}
use Rattle.native.proofs.FusionLemmas.{fused_balanced}
use Rattle.native.proofs.slot_code.emit.Goals as goal

pub returns-in-Some : goal.returns-in-Some
returns-in-Some c =
    let a = c.args in
    let tasks = a.tasks.now in
    let r = c.emit_fused.result in
    let new = c.emit_fused.new.code.items in
    subst (λ o. OnOk r (Emits (ServesBy o tasks a.pending.now a.tails.now a.saved a.slot (task_at tasks a.slot)) a.code.now.items new)) (sym c.in-Some.is ∙ c.fused.ensures)
    (subst (λ t. OnOk r (Emits (Fuses a.pending.now a.tails.now a.slot c.in-Some.instr t) a.code.now.items new)) c.task_at.ensures c.emit_fused.ensures)

pub returns-in-None : goal.returns-in-None
returns-in-None c =
    let a = c.args in
    let tasks = a.tasks.now in
    let r = c.emit_task.result in
    let new = c.emit_task.new.code.items in
    subst (λ o. OnOk r (Emits (ServesBy o tasks a.pending.now a.tails.now a.saved a.slot (task_at tasks a.slot)) a.code.now.items new)) (sym c.in-None.is ∙ c.fused.ensures)
    (subst (λ t. OnOk r (Emits (Serves a.pending.now a.tails.now a.saved a.slot t) a.code.now.items new)) c.task_at-in-None.ensures c.emit_task.ensures)

pub emit_fused-requires-clause-small : goal.emit_fused-requires-clause-small
emit_fused-requires-clause-small c = c.requires.pended.small c.args.slot

pub emit_fused-requires-clause-balanced : goal.emit_fused-requires-clause-balanced
emit_fused-requires-clause-balanced c =
    fused_balanced c.args.tasks.now c.args.pending.now c.args.slot c.in-Some.instr c.requires.pended (sym c.fused.ensures ∙ c.in-Some.is)

pub emit_task-requires-clause-small : goal.emit_task-requires-clause-small
emit_task-requires-clause-small c = let x = c.requires.pended.small c.args.slot in omega arith

pub emit_task-requires-clause-eligible : goal.emit_task-requires-clause-eligible
emit_task-requires-clause-eligible c = subst (λ t. is_eligible c.args.slot t ≡ true) (sym c.task_at-in-None.ensures) c.requires.eligible

pub emit_task-requires-clause-balanced : goal.emit_task-requires-clause-balanced
emit_task-requires-clause-balanced c =
    let a = c.args in
    let tasks = a.tasks.now in
    subst (IsBalanced a.pending.now a.slot) (sym c.task_at-in-None.ensures) (c.requires.pended.each a.slot (task_at tasks a.slot) (slice_get-get_or tasks a.slot task.Dead c.requires.within))
