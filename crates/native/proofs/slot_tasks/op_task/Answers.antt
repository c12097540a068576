use Rattle.std.proofs.Common.{◌≡◌, Some, sym, ap, ◌∙◌, subst}
use Rattle.std.proofs.lemmas.Option.{slice_get-get_or, slice_get_within}
use Rattle.dense.specs.declared.op.Op.TheVariants as op
use Rattle.native.specs.Inside.Operations.{task_for, IsTaskOf}
use Rattle.native.proofs.slot_tasks.op_task.Goals as goal

pub returns-in-Some : goal.returns-in-Some
returns-in-Some c = λ o t found is.
    let ops = c.args.ops.now in
    let pool = c.args.pool.now in
    let u = c.in-Some.task in
    let x : Some o ≡ Some c.op_at.result = sym found ∙ slice_get-get_or ops c.args.slot op.Dead (slice_get_within ops c.args.slot o found) ∙ ap Some (sym c.op_at.ensures) in
    let same : c.op_at.result ≡ o = cc in
    let y : Some u ≡ Some t = c.in-Some.ensures.value ∙ ap (task_for pool) same ∙ is in
    let q : u ≡ t = cc in
    let mine : IsTaskOf pool c.op_at.result u = record { acts = c.in-Some.ensures.acts; within = c.in-Some.ensures.within; fits = c.in-Some.ensures.fits } in
    (q, subst (λ v. IsTaskOf pool v t) same (subst (IsTaskOf pool c.op_at.result) q mine))

pub returns-in-None : goal.returns-in-None
returns-in-None c = λ o t found is.
    let ops = c.args.ops.now in
    let pool = c.args.pool.now in
    let x : Some o ≡ Some c.op_at.result = sym found ∙ slice_get-get_or ops c.args.slot op.Dead (slice_get_within ops c.args.slot o found) ∙ ap Some (sym c.op_at.ensures) in
    let same : c.op_at.result ≡ o = cc in
    let y = c.in-None.ensures.value ∙ ap (task_for pool) same ∙ is in
    cc
