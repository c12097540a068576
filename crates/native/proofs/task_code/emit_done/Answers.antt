use Rattle.native.proofs.Emitted.{where_ok, done_by_body}
use Rattle.native.proofs.task_code.emit_done.Goals as goal

pub returns-in_default : goal.returns-in_default
returns-in_default c =
    let d = c.in_default in
    where_ok c.emit_body_of.result c.emit_body_of.ensures (λ x. (x.0, done_by_body c.args.task x.0 d.not-Compute d.not-Send d.not-Output d.not-SendSized d.not-OutputSized d.not-SendBy d.not-OutputBy d.not-SendSizedBy d.not-OutputSizedBy x.1, x.2))
