use Rattle.native.proofs.Emitted.{where_ok, computed_by_body}
use Rattle.native.proofs.task_code.emit_compute.Goals as goal

pub returns-in_default : goal.returns-in_default
returns-in_default c =
    let d = c.in_default in
    where_ok c.emit_body_of.result c.emit_body_of.ensures (λ x. (x.0, computed_by_body c.args.op c.args.width c.args.dst c.args.operand x.0 d.not-Div d.not-Mod d.not-Sdiv d.not-Smod x.1, x.2))
