use Rattle.std.proofs.Common.{subst}
use Rattle.std.specs.Prelude.{OnOk}
use Rattle.native.specs.Code.{Emits}
use Rattle.native.proofs.Emitted.{served_plainly}
use Rattle.native.proofs.slot_code.emit_task.Goals as goal

pub returns-in_default : goal.returns-in_default
returns-in_default c =
    let a = c.args in
    let d = c.in_default in
    subst (λ H. OnOk c.emit_plain.result (Emits H a.code.now.items c.emit_plain.new.code.items))
    (served_plainly a.pending.now a.tails.now a.saved a.slot a.task d.not-Branch d.not-Leap d.not-Exit d.not-Dead) c.emit_plain.ensures
