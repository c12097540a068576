use Rattle.std.proofs.Common.{subst}
use Rattle.std.specs.Prelude.{OnOk}
use Rattle.native.specs.Code.{IsBody, Emits}
use Rattle.native.proofs.task_code.emit_body_of.Goals as goal

pub returns : goal.returns
returns c = subst (λ b. OnOk c.emit_body.result (Emits (IsBody b) c.args.code.now.items c.emit_body.new.code.items)) c.body_of.ensures.value c.emit_body.ensures
