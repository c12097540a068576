use Rattle.std.specs.Prelude.{Err, Ok}
use Rattle.runner.proofs.Carried.{driven}
use Rattle.runner.proofs.player.Player.drive.Goals as goal

pub returns-in-Ok : goal.returns-in-Ok
returns-in-Ok c =
    let s = c.args.self.now in
    driven c.args.budget s.session c.drive.new.self (Ok c.in-Ok.field-0) s.held.items s.inputs c.in-Ok.ensures

pub returns-in-Err : goal.returns-in-Err
returns-in-Err c =
    let s = c.args.self.now in
    driven c.args.budget s.session c.drive.new.self (Err c.in-Err.refusal) s.held.items s.inputs c.in-Err.ensures
