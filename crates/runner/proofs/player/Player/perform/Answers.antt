use Rattle.std.proofs.Common.{List, subst}
use Rattle.std.proofs.lemmas.Result.{on_err_weaker}
use Rattle.std.specs.Prelude.{OnOk, ℕ, string_bytes}
use Rattle.runner.specs.Inside.{ArePlayed, ArePlayedTo, position_of}
use Rattle.runner.specs.Orders.{Position}
use Rattle.runner.proofs.Played.{cut-none, on_err, played-to}
use Rattle.runner.proofs.player.Player.perform.Goals as goal

pub returns-in_err-make_room-clause-short : goal.returns-in_err-make_room-clause-short
returns-in_err-make_room-clause-short c = λ images opened.
    on_err c.from_residual.result (cut-none images c.args.steps.now (string_bytes c.args.out.now) (string_bytes c.make_room.new.out) c.make_room.ensures.bytes)

pub returns-clause-done : goal.returns-clause-done
returns-clause-done c =
    subst (λ (old : List ℕ). OnOk c.play.result (ArePlayed c.args.steps.now (position_of c.args.self.now) (position_of c.play.new.self) old (string_bytes c.play.new.out))) c.make_room.ensures.bytes c.play.ensures.done

pub returns-clause-short : goal.returns-clause-short
returns-clause-short c = λ images opened.
    let steps = c.args.steps.now in
    let new = string_bytes c.play.new.out in
    on_err_weaker c.play.result (λ to. played-to images steps (string_bytes c.args.out.now) new (subst (λ (p : Position). ArePlayedTo steps p (string_bytes c.args.out.now) new) opened
    (subst (λ (old : List ℕ). ArePlayedTo steps (position_of c.args.self.now) old new) c.make_room.ensures.bytes to))) c.play.ensures.short
