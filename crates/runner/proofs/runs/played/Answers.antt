use Rattle.std.proofs.Common.{map, refl, subst}
use Rattle.std.specs.Prelude.{string_bytes}
use Rattle.interp.specs.Image.{image_in}
use Rattle.runner.specs.Inside.{ArePlayed, position_of}
use Rattle.runner.specs.Orders.{Position}
use Rattle.runner.proofs.Played.{cut-none, on_err}
use Rattle.runner.proofs.runs.played.Goals as goal

pub returns-in_err-player-clause-short : goal.returns-in_err-player-clause-short
returns-in_err-player-clause-short c =
    on_err c.from_residual.result (cut-none (map image_in c.args.images.items) c.args.steps.now (string_bytes c.args.out.now) (string_bytes c.args.out.now) refl)

pub returns-in_err-perform-clause-short : goal.returns-in_err-perform-clause-short
returns-in_err-perform-clause-short c = on_err c.from_residual-in_err-perform.result (c.in_err-perform.ensures.short (map image_in c.args.images.items) c.in_ok-player.ensures)

pub returns-clause-done : goal.returns-clause-done
returns-clause-done c =
    subst (λ (p : Position). ArePlayed c.args.steps.now p (position_of c.perform.new.self) (string_bytes c.args.out.now) (string_bytes c.perform.new.out)) c.in_ok-player.ensures c.in_ok-perform.ensures.done
