use Rattle.std.proofs.Common.{◌∙◌, ap, length, map, sym}
use Rattle.std.proofs.lemmas.List.{length-map}
use Rattle.std.proofs.lemmas.Result.{IfOk-weaker}
use Rattle.interp.specs.Image.{image_in}
use Rattle.runner.specs.Orders.{Position}
use Rattle.runner.proofs.styled_runs.tell.Goals as goal

pub telling-requires : goal.telling-requires
telling-requires c = c.requires.named ∙ sym (length-map c.args.images.items image_in) ∙ sym (ap (λ (p : Position). length p.images) c.in_ok-player.ensures)

pub returns : goal.returns
returns c = IfOk-weaker c.telling.result _ _ (λ text all. all (map image_in c.args.images.items) c.in_ok-player.ensures) c.telling.ensures
