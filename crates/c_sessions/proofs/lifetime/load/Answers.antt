use Rattle.std.proofs.Common.{rules, ◌≡◌, map, [], ◌∷◌, ◌++◌, arith}
use Rattle.std.proofs.lemmas.Grind.{common_steps}
use Rattle.interp.specs.Image.{image_in}
use Rattle.c_sessions.proofs.lifetime.load.Goals as goal

pub returns-clause-loaded : goal.returns-clause-loaded
returns-clause-loaded c =
    let image = image_in c.in_ok-image.image in
    let more : map image_in c.push.new.self.items ≡ map image_in c.args.images.now.items ++ image ∷ [] = first_of (search rules, grind (arith, common_steps)) in
    (image, more, c.in_ok-image.ensures)
