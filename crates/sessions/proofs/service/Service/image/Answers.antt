use Rattle.std.proofs.Common.{◌≡◌, ◌-◌, arith, refl, subst}
use Rattle.std.specs.Prelude.{option_copied}
use Rattle.std.specs.Option.{option_map}
use Rattle.std.specs.Slice.{IsItemAt}
use Rattle.interp.specs.Image.{image_in}
use Rattle.world.specs.History.{nth}
use Rattle.sessions.specs.Journal.{TheSession}
use Rattle.sessions.proofs.JobLemmas.{nth-read}
use Rattle.sessions.proofs.service.Service.image.Goals as goal

pub returns-then-process-eq0 : goal.returns-then-process-eq0
returns-then-process-eq0 c = rw c.if-process-eq0.true refl

pub returns : goal.returns
returns c =
    let P : TheSession → Type 0 = λ s. option_map image_in (option_copied c.get.result) ≡ nth s.images c.args.process in
    subst P c.self.view_is (nth-read image_in c.self.inside.images.items c.args.process c.get.result (omega (arith, c.if-process-eq0.false)) (subst (λ xs. IsItemAt xs (c.args.process - 1) c.get.result) c.deref.ensures.value c.get.ensures.lookup))
