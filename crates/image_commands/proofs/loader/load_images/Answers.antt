use Rattle.std.proofs.Common.{◌≡◌, ◌∙◌, Some, ap, string_bytes, subst, sym}
use Rattle.std.specs.Map.Iter.{deref_pair}
use Rattle.std.specs.Option.{option_map}
use Rattle.std.specs.Prelude.{slice_get}
use Rattle.interp.specs.Image.{image_in, the_image}
use Rattle.image_commands.specs.Check.{HasImage}
use Rattle.image_commands.specs.Inside.{HandlerFault}
use Rattle.image_commands.proofs.FaultLemmas.{becomes}
use Rattle.image_commands.proofs.LoadLemmas.{images_fault, loaded_more, pushed}
use Rattle.image_commands.proofs.loader.load_images.Goals as goal

pub returns-in_err-image-clause-fault : goal.returns-in_err-image-clause-fault
returns-in_err-image-clause-fault g c =
    let content = g.F.Files.content c.args.files.now in
    let failed = g.F.Files.failed c.load_handler.new.files in
    let es = c.args.processes.now.entries in
    let at : slice_get es c.loop-index.index ≡ Some (c.in-Some.name.now, c.in-Some.process.now) =
    sym c.get_index.ensures.entry ∙ ap (option_map deref_pair) c.in-Some.is in
    becomes c.from_residual-in_err-image.result _ _ c.from_residual-in_err-image.ensures.1
    (λ f is. images_fault content failed es c.loop-index.index _ (c.in-Some.name.now, c.in-Some.process.now) f at c.loop-index.invariant.0
    (subst (λ p. HandlerFault content failed p f) c.as_str-in-loop-index.ensures.value
    (subst (λ k. HandlerFault k failed c.as_str-in-loop-index.result.now f) c.loop-index.invariant.1
    (subst (HandlerFault (g.F.Files.content c.loop-index.files) failed c.as_str-in-loop-index.result.now) (sym is) c.in_err-image.ensures.fault))))

pub loop-index-preserved : goal.loop-index-preserved
loop-index-preserved g c =
    let content = g.F.Files.content c.args.files.now in
    let es = c.args.processes.now.entries in
    let image = the_image c.in_ok-image.image in
    let at : slice_get es c.loop-index.index ≡ Some (c.in-Some.name.now, c.in-Some.process.now) =
    sym c.get_index.ensures.entry ∙ ap (option_map deref_pair) c.in-Some.is in
    let loaded : HasImage content (string_bytes c.in-Some.process.now.path) image =
    subst (λ p. HasImage content p image) c.as_str-in-loop-index.ensures.value
    (subst (λ k. HasImage k c.as_str-in-loop-index.result.now image) c.loop-index.invariant.1 c.in_ok-image.ensures.loaded) in (
      loaded_more content es c.loop-index.index _ _ (c.in-Some.name.now, c.in-Some.process.now) image at c.loop-index.invariant.0 loaded
          (pushed image_in c.loop-index.images.items c.push.new.self.items c.in_ok-new.field-0 image c.in_ok-push.ensures.items (ap the_image c.in_ok-new.ensures.ok)),
      c.in_ok-image.ensures.same ∙ c.loop-index.invariant.1,
    )
