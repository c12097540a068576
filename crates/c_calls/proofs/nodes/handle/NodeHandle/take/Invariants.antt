use Rattle.std.specs.Prelude.{[], unwrap_or}
use Rattle.regtypes.specs.declared.image_form.ImageForm.TheVariants.{Sbi1}
use Rattle.verifier.specs.declared.any_image.AnyImage.TheVariants.{Flat}
use Rattle.recovery.specs.declared.lifecycle.Lifecycle.TheVariants.{Passing}
use Rattle.c_calls.proofs.nodes.handle.NodeHandle.take.Given as goal

abbrev pub ghost-into_loose : goal.ghost-into_loose
ghost-into_loose a = unwrap_or a.self.value (record { image = Flat (record { form = Sbi1; code = []; slots = []; table = []; len = 0; low = 0 }); lifecycle = Passing })
