use Rattle.verifier.specs.declared.header.Forms.TheVariants.{Any}
use Rattle.verifier.proofs.Files.{image_typable, refused_memory}
use Rattle.verifier.proofs.loader.load_any.Goals as goal

pub returns-in-Err-clause-only : goal.returns-in-Err-clause-only
returns-in-Err-clause-only c = λ form code len f t.
    (tt, refused_memory Any form code len c.args.bytes.now c.in-Err.error tt f t (c.in-Err.ensures.refused Any tt))

pub returns-in-Err-clause-refused : goal.returns-in-Err-clause-refused
returns-in-Err-clause-refused c = c.in-Err.ensures.refused Any tt

pub returns-in-Ok-flat_image-clause-typable : goal.returns-in-Ok-flat_image-clause-typable
returns-in-Ok-flat_image-clause-typable c = image_typable c.flat_form.result c.in_ok-code.code.items c.in_ok-code.state_len c.in-Ok-flat_image.image c.in-Ok-flat_image.ensures.image

pub returns-in-Err-flat_image-clause-only : goal.returns-in-Err-flat_image-clause-only
returns-in-Err-flat_image-clause-only c = λ form code len f t.
    (tt, refused_memory Any form code len c.args.bytes.now c.in-Err-flat_image.error tt f t (c.in-Err-flat_image.ensures.refused Any tt))

pub returns-in-Err-flat_image-clause-refused : goal.returns-in-Err-flat_image-clause-refused
returns-in-Err-flat_image-clause-refused c = c.in-Err-flat_image.ensures.refused Any tt
