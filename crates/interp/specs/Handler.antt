-- What a contract sees of a handler: its image.
use Rattle.verifier.specs.declared.any_image.AnyImage.{AnyImage}
use Rattle.verifier.specs.declared.any_image.AnyImage.TheVariants.{Flat as AnyFlat, Span as AnySpan}
use Rattle.interp.specs.declared.handler.Handler.{Handler}
use Rattle.interp.specs.declared.handler.Handler.TheVariants.{Flat, Span}

-- the image of a handler
abbrev pub image_of : Handler → AnyImage
image_of (Flat image) = AnyFlat image
image_of (Span image) = AnySpan image
