-- The arrays in which calls run one after another.
use Rattle.std.specs.Prelude.{ℕ, List, slice_range}
use Rattle.helpers.specs.declared.effects.Who.{Who}
use Rattle.regtypes.specs.declared.frame.Region.TheVariants.{Message, State}
use Rattle.verifier.specs.Typed.{Typed}
use Rattle.interp.specs.Flat.{part, IsSpent}
use Rattle.verifier.specs.declared.any_image.AnyImage.TheVariants.{Flat as AnyFlat, Span as AnySpan}
use Rattle.verifier.specs.Span.Typed as span
use Rattle.interp.specs.CallArray as span_array
use Rattle.interp.specs.Image.{TheImage, as_image}
use Rattle.interp.specs.declared.handler.Handler.{Handler}
use Rattle.interp.specs.declared.handler.Handler.TheVariants.{Flat, Span}
use Rattle.c_runs.specs.declared.calls.TheConstants.{MESSAGE}
use Rattle.c_runs.specs.Calls.{IsReported}

-- no call is under way in the array that is kept for a handler. Calls of form 3 use another array
abbrev pub IsReady : Handler → List ℕ → Type 0
IsReady (Flat image) mem = IsSpent MESSAGE image.len image.low mem
IsReady (Span image) mem = Unit {0}

-- an image of form 1 or 2 as one of any form
abbrev pub flat_image : Typed → TheImage
flat_image image = as_image (AnyFlat image)

-- the state that the array holds
abbrev pub state_in : Typed → List ℕ → List ℕ
state_in image mem = part MESSAGE image.len State mem

-- one call in the array, with the message and the state that it holds
abbrev pub IsReportedIn : Typed → Who → List ℕ → List ℕ → List ℕ → ℕ → List ℕ → ℕ → Type 0
IsReportedIn image who mem left out at written end =
    IsReported (flat_image image) who (state_in image mem) (part MESSAGE image.len Message mem) (state_in image left) out at written end

-- an image of form 3 as one of any form
abbrev pub span_image : span.Typed → TheImage
span_image image = as_image (AnySpan image)

-- the same of a call of form 3, in its array
abbrev pub IsReportedAfter : span.Typed → Who → List ℕ → List ℕ → List ℕ → ℕ → List ℕ → ℕ → Type 0
IsReportedAfter image who mem left out at written end =
    IsReported (span_image image) who (span_array.state_in image.len mem)
    (slice_range mem 0 MESSAGE) (span_array.state_in image.len left) out at written end
