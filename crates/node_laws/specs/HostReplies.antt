-- What the handlers of images answer
use Rattle.std.specs.Prelude.{ℕ, List, [], Option, Some, None}
use Rattle.helpers.specs.declared.effects.Who.{Who}
use Rattle.verifier.specs.declared.any_image.AnyImage.{AnyImage}
use Rattle.interp.specs.HandlerCall.{Handled}
use Rattle.interp.specs.Answer.{answer_by}
use Rattle.node.specs.Answering.{Answer, Answering}
use Rattle.process.specs.Work.{given_of}

-- the identity that a process's handler is called with, on a message of this sender
abbrev pub who_of : ℕ → ℕ → ℕ → Who
who_of count me from = record { me = me; from = from; count = count }

-- the state that it leaves, and what it sends. A call that doesn't end leaves the state as it was and sends nothing; no process takes such
-- an answer
abbrev pub answer_of : Who → List ℕ → Option Handled → Answer
answer_of who state None = record { state = state; given = [] }
answer_of who state (Some h) = record { state = h.state; given = given_of who h.effects }

-- the answers of processes whose handlers have these images
abbrev pub answering : ℕ → (ℕ → AnyImage) → Answering
answering count images =
    λ p state m. answer_of (who_of count p m.sender) state (answer_by (images p) (who_of count p m.sender) state m.payload)
