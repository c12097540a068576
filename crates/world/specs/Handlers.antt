-- What handlers do: state and sends follow from the history (piecewise determinism)
use Rattle.std.specs.Prelude.{ℕ, List}
use Rattle.world.specs.declared.message.Message.{Message}
use Rattle.world.specs.History.{Payload}

-- the state of a process after a history, and the payloads that it sent to a destination by then (to 0: its outputs)
pub record Handlers : Type 0 where
  pub state : ℕ → List Message → List ℕ
  pub sends : ℕ → List Message → ℕ → List Payload
