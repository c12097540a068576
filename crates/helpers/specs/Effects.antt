-- What a contract sees of `Effects`.
use Rattle.std.specs.Prelude.{ℕ, List}
use Rattle.helpers.specs.declared.effects.Sent.{Sent}

-- the sends and the outputs, in order
pub record Emitted : Type 0 where
  pub sends : List Sent
  pub outputs : List (List ℕ)
