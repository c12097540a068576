-- What the handlers of images make of a history: a fold of handler calls over its messages
use Rattle.std.specs.Prelude.{ℕ, List, [], ◌++◌, length, replicate, fold, Option, Some, None}
use Rattle.helpers.specs.Effects.{Emitted}
use Rattle.interp.specs.Answer.{answered}
use Rattle.world.specs.declared.message.Message.{Message}
use Rattle.world.specs.History.{nth}
use Rattle.world.specs.Handlers.{Handlers}
use Rattle.replay.specs.Emission.{emitted_to}
pub use Rattle.interp.specs.Image.{TheImage}
pub use Rattle.interp.specs.Answer.{Handled}

-- the state of a process, and all that it has sent and put out
pub record Folded : Type 0 where
  pub state : List ℕ
  pub effects : Emitted

-- a state of zeros, with nothing sent
abbrev pub unfolded : ℕ → Folded
unfolded n = record { state = replicate n 0; effects = record { sends = []; outputs = [] } }

-- one more handler call: its state, and its effects after the earlier ones
abbrev pub joined : Folded → Option Handled → Folded
joined f None = f
joined f (Some h) = record {
  state = h.state;
  effects = record { sends = f.effects.sends ++ h.effects.sends; outputs = f.effects.outputs ++ h.effects.outputs };
}

-- process p of n, with this image, handles one more message
abbrev pub taken_in : ℕ → TheImage → ℕ → Folded → Message → Folded
taken_in n image p f m = joined f (answered image (record { me = p; from = m.sender; count = n }) f.state m.payload)

-- process p of n handles a history, from the state of zeros on
abbrev pub folded : ℕ → ℕ → Option TheImage → List Message → Folded
folded n p None h = unfolded 0
folded n p (Some image) h = fold (taken_in n image p) (unfolded image.len) h

-- the handlers of processes 1, 2, .. that have these images
abbrev pub handlers_of : List TheImage → Handlers
handlers_of images = record {
  state = λ p h. (folded (length images) p (nth images p) h).state;
  sends = λ p h d. emitted_to d (folded (length images) p (nth images p) h).effects;
}
