-- What a handler call takes, and what it leaves
use Rattle.std.specs.Prelude.{◌≡◌, ◌≢◌, ◌≤◌, ℕ, List, [], ◌∷◌, ◌++◌}
use Rattle.limits.specs.declared.TheConstants.{PROCESSES}
use Rattle.helpers.specs.declared.effects.Who.{Who}
use Rattle.helpers.specs.Effects.{Emitted}
use Rattle.world.specs.declared.message.Message.{Message}
use Rattle.world.specs.Handlers.{Handlers}
use Rattle.replay.specs.Emission.{emitted_to}

-- which job it is, and on what the handler is called
pub record TheTask : Type 0 where
  pub serial : ℕ
  pub incarnation : ℕ
  pub rsn : ℕ
  pub state : List ℕ
  pub message : Message
  pub who : Who

-- a process of a session may be called so: for a message of another, or of the outside
pub record MayCall (who : Who) : Type 0 where
  pub inside : 1 ≤ who.me
  pub within : who.me ≤ who.count
  pub few : who.count ≤ PROCESSES
  pub sender : who.from ≤ who.count
  pub other : who.from ≢ who.me

-- a task, and the state and the effects that the handler left
pub record TheCompletion : Type 0 where
  pub task : TheTask
  pub state : List ℕ
  pub effects : Emitted

-- these handlers answer so: after each history that leads the process to the task's state, the task's message leads it to
-- the new state, and these effects are sent after the rest
pub record Answers (f : Handlers) (d : TheCompletion) : Type 0 where
  pub state : (h : List Message) → d.task.state ≡ f.state d.task.who.me h → f.state d.task.who.me (h ++ d.task.message ∷ []) ≡ d.state
  pub sends : (h : List Message) → d.task.state ≡ f.state d.task.who.me h → (to : ℕ)
      → f.sends d.task.who.me (h ++ d.task.message ∷ []) to ≡ f.sends d.task.who.me h to ++ emitted_to to d.effects
