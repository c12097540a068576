-- Handlers by their answers
use Rattle.std.specs.Prelude.{◌≡◌, ◌⊎◌, ℕ, List, [], ◌∷◌, ◌++◌, Some}
use Rattle.world.specs.declared.message.Message.{Message}
use Rattle.world.specs.History.{Payload}
use Rattle.world.specs.Handlers.{Handlers}
use Rattle.packets.specs.declared.packet.NodePacket.{NodePacket}
use Rattle.node.specs.declared.job.OpenJob.{OpenJob}
use Rattle.node.specs.declared.job.Given.{Given}
use Rattle.node.specs.Node.{TheNode}
use Rattle.node.specs.Stands.{job_of, payloads_to}

-- the state that a handler leaves, and the messages that it sends
pub record Answer : Type 0 where
  pub state : List ℕ
  pub given : List Given

-- what the handler of each process answers to a message, in a state
abbrev pub Answering : Type 0
Answering = ℕ → List ℕ → Message → Answer

-- the state of p after these messages, from the state s on
abbrev pub state_from : Answering → ℕ → List ℕ → List Message → List ℕ
state_from f p s [] = s
state_from f p s (m ∷ h) = state_from f p (f p s m).state h

-- what p sent to d by then
abbrev pub sends_from : Answering → ℕ → List ℕ → List Message → ℕ → List Payload
sends_from f p s [] d = []
sends_from f p s (m ∷ h) d = payloads_to d (f p s m).given ++ sends_from f p (f p s m).state h d

-- the handlers that answer so, from these opening states
abbrev pub handlers_of : Answering → (ℕ → List ℕ) → Handlers
handlers_of f states = record { state = λ p h. state_from f p (states p) h; sends = λ p h d. sends_from f p (states p) h d }

-- the answer is that of the handler, if a job is open
abbrev pub IsAnswer : Answering → ℕ → TheNode → Answer → Type 0
IsAnswer f p n a = (j : OpenJob) → n.working ≡ Some j → a ≡ f p n.state (job_of j)

-- a packet is one of these
abbrev pub IsOne : NodePacket → List NodePacket → Type 0
IsOne x [] = ⊥
IsOne x (y ∷ ys) = (x ≡ y) ⊎ IsOne x ys
