-- What the answer of a handler adds to the state and the log of its process
use Rattle.std.proofs.Common.{◌≡◌, ℕ, ◌≤◌, List, [], ◌∷◌, ◌++◌, length, sym, ◌∙◌, subst, arith}
use Rattle.std.specs.Prelude.{Option, Some, None, slice_index_or}
use Rattle.sender_log.specs.Log.{IsDestination, queue_of}
use Rattle.replay.specs.Task.{TheCompletion, Answers}
use Rattle.world.specs.declared.message.Message.{Message}
use Rattle.world.specs.declared.packet.Packet.{Packet}
use Rattle.replay.specs.Emission.{emitted_to}
use Rattle.world.specs.World.{World}
use Rattle.session_process.specs.Outbox.{TheOutbox, Gives}
use Rattle.machine.specs.Fields.{IsLogOf}
use Rattle.machine.specs.Simulation.{TheMachine, Keeps, Shows}
use Rattle.machine.proofs.KeepLemmas.{keeps-extended}
use Rattle.machine.proofs.Others.{shows-with}

-- a machine that has other packets shows the world with these
pub shows-packets : (m : TheMachine) (w : World) → Shows m w → (slots : List (Option Packet)) (wire : ℕ → Option Packet) → ((j : ℕ) → wire j ≡ slice_index_or slots j None) → Shows (record m { slots = slots }) (record w { wire = wire })
shows-packets m w s slots wire wire_is = shows-with m w s m.calls slots wire wire_is

-- a process whose state is that of these messages: with the message of its job, they have the state and the sends that the handler gave
module _ (w : World) (b : TheCompletion) (a : Answers w.handlers b) (g : List Message) (state_was : b.task.state ≡ w.handlers.state b.task.who.me g) where
  abbrev me : ℕ
  me = b.task.who.me

  abbrev gx : List Message
  gx = g ++ b.task.message ∷ []

  pub state_after : w.handlers.state me gx ≡ b.state
  state_after = a.state g state_was

  pub sends_after : (d : ℕ) → w.handlers.sends me gx d ≡ w.handlers.sends me g d ++ emitted_to d b.effects
  sends_after d = a.sends g state_was d

  -- its log keeps these sends too
  pub keeps-given : (d : ℕ) (old new : TheOutbox) → Gives b.effects old new → IsDestination d old.log → Keeps (queue_of d old.log) (w.trims me d) (w.handlers.sends me g d) (w.numbers me d)
      → ((i j : ℕ) → w.numbers me d i ≡ Some j → i ≤ length (w.handlers.sends me g d)) → Keeps (queue_of d new.log) (w.trims me d) (w.handlers.sends me gx d) (w.numbers me d)
  keeps-given d old new gives dest kept bound =
      subst (λ ps. Keeps (queue_of d new.log) (w.trims me d) ps (w.numbers me d)) (sym (sends_after d))
      (subst (λ q. Keeps q (w.trims me d) (w.handlers.sends me g d ++ emitted_to d b.effects) (w.numbers me d)) (sym (gives.logged d dest))
      (keeps-extended (queue_of d old.log) (w.trims me d) (w.handlers.sends me g d) (emitted_to d b.effects) (w.numbers me d) bound kept))

-- a destination of the process's own log
pub dest-of : (n me d : ℕ) (b : TheOutbox) → IsLogOf n me b.log → d ≤ n → (me ≡ d → ⊥) → IsDestination d b.log
dest-of n me d b log_of to other = (omega (arith, log_of.width, to), λ e. other (sym (e ∙ log_of.owner)))
