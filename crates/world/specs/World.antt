-- The world: what was received, what is recorded, and what is on the wire. It holds no states of processes and no logs
use Rattle.std.specs.Prelude.{ℕ, List, [], Option, None, Bool, false, ◌&&◌, ◌==◌, nat_lt, nat_le, if◌then◌else◌}
use Rattle.world.specs.declared.message.Message.{Message}
use Rattle.world.specs.declared.packet.Packet.{Packet}
use Rattle.world.specs.History.{Payload}
use Rattle.world.specs.Phases.{Phase, Up}
use Rattle.world.specs.Handlers.{Handlers}

-- process 0 is the outside, which is always up; the processes are 1 to count
pub record World : Type 0 where
  pub count : ℕ
  pub handlers : Handlers
  -- of a process: what it received, and what it is doing
  pub history : ℕ → List Message
  pub phase : ℕ → Phase
  -- of its checkpoint: how many messages it covers, and by destination how many log entries were dropped by then
  pub saved : ℕ → ℕ
  pub saved_trims : ℕ → ℕ → ℕ
  -- of a process: by RSN whether it is acknowledged, by destination how many messages are released, and its incarnation
  pub acknowledged : ℕ → ℕ → Bool
  pub released : ℕ → ℕ → ℕ
  pub incarnation : ℕ → ℕ
  -- of a sender and a destination: how many log entries are dropped, and by SSN the RSN that is recorded
  pub trims : ℕ → ℕ → ℕ
  pub numbers : ℕ → ℕ → ℕ → Option ℕ
  -- of the outside: its inputs by destination, the feed numbers that are taken, and what it was shown
  pub inputs : ℕ → List Payload
  pub feeds : ℕ → Bool
  pub shown : List Message
  -- the packets by key, and how many jobs were started
  pub wire : ℕ → Option Packet
  pub started : ℕ

-- f, with the value x at k
abbrev pub put : {X : Type 0} → (ℕ → X) → ℕ → X → ℕ → X
put f k x j = if j == k then x else f j

-- n processes that received nothing, each in its first incarnation, and an empty wire
abbrev pub opening : ℕ → Handlers → World
opening n handlers =
    record {
      count = n;
      handlers = handlers;
      history = λ _. [];
      phase = λ _. Up;
      saved = λ _. 0;
      saved_trims = λ _ _. 0;
      acknowledged = λ _ _. false;
      released = λ _ _. 0;
      incarnation = λ _. 1;
      trims = λ _ _. 0;
      numbers = λ _ _ _. None;
      inputs = λ _. [];
      feeds = λ _. false;
      shown = [];
      wire = λ _. None;
      started = 0;
    }

-- whether p is a process and not the outside
abbrev pub is_inside : World → ℕ → Bool
is_inside w p = nat_lt 0 p && nat_le p w.count
