-- What can be read of a process
use Rattle.std.specs.Prelude.{◌≡◌, ◌≢◌, ℕ, suc, ◌<◌, ◌≤◌, [], length, map, take, true, false, slice_index_or}
use Rattle.rsn.specs.Receipts.{Received}
use Rattle.sender_log.specs.Queue.{no_queue}
use Rattle.sender_log.specs.Log.{TheLog, queue_of}
use Rattle.send_gate.specs.Gate.{TheGate}
use Rattle.world.specs.declared.message.Message.{Message}
use Rattle.world.specs.Phases.{is_up, is_down}
use Rattle.world.specs.World.{World}
use Rattle.world.specs.Logs.{length_of, sent, run_of}
use Rattle.machine.specs.Simulation.{Keeps, Holds, sent_by}

-- receipts have the sender of each message that p has received, and whether it is acknowledged. While p is down there are none
pub record ReceiptsStand (w : World) (p : ℕ) (r : Received) : Type 0 where
  pub senders : is_down (w.phase p) ≡ false → r.senders ≡ map (λ (m : Message). m.sender) (take (length_of w p) (w.history p))
  pub none : is_down (w.phase p) ≡ true → r.senders ≡ []
  pub flags : length r.acknowledged ≡ length r.senders
  pub acknowledged : (k : ℕ) → k < length r.senders → slice_index_or r.acknowledged k false ≡ w.acknowledged p (suc k)

-- a log keeps for each other number what p sent there and hasn't dropped, with the RSNs that came back. While p is down it is empty
abbrev pub LogStands : World → ℕ → TheLog → Type 0
LogStands w p l =
    (d : ℕ) → d ≤ w.count → p ≢ d →
    record {
      kept : is_down (w.phase p) ≡ false → Keeps (queue_of d l) (w.trims p d) (sent w p d) (w.numbers p d);
      none : is_down (w.phase p) ≡ true → queue_of d l ≡ no_queue;
    }

-- to each other number a gate has released what p released there, and the rest of what p sent waits. While p isn't up nothing is
-- released
abbrev pub GateStands : World → ℕ → TheGate → Type 0
GateStands w p g =
    (d : ℕ) → d ≤ w.count → p ≢ d →
    record {
      holds : is_up (w.phase p) ≡ true → Holds d g (run_of w p) (length (w.history p)) (w.released p d) (sent_by w p d);
      shut : is_up (w.phase p) ≡ false → slice_index_or g.released d 0 ≡ 0;
    }
