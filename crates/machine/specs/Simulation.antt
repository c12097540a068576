-- Which worlds a machine stands for, and what a call guarantees
use Rattle.std.specs.Prelude.{◌≡◌, ◌≢◌, ℕ, suc, ◌+◌, ◌-◌, ◌<◌, ◌≤◌, List, [], ◌++◌, length, map, take, Option, Some, None, Result, Ok, Err}
use Rattle.std.specs.Prelude.{Bool, true, false, ◌==◌, ◌||◌, nat_le, if◌then◌else◌, slice_index_or}
use Rattle.std.specs.List.{filter}
use Rattle.sender_log.specs.Queue.{TheQueue}
use Rattle.sender_log.specs.Log.{TheLog, queue_of}
use Rattle.send_gate.specs.Gate.{TheGate, count_to}
use Rattle.checkpoint.specs.Saved.{TheSaved, nothing_kept}
use Rattle.world.specs.declared.message.Message.{Message}
use Rattle.world.specs.declared.packet.Packet.{Packet}
use Rattle.world.specs.declared.call.Call.{Call}
use Rattle.world.specs.declared.answer.Answer.{Answer}
use Rattle.world.specs.declared.refusal.Refusal.{Refusal}
use Rattle.world.specs.declared.refusal.Refusal.TheVariants.{Memory}
use Rattle.world.specs.History.{Payload}
use Rattle.world.specs.Phases.{Phase, Up, is_up, is_down}
use Rattle.world.specs.World.{World}
use Rattle.world.specs.Logs.{sent, run_of}
use Rattle.world.specs.Calls.{after}
use Rattle.world.specs.Answers.{MayAnswer}
use Rattle.world.specs.Refusals.{refusal_of, cause_of}
use Rattle.theorems.specs.Invariants.Sound.{Sound}
use Rattle.theorems.specs.Invariants.Tidy.{Tidy}
use Rattle.theorems.specs.Invariants.Gated.{Gated}
use Rattle.session_process.specs.Process.{TheProcess, idle_process}
use Rattle.session_process.specs.Outside.{TheOutside, is_taken}
use Rattle.session_process.specs.Outbox.{empty_outbox}
use Rattle.session_process.specs.Mode.{is_live, is_lost}
use Rattle.machine.specs.Receipts.{InOrder}
use Rattle.machine.specs.Work.{held_by, phase_of, MayWork}

-- what clauses see of a machine: no capacities. Processes, and the lengths of their states, are those of the numbers 1, 2, ..
pub record TheMachine : Type 0 where
  pub lengths : List ℕ
  pub processes : List TheProcess
  pub outside : TheOutside
  pub slots : List (Option Packet)
  pub started : ℕ
  pub calls : ℕ

-- the process of this number, from 1
abbrev pub process_at : TheMachine → ℕ → TheProcess
process_at m p = slice_index_or m.processes (p - 1) (idle_process 0 0 0)

-- the log of this number. That of the outside has its inputs
abbrev pub log_at : TheMachine → ℕ → TheLog
log_at m p = if p == 0 then m.outside.log else (process_at m p).outbox.log

-- the gate of the process with this number, from 1. The outside has none, since its inputs never wait
abbrev pub gate_at : TheMachine → ℕ → TheGate
gate_at m p = (process_at m p).outbox.gate

-- whether this one is up. The outside always is
abbrev pub is_up_at : TheMachine → ℕ → Bool
is_up_at m p = (p == 0) || is_live (process_at m p).mode

-- the first elements of a list are dropped, this many, and these are left
pub record IsRest {X : Type 0} (dropped : ℕ) (rest all : List X) : Type 0 where
  pub before : List X
  pub count : length before ≡ dropped
  pub joined : before ++ rest ≡ all

-- for each destination the first sent messages are dropped, as many as trims says, and the others are saved
pub record Saves (n me : ℕ) (s : TheSaved) (state : List ℕ) (history : List Message) (trims : ℕ → ℕ) (sent : ℕ
    → List Payload) : Type 0 where
  pub state_is : s.state ≡ state
  pub senders_are : s.senders ≡ map (λ (m : Message). m.sender) history
  pub first : (d : ℕ) → d ≤ n → d ≢ me → (slice_index_or s.queues d nothing_kept).first ≡ suc (trims d)
  pub rest : (d : ℕ) → d ≤ n → d ≢ me → IsRest (trims d) (slice_index_or s.queues d nothing_kept).payloads (sent d)

-- what the machine keeps of the process me of n agrees with what it received, what it does, and what its checkpoint covers. While
-- it is down, its state and its logs are gone
pub record StandsAt (n me : ℕ) (kept : TheProcess) (state : List Message → List ℕ) (sends : List Message → ℕ
    → List Payload) (history : List Message) (phase : Phase) (incarnation : ℕ) (acknowledged : ℕ → Bool) (saved : ℕ) (saved_trims : ℕ
    → ℕ) : Type 0 where
  pub state_is : is_lost kept.mode ≡ false → kept.state ≡ state (held_by kept.mode saved history)
  pub gone : is_lost kept.mode ≡ true → (kept.state ≡ []) × (kept.outbox ≡ empty_outbox me n)
  pub senders : kept.receipts.senders ≡ map (λ (m : Message). m.sender) (held_by kept.mode saved history)
  pub flags : length kept.receipts.acknowledged ≡ length kept.receipts.senders
  pub acknowledged_is : (k : ℕ) → k < length kept.receipts.senders
      → slice_index_or kept.receipts.acknowledged k false ≡ acknowledged (suc k)
  pub in_order : InOrder history
  pub phase_is : phase ≡ phase_of n kept.mode kept.working
  pub works : MayWork kept.mode kept.working saved history
  pub incarnation_is : incarnation ≡ kept.incarnation
  pub saves : Saves n me kept.saved (state (take saved history)) (take saved history) saved_trims (sends (take saved history))

-- the first of these messages are dropped, and a queue keeps the others, with their RSNs by SSN
pub record Keeps (q : TheQueue) (dropped : ℕ) (payloads : List Payload) (numbers : ℕ → Option ℕ) : Type 0 where
  pub first : q.first ≡ suc dropped
  pub rest : IsRest dropped q.payloads payloads
  pub as_many : length q.numbers ≡ length q.payloads
  pub numbers_are : (i : ℕ) → i < length q.payloads → slice_index_or q.numbers i None ≡ numbers (suc (dropped + i))

-- a gate has let out to the destination d what is released, and what waits follows it: counting the sends for the first k of n
-- messages, k from the run on, it has let out or holds as many as these messages send
pub record Holds (d : ℕ) (g : TheGate) (run n released : ℕ) (sent_by : ℕ → ℕ) : Type 0 where
  pub released_is : slice_index_or g.released d 0 ≡ released
  pub waits : (k : ℕ) → run ≤ k → k ≤ n → released + count_to d (filter (λ h. nat_le h.rsn k) g.waiting) ≡ sent_by k

-- how many messages to d the first k messages of p's history send
abbrev pub sent_by : World → ℕ → ℕ → ℕ → ℕ
sent_by w p d k = length (w.handlers.sends p (take k (w.history p)) d)

-- the machine shows this world. The log of a process that is down is empty, and the gate of one that isn't up lets nothing out
pub record Shows (m : TheMachine) (w : World) : Type 0 where
  pub count : w.count ≡ length m.processes
  pub process : (p : ℕ) (d : TheProcess) → p < length m.processes
      → StandsAt (length m.processes)
      (suc p) (slice_index_or m.processes p d)
      (w.handlers.state (suc p))
      (w.handlers.sends (suc p))
      (w.history (suc p)) (w.phase (suc p))
      (w.incarnation (suc p)) (w.acknowledged (suc p)) (w.saved (suc p)) (w.saved_trims (suc p))
  pub logs : (p d : ℕ) → p ≤ length m.processes → d ≤ length m.processes → p ≢ d → is_down (w.phase p) ≡ false
      → Keeps (queue_of d (log_at m p)) (w.trims p d) (sent w p d) (w.numbers p d)
  pub gates : (p d : ℕ) → 0 < p → p ≤ length m.processes → d ≤ length m.processes → p ≢ d → is_up (w.phase p) ≡ true
      → Holds d (gate_at m p) (run_of w p) (length (w.history p)) (w.released p d) (sent_by w p d)
  pub shut : (p d : ℕ) → 0 < p → p ≤ length m.processes → is_up (w.phase p) ≡ false → slice_index_or (gate_at m p).released d 0 ≡ 0
  pub feeds : (k : ℕ) → w.feeds k ≡ is_taken k m.outside
  pub shown : w.shown ≡ m.outside.shown
  pub wire : (key : ℕ) → w.wire key ≡ slice_index_or m.slots key None
  pub started : w.started ≡ m.started
  pub outside : w.phase 0 ≡ Up

-- the machine stands for this world, and what every call keeps holds there
pub record Stands (m : TheMachine) (w : World) : Type 0 where
  pub shows : Shows m w
  pub sound : Sound w
  pub tidy : Tidy w
  pub gated : Gated w
  -- the outside has no inputs for itself
  pub unsent : w.inputs 0 ≡ []

-- an accepted call is a step of the world, and the new machine, with states of the same lengths, stands for the world after it
pub record Steps (old new : TheMachine) (room : ℕ) (call : Call) (answer : Answer) (w : World) : Type 0 where
  pub accepted : refusal_of w room call ≡ None
  pub answered : MayAnswer w call answer
  pub stands : Stands new (after w call answer)
  pub lengths : new.lengths ≡ old.lengths

-- what every call guarantees in each world that the machine stands for. A refusal changes nothing, and tells the least cause
abbrev pub Simulates : TheMachine → TheMachine → ℕ → Call → Result Answer Refusal → Type 0
Simulates old new room call (Ok answer) = (w : World) → Stands old w → Steps old new room call answer w
Simulates old new room call (Err refusal) = (new ≡ old) × ((w : World) → Stands old w → refusal_of w room call ≡ cause_of refusal)

-- the result of a call as an answer
abbrev pub answering : {X : Type 0} → (X → Answer) → Result X Refusal → Result Answer Refusal
answering f (Ok x) = Ok (f x)
answering f (Err r) = Err r

-- a cause is one of the world's, never lack of memory
abbrev pub IsTold : Option Refusal → Type 0
IsTold None = Unit {0}
IsTold (Some refusal) = refusal ≢ Memory
