-- What follows from the histories: states, lengths, sent messages, and the senders' logs
use Rattle.std.specs.Prelude.{ℕ, zero, suc, ◌+◌, List, length, Option, Some, None, Bool, true, not, ◌&&◌, ◌==◌, nat_lt, nat_le}
use Rattle.std.specs.Prelude.{if◌then◌else◌, take}
use Rattle.world.specs.declared.message.Message.{Message}
use Rattle.world.specs.History.{Payload, nth, count_of}
use Rattle.world.specs.Phases.{Phase, Up, Busy, Down, Replaying, Resync, is_down}
use Rattle.world.specs.World.{World}

-- how many messages of its history are in the state of a process in this phase
abbrev pub length_in : List Message → ℕ → Phase → ℕ
length_in h saved Up = length h
length_in h saved (Busy m) = length h
length_in h saved Down = saved
length_in h saved (Replaying j working alone) = saved + j
length_in h saved (Resync todo) = length h

-- how many messages of its history are in the state of a process. While it is down, those that its checkpoint covers
abbrev pub length_of : World → ℕ → ℕ
length_of w p = length_in (w.history p) (w.saved p) (w.phase p)

-- the state of a process, in bytes. While it is down, the state of its checkpoint
abbrev pub state_of : World → ℕ → List ℕ
state_of w p = w.handlers.state p (take (length_of w p) (w.history p))

-- the message of the open job, live or replayed, of a process in this phase. A replayed message is the next of its history
abbrev pub open_in : List Message → ℕ → Phase → Option Message
open_in h saved Up = None
open_in h saved (Busy m) = Some m
open_in h saved Down = None
open_in h saved (Replaying j working alone) = if working then nth h (saved + j + 1) else None
open_in h saved (Resync todo) = None

-- the message that process p works on
abbrev pub open_message : World → ℕ → Option Message
open_message w p = open_in (w.history p) (w.saved p) (w.phase p)

-- what a sender with this history sends to a destination. The outside sends its inputs
abbrev pub payloads : World → ℕ → List Message → ℕ → List Payload
payloads w s h d = if s == 0 then w.inputs d else w.handlers.sends s h d

-- what a sender has sent to a destination
abbrev pub sent : World → ℕ → ℕ → List Payload
sent w s d = payloads w s (take (length_of w s) (w.history s)) d

-- how many messages its whole history sends to a destination
abbrev pub sent_in_all : World → ℕ → ℕ → ℕ
sent_in_all w p d = length (payloads w p (w.history p) d)

-- whether all of f 1 .. f k hold
abbrev pub all_to : (ℕ → Bool) → ℕ → Bool
all_to f zero = true
all_to f (suc k) = f (suc k) && all_to f k

-- the greatest k up to n such that f 1 .. f k hold
abbrev pub run_to : (ℕ → Bool) → ℕ → ℕ
run_to f zero = 0
run_to f (suc k) = if all_to f (suc k) then suc k else run_to f k

-- the RSN up to which all that a process received is acknowledged
abbrev pub run_of : World → ℕ → ℕ
run_of w p = run_to (w.acknowledged p) (length (w.history p))

-- how many of its messages to a destination are released. The outside releases all its inputs
abbrev pub released_to : World → ℕ → ℕ → ℕ
released_to w s d = if s == 0 then length (w.inputs d) else w.released s d

-- how many messages of s a destination has for good: those in its checkpoint. The outside has those that it was shown
abbrev pub covered : World → ℕ → ℕ → ℕ
covered w s d = count_of s (if d == 0 then w.shown else take (w.saved d) (w.history d))

-- whether the log of s has the message of this SSN to d. The log of a process that is down is empty
abbrev pub is_entry : World → ℕ → ℕ → ℕ → Bool
is_entry w s d i = not (is_down (w.phase s)) && nat_lt (w.trims s d) i && nat_le i (length (sent w s d))
