-- Lists of calls, worked out by hand
use Rattle.std.specs.Prelude.{◌≡◌, ℕ, ◌-◌, List, [], ◌∷◌, ◌++◌, Some, None, true, false, take, if◌then◌else◌, ◌==◌}
use Rattle.limits.specs.declared.TheConstants.{ENTRIES}
use Rattle.world.specs.declared.message.Message.{Message}
use Rattle.world.specs.declared.packet.Packet.TheVariants.{Number}
use Rattle.world.specs.declared.call.Call.{Call}
use Rattle.world.specs.declared.call.Call.TheVariants.{Input, Transmit, Copy, Lose, Arrive, Finish, Checkpoint, Trim, Crash, Recover}
use Rattle.world.specs.declared.call.Call.TheVariants.{RecoverAlone, ReplayBegin, Resync as ResyncWith}
use Rattle.world.specs.declared.answer.Answer.{Answer}
use Rattle.world.specs.declared.answer.Answer.TheVariants.{Logged, Placed, Lost, Started, Numbered, Acknowledged, Shown, Duplicate}
use Rattle.world.specs.declared.answer.Answer.TheVariants.{ShownBefore, Early, Stale, Committed, Replayed, Saved, Trimmed, Crashed, Kept}
use Rattle.world.specs.declared.answer.Answer.TheVariants.{Restored}
use Rattle.world.specs.declared.entry.Entry.{Entry}
use Rattle.world.specs.Handlers.{Handlers}
use Rattle.world.specs.Phases.{Up}
use Rattle.world.specs.Logs.{length_of, state_of}
use Rattle.world.specs.World.{opening}
use Rattle.world.specs.Refusals.{refusal_of}
use Rattle.world.specs.Useful.{is_useful}
use Rattle.world.specs.Legal.{Legal, world_of, all_single}

-- a call by worker 0, which needn't be useful or free
abbrev pub by_nobody : Call → Answer → Entry
by_nobody call answer = record { worker = 0; call = call; answer = answer }

-- a call by worker 1, which has to be useful or free
abbrev pub by_worker : Call → Answer → Entry
by_worker call answer = record { worker = 1; call = call; answer = answer }

-- one message of the outside to one process, from its feed to the committed state
abbrev pub one_message : List ℕ → List Entry
one_message x =
    by_nobody (Input 1 1 x) (Logged 1)
    ∷ by_nobody (Transmit 0 1 1) (Placed 0)
    ∷ by_nobody (Arrive 0) (Started 1)
    ∷ by_nobody (Finish 1) (Committed 1 0)
    ∷ []

-- the outside's first message to a process
abbrev pub first_input : List ℕ → Message
first_input x = record { sender = 0; ssn = 1; payload = x }

-- whatever the handlers do, the list is legal, the process has the state that follows the message, and its number is on the wire
abbrev pub OneMessageIsLegal : Type 0
OneMessageIsLegal =
    (f : Handlers) (x : List ℕ) →
    Legal 1 f (one_message x)
    × ((world_of 1 f (one_message x)).phase 1 ≡ Up)
    × (length_of (world_of 1 f (one_message x)) 1 ≡ 1)
    × (state_of (world_of 1 f (one_message x)) 1 ≡ f.state 1 (first_input x ∷ []))
    × ((world_of 1 f (one_message x)).wire 0 ≡ Some (Number 1 0 1 1 1))

-- handlers that send nothing
abbrev pub silent : (ℕ → List Message → List ℕ) → Handlers
silent g = record { state = g; sends = λ p h d. [] }

-- two processes crash. While the second is down the first comes back alone, and the second then asks it for its numbers
abbrev pub two_crashes : List Entry
two_crashes =
    by_nobody (Crash 1) (Crashed 2)
    ∷ by_nobody (Crash 2) (Crashed 2)
    ∷ by_nobody (RecoverAlone 1) (Kept 0)
    ∷ by_nobody (RecoverAlone 2) (Kept 0)
    ∷ by_nobody (ResyncWith 2 1) (Restored 0)
    ∷ []

-- the list is legal; the first crash is a single failure and the second isn't. While another process is down, a recovery that is
-- not alone is refused, and so is restoring numbers from a process that is down
abbrev pub TwoCrashesAreLegal : Type 0
TwoCrashesAreLegal =
    (g : ℕ → List Message → List ℕ) →
    Legal 2 (silent g) two_crashes
    × (refusal_of (world_of 2 (silent g) (take 1 two_crashes)) (ENTRIES - 1) (Recover 2) ≡ Some 8)
    × (refusal_of (world_of 2 (silent g) (take 2 two_crashes)) (ENTRIES - 2) (Recover 1) ≡ Some 8)
    × (refusal_of (world_of 2 (silent g) (take 4 two_crashes ++ by_nobody (Crash 1) (Crashed 3) ∷ []))
    (ENTRIES - 5) (ResyncWith 2 1) ≡ Some 8)
    × ((world_of 2 (silent g) two_crashes).phase 1 ≡ Up)
    × ((world_of 2 (silent g) two_crashes).phase 2 ≡ Up)
    × (all_single (opening 2 (silent g)) (take 1 two_crashes) ≡ true)
    × (all_single (opening 2 (silent g)) (take 2 two_crashes) ≡ false)

-- a process crashes while its job is open
abbrev pub lost_job : List ℕ → List Entry
lost_job x =
    by_nobody (Input 1 1 x) (Logged 1)
    ∷ by_nobody (Transmit 0 1 1) (Placed 0)
    ∷ by_nobody (Arrive 0) (Started 1)
    ∷ by_nobody (Crash 1) (Crashed 2)
    ∷ by_nobody (Recover 1) (Kept 0)
    ∷ []

-- the list is legal, the job's result is refused after the crash, and the process has received nothing
abbrev pub LostJobIsLegal : Type 0
LostJobIsLegal =
    (g : ℕ → List Message → List ℕ) (x : List ℕ) →
    Legal 1 (silent g) (lost_job x)
    × (refusal_of (world_of 1 (silent g) (take 4 (lost_job x))) (ENTRIES - 4) (Finish 1) ≡ Some 9)
    × ((world_of 1 (silent g) (lost_job x)).phase 1 ≡ Up)
    × (state_of (world_of 1 (silent g) (lost_job x)) 1 ≡ g 1 [])
    × (all_single (opening 1 (silent g)) (lost_job x) ≡ true)

-- a process receives a message, saves a checkpoint and crashes. The outside drops the message from its log before the crash, but
-- not before the checkpoint covers it
abbrev pub saved_message : List ℕ → List Entry
saved_message x =
    one_message x
    ++ by_nobody (Trim 1) (Trimmed 0)
    ∷ by_nobody (Checkpoint 1) (Saved 1)
    ∷ by_nobody (Trim 1) (Trimmed 1)
    ∷ by_nobody (Crash 1) (Crashed 2)
    ∷ by_nobody (Recover 1) (Kept 1)
    ∷ []

-- the list is legal, and the process has the state that follows the message at once, with nothing to replay
abbrev pub SavedMessageIsKept : Type 0
SavedMessageIsKept =
    (g : ℕ → List Message → List ℕ) (x : List ℕ) →
    Legal 1 (silent g) (saved_message x)
    × ((world_of 1 (silent g) (saved_message x)).phase 1 ≡ Up)
    × (length_of (world_of 1 (silent g) (saved_message x)) 1 ≡ 1)
    × (state_of (world_of 1 (silent g) (saved_message x)) 1 ≡ g 1 (first_input x ∷ []))

-- a message is received, and its number is recorded and acknowledged
abbrev pub acknowledged_message : List ℕ → List Entry
acknowledged_message x =
    one_message x
    ++ by_nobody (Arrive 0) (Numbered 0)
    ∷ by_nobody (Arrive 0) Acknowledged
    ∷ []

-- its process crashes and replays it
abbrev pub replayed_message : List ℕ → List Entry
replayed_message x =
    acknowledged_message x
    ++ by_nobody (Crash 1) (Crashed 2)
    ∷ by_nobody (Recover 1) (Kept 1)
    ∷ by_nobody (ReplayBegin 1) (Started 2)
    ∷ by_nobody (Finish 1) (Replayed 1)
    ∷ []

-- the list is legal, a replayed job is not started twice, and the process has the state that follows the message
abbrev pub ReplayedMessageIsKept : Type 0
ReplayedMessageIsKept =
    (g : ℕ → List Message → List ℕ) (x : List ℕ) →
    Legal 1 (silent g) (replayed_message x)
    × (refusal_of (world_of 1 (silent g) (take 9 (replayed_message x))) (ENTRIES - 9) (ReplayBegin 1) ≡ Some 3)
    × ((world_of 1 (silent g) (replayed_message x)).phase 1 ≡ Up)
    × (state_of (world_of 1 (silent g) (replayed_message x)) 1 ≡ g 1 (first_input x ∷ []))
    × (all_single (opening 1 (silent g)) (replayed_message x) ≡ true)

-- the payloads of a list
abbrev pub texts : List Message → List (List ℕ)
texts [] = []
texts (m ∷ ms) = m.payload ∷ texts ms

-- process 1 passes on to this destination what it receives
abbrev pub relaying : ℕ → (ℕ → List Message → List ℕ) → Handlers
relaying to g = record { state = g; sends = λ p h d. if p == 1 then (if d == to then texts h else []) else [] }

-- a message is relayed and received. The relay crashes and asks the receiver for its numbers. Then the receiver crashes
abbrev pub relayed_message : List ℕ → List Entry
relayed_message x =
    acknowledged_message x
    ++ by_nobody (Transmit 1 2 1) (Placed 0)
    ∷ by_nobody (Arrive 0) (Started 2)
    ∷ by_nobody (Finish 2) (Committed 1 0)
    ∷ by_nobody (Arrive 0) (Numbered 0)
    ∷ by_nobody (Arrive 0) Acknowledged
    ∷ by_nobody (Crash 1) (Crashed 2)
    ∷ by_nobody (Recover 1) (Kept 1)
    ∷ by_nobody (ReplayBegin 1) (Started 3)
    ∷ by_nobody (Finish 1) (Replayed 1)
    ∷ by_nobody (ResyncWith 1 2) (Restored 1)
    ∷ by_nobody (Crash 2) (Crashed 2)
    ∷ by_nobody (Recover 2) (Kept 1)
    ∷ by_nobody (ReplayBegin 2) (Started 4)
    ∷ by_nobody (Finish 2) (Replayed 1)
    ∷ by_nobody (ResyncWith 2 1) (Restored 0)
    ∷ []

-- the list is legal, both are up, and the receiver has its message from the restored log
abbrev pub RelayedMessageIsKept : Type 0
RelayedMessageIsKept =
    (g : ℕ → List Message → List ℕ) (x : List ℕ) →
    Legal 2 (relaying 2 g) (relayed_message x)
    × ((world_of 2 (relaying 2 g) (relayed_message x)).phase 1 ≡ Up)
    × ((world_of 2 (relaying 2 g) (relayed_message x)).phase 2 ≡ Up)
    × (state_of (world_of 2 (relaying 2 g) (relayed_message x)) 2 ≡ g 2 (record { sender = 1; ssn = 1; payload = x } ∷ []))
    × (all_single (opening 2 (relaying 2 g)) (relayed_message x) ≡ true)

-- a relay receives three messages
abbrev pub three_messages : List ℕ → List Entry
three_messages x =
    one_message x
    ++ by_nobody (Input 1 2 x) (Logged 2)
    ∷ by_nobody (Transmit 0 1 2) (Placed 1)
    ∷ by_nobody (Arrive 1) (Started 2)
    ∷ by_nobody (Finish 1) (Committed 2 1)
    ∷ by_nobody (Input 1 3 x) (Logged 3)
    ∷ by_nobody (Transmit 0 1 3) (Placed 2)
    ∷ by_nobody (Arrive 2) (Started 3)
    ∷ by_nobody (Finish 1) (Committed 3 2)
    ∷ []

-- the second message is acknowledged, and then the first
abbrev pub out_of_order : List ℕ → List Entry
out_of_order x =
    three_messages x
    ++ by_nobody (Arrive 1) (Numbered 1)
    ∷ by_nobody (Arrive 1) Acknowledged
    ∷ by_nobody (Arrive 0) (Numbered 0)
    ∷ by_nobody (Arrive 0) Acknowledged
    ∷ []

-- the list is legal. Until the first message is acknowledged nothing is released; then what the first two sent is released, and
-- what the third sent is not
abbrev pub FirstRunIsReleased : Type 0
FirstRunIsReleased =
    (g : ℕ → List Message → List ℕ) (x : List ℕ) →
    Legal 2 (relaying 2 g) (out_of_order x)
    × ((world_of 2 (relaying 2 g) (take 14 (out_of_order x))).released 1 2 ≡ 0)
    × ((world_of 2 (relaying 2 g) (out_of_order x)).released 1 2 ≡ 2)
    × (refusal_of (world_of 2 (relaying 2 g) (out_of_order x)) (ENTRIES - 16) (Transmit 1 2 3) ≡ Some 6)

-- a copy of a number arrives after its receiver crashed and came back
abbrev pub old_number : List ℕ → List Entry
old_number x =
    one_message x
    ++ by_nobody (Copy 0) (Placed 1)
    ∷ by_nobody (Arrive 0) (Numbered 0)
    ∷ by_nobody (Arrive 0) Acknowledged
    ∷ by_nobody (Crash 1) (Crashed 2)
    ∷ by_nobody (Recover 1) (Kept 1)
    ∷ by_nobody (ReplayBegin 1) (Started 2)
    ∷ by_nobody (Finish 1) (Replayed 1)
    ∷ by_nobody (Arrive 1) Stale
    ∷ []

-- the list is legal, and the number is stale
abbrev pub OldNumberIsStale : Type 0
OldNumberIsStale =
    (g : ℕ → List Message → List ℕ) (x : List ℕ) →
    Legal 1 (silent g) (old_number x)
    × (length_of (world_of 1 (silent g) (old_number x)) 1 ≡ 1)
    × ((world_of 1 (silent g) (old_number x)).wire 1 ≡ None)

-- a copy of an acknowledgement arrives after its receiver crashed, came back and received one more message
abbrev pub old_acknowledgement : List ℕ → List Entry
old_acknowledgement x =
    one_message x
    ++ by_nobody (Arrive 0) (Numbered 0)
    ∷ by_nobody (Copy 0) (Placed 1)
    ∷ by_nobody (Arrive 0) Acknowledged
    ∷ by_nobody (Crash 1) (Crashed 2)
    ∷ by_nobody (Recover 1) (Kept 1)
    ∷ by_nobody (ReplayBegin 1) (Started 2)
    ∷ by_nobody (Finish 1) (Replayed 1)
    ∷ by_nobody (Input 1 2 x) (Logged 2)
    ∷ by_nobody (Transmit 0 1 2) (Placed 0)
    ∷ by_nobody (Arrive 0) (Started 3)
    ∷ by_nobody (Finish 1) (Committed 2 0)
    ∷ by_nobody (Arrive 1) Stale
    ∷ []

-- the list is legal, and the second message is not acknowledged
abbrev pub OldAcknowledgementIsStale : Type 0
OldAcknowledgementIsStale =
    (g : ℕ → List Message → List ℕ) (x : List ℕ) →
    Legal 1 (silent g) (old_acknowledgement x)
    × (length_of (world_of 1 (silent g) (old_acknowledgement x)) 1 ≡ 2)
    × ((world_of 1 (silent g) (old_acknowledgement x)).acknowledged 1 1 ≡ true)
    × ((world_of 1 (silent g) (old_acknowledgement x)).acknowledged 1 2 ≡ false)

-- three messages come, from the outside, a relay and the outside. The number of the second is lost when the process crashes
abbrev pub lost_number : List ℕ → List Entry
lost_number x =
    acknowledged_message x
    ++ by_nobody (Input 2 2 x) (Logged 1)
    ∷ by_nobody (Transmit 0 2 1) (Placed 0)
    ∷ by_nobody (Arrive 0) (Started 2)
    ∷ by_nobody (Finish 2) (Committed 1 0)
    ∷ by_nobody (Arrive 0) (Numbered 0)
    ∷ by_nobody (Transmit 1 2 1) (Placed 1)
    ∷ by_nobody (Arrive 1) (Started 3)
    ∷ by_nobody (Finish 2) (Committed 2 1)
    ∷ by_nobody (Lose 1) Lost
    ∷ by_nobody (Input 2 3 x) (Logged 2)
    ∷ by_nobody (Transmit 0 2 2) (Placed 1)
    ∷ by_nobody (Arrive 1) (Started 4)
    ∷ by_nobody (Finish 2) (Committed 3 1)
    ∷ by_nobody (Arrive 1) (Numbered 1)
    ∷ by_nobody (Crash 2) (Crashed 2)
    ∷ by_nobody (Recover 2) (Kept 1)
    ∷ by_nobody (ReplayBegin 2) (Started 5)
    ∷ by_nobody (Finish 2) (Replayed 1)
    ∷ by_nobody (ResyncWith 2 1) (Restored 0)
    ∷ []

-- the list is legal; the process has the state that follows the first message. The third, which is its sender's next, has no number
-- now
abbrev pub LostNumberEndsTheRun : Type 0
LostNumberEndsTheRun =
    (g : ℕ → List Message → List ℕ) (x : List ℕ) →
    Legal 2 (relaying 2 g) (lost_number x)
    × ((world_of 2 (relaying 2 g) (lost_number x)).phase 2 ≡ Up)
    × (state_of (world_of 2 (relaying 2 g) (lost_number x)) 2 ≡ g 2 (first_input x ∷ []))
    × ((world_of 2 (relaying 2 g) (lost_number x)).numbers 0 2 1 ≡ Some 1)
    × ((world_of 2 (relaying 2 g) (lost_number x)).numbers 0 2 2 ≡ None)

-- workers carry messages. The second of two comes early. The number of the first is lost, so the message is sent again, and its
-- number is told again. Its output is shown, and a copy of it comes late
abbrev pub told_again : List ℕ → List Entry
told_again x =
    by_nobody (Input 1 1 x) (Logged 1)
    ∷ by_nobody (Input 1 2 x) (Logged 2)
    ∷ by_nobody (Transmit 0 1 2) (Placed 0)
    ∷ by_worker (Arrive 0) Early
    ∷ by_worker (Transmit 0 1 1) (Placed 0)
    ∷ by_worker (Arrive 0) (Started 1)
    ∷ by_worker (Finish 1) (Committed 1 0)
    ∷ by_nobody (Lose 0) Lost
    ∷ by_worker (Transmit 0 1 1) (Placed 0)
    ∷ by_worker (Arrive 0) (Duplicate 0)
    ∷ by_worker (Arrive 0) (Numbered 0)
    ∷ by_worker (Arrive 0) Acknowledged
    ∷ by_worker (Transmit 1 0 1) (Placed 0)
    ∷ by_nobody (Copy 0) (Placed 1)
    ∷ by_worker (Arrive 0) (Shown 1)
    ∷ by_worker (Arrive 1) ShownBefore
    ∷ by_nobody (Trim 0) (Trimmed 1)
    ∷ []

-- the list is legal; it is no use to send what is still on the wire; the message was received once, and its output shown once
abbrev pub LostNumberIsToldAgain : Type 0
LostNumberIsToldAgain =
    (g : ℕ → List Message → List ℕ) (x : List ℕ) →
    Legal 1 (relaying 0 g) (told_again x)
    × (is_useful (world_of 1 (relaying 0 g) (take 9 (told_again x))) (Transmit 0 1 1) ≡ false)
    × (length_of (world_of 1 (relaying 0 g) (told_again x)) 1 ≡ 1)
    × ((world_of 1 (relaying 0 g) (told_again x)).shown ≡ record { sender = 1; ssn = 1; payload = x } ∷ [])

-- a relay sends three messages. Its log has dropped one when its checkpoint is saved, and one more when it crashes
abbrev pub trimmed_log : List ℕ → List Entry
trimmed_log x =
    three_messages x
    ++ by_nobody (Checkpoint 1) (Saved 3)
    ∷ by_nobody (Transmit 1 2 1) (Placed 3)
    ∷ by_nobody (Arrive 3) (Started 4)
    ∷ by_nobody (Finish 2) (Committed 1 3)
    ∷ by_nobody (Checkpoint 2) (Saved 1)
    ∷ by_nobody (Trim 2) (Trimmed 1)
    ∷ by_nobody (Checkpoint 1) (Saved 3)
    ∷ by_nobody (Transmit 1 2 2) (Placed 4)
    ∷ by_nobody (Arrive 4) (Started 5)
    ∷ by_nobody (Finish 2) (Committed 2 4)
    ∷ by_nobody (Checkpoint 2) (Saved 2)
    ∷ by_nobody (Trim 2) (Trimmed 1)
    ∷ by_nobody (Crash 1) (Crashed 2)
    ∷ by_nobody (Recover 1) (Kept 3)
    ∷ by_nobody (ResyncWith 1 2) (Restored 1)
    ∷ []

-- the list is legal, and the log is that of the checkpoint: without the first message, with the second and its number, and with the
-- third without a number
abbrev pub TrimmedLogComesBack : Type 0
TrimmedLogComesBack =
    (g : ℕ → List Message → List ℕ) (x : List ℕ) →
    Legal 2 (relaying 2 g) (trimmed_log x)
    × ((world_of 2 (relaying 2 g) (trimmed_log x)).phase 1 ≡ Up)
    × ((world_of 2 (relaying 2 g) (trimmed_log x)).trims 1 2 ≡ 1)
    × ((world_of 2 (relaying 2 g) (trimmed_log x)).numbers 1 2 1 ≡ None)
    × ((world_of 2 (relaying 2 g) (trimmed_log x)).numbers 1 2 2 ≡ Some 2)
    × ((world_of 2 (relaying 2 g) (trimmed_log x)).numbers 1 2 3 ≡ None)
