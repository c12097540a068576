-- Why a call is refused. If several causes hold, the least number is told
use Rattle.std.specs.Prelude.{ℕ, suc, ◌+◌, ◌-◌, List, [], ◌∷◌, Option, Some, None, Bool, true, false, not, ◌&&◌, ◌||◌, ◌==◌, nat_lt}
use Rattle.std.specs.Prelude.{if◌then◌else◌}
use Rattle.world.specs.declared.packet.Packet.{Packet}
use Rattle.world.specs.declared.packet.Packet.TheVariants.{Delivery}
use Rattle.world.specs.declared.call.Call.{Call}
use Rattle.world.specs.declared.call.Call.TheVariants.{Input, Transmit, Copy, Lose, Arrive, Finish, Checkpoint, Trim, Crash, Recover}
use Rattle.world.specs.declared.call.Call.TheVariants.{RecoverAlone, ReplayBegin, Resync as ResyncWith}
use Rattle.world.specs.declared.refusal.Refusal.{Refusal}
use Rattle.world.specs.declared.refusal.Refusal.TheVariants.{NoSuchProcess, NotUp, Busy, NoPacket, SameProcess, NotReleased, NotLogged}
use Rattle.world.specs.declared.refusal.Refusal.TheVariants.{PeerNotUp, StaleJob, NotDown, WrongPhase, JournalFull, WireFull, FeedTaken}
use Rattle.world.specs.declared.refusal.Refusal.TheVariants.{Memory}
use Rattle.world.specs.Phases.{is_up, is_down, is_busy, is_working, is_replaying, todo_of, has}
use Rattle.world.specs.World.{World, is_inside}
use Rattle.world.specs.Logs.{released_to, is_entry}
use Rattle.world.specs.Bounds.{is_none, any_below, open_jobs, journal_full, wire_full}
use Rattle.world.specs.Answers.{Verdict, Next, Known, Ahead, judge}

-- the number of a refusal, 1 to 15 (docs/FORMATS.md, "Refusals of a session")
abbrev pub number_of : Refusal → ℕ
number_of NoSuchProcess = 1
number_of NotUp = 2
number_of Busy = 3
number_of NoPacket = 4
number_of SameProcess = 5
number_of NotReleased = 6
number_of NotLogged = 7
number_of PeerNotUp = 8
number_of StaleJob = 9
number_of NotDown = 10
number_of WrongPhase = 11
number_of JournalFull = 12
number_of WireFull = 13
number_of FeedTaken = 14
number_of Memory = 15

-- the number of the first cause that holds
abbrev pub least : List (Bool × ℕ) → Option ℕ
least [] = None
least (c ∷ cs) = if c.0 then Some c.1 else least cs

-- whether the packet is a message for a process with an open job
abbrev pub is_to_busy : World → Option Packet → Bool
is_to_busy w (Some (Delivery d m)) = is_busy (w.phase d)
is_to_busy w packet = false

-- whether the message is the next of its sender
abbrev pub is_next : Verdict → Bool
is_next Next = true
is_next Known = false
is_next Ahead = false

-- whether the packet starts a job
abbrev pub starts : World → Option Packet → Bool
starts w (Some (Delivery d m)) = nat_lt 0 d && is_up (w.phase d) && is_next (judge w d m)
starts w packet = false

-- what a job adds to a count
abbrev pub one_if : Bool → ℕ
one_if true = 1
one_if false = 0

-- whether all processes but p are up
abbrev pub others_up : World → ℕ → Bool
others_up w p = not (any_below (λ q. not (q == p) && not (is_up (w.phase q))) (suc w.count))

-- the causes that refuse a call, each with its number, the least first. room is how many more entries the journal takes
abbrev pub causes : World → ℕ → Call → List (Bool × ℕ)
causes w room (Input d feed x) =
    (not (is_inside w d), 1) ∷ (journal_full room (open_jobs w), 12) ∷ (w.feeds feed, 14) ∷ []
causes w room (Transmit p d i) =
    (nat_lt w.count p || nat_lt w.count d, 1) ∷ (not (is_up (w.phase p)), 2) ∷ (p == d, 5) ∷ (nat_lt (released_to w p d) i, 6)
    ∷ (not (is_entry w p d i), 7) ∷ (journal_full room (open_jobs w), 12) ∷ (wire_full w, 13) ∷ []
causes w room (Copy key) = (is_none (w.wire key), 4) ∷ (journal_full room (open_jobs w), 12) ∷ (wire_full w, 13) ∷ []
causes w room (Lose key) = (is_none (w.wire key), 4) ∷ (journal_full room (open_jobs w), 12) ∷ []
causes w room (Arrive key) =
    (is_to_busy w (w.wire key), 3) ∷ (is_none (w.wire key), 4) ∷ (journal_full room (open_jobs w + one_if (starts w (w.wire key))), 12) ∷ []
causes w room (Finish p) = (not (is_inside w p && is_working (w.phase p)), 9) ∷ []
causes w room (Checkpoint p) =
    (not (is_inside w p), 1) ∷ (not (is_up (w.phase p)), 2) ∷ (is_busy (w.phase p), 3) ∷ (journal_full room (open_jobs w), 12) ∷ []
causes w room (Trim d) = (nat_lt w.count d, 1) ∷ (journal_full room (open_jobs w), 12) ∷ []
causes w room (Crash p) =
    (not (is_inside w p), 1) ∷ (is_down (w.phase p), 2) ∷ (journal_full room (open_jobs w - one_if (is_working (w.phase p))), 12) ∷ []
causes w room (Recover p) =
    (not (is_inside w p), 1) ∷ (not (others_up w p), 8) ∷ (not (is_down (w.phase p)), 10) ∷ (journal_full room (open_jobs w), 12) ∷ []
causes w room (RecoverAlone p) = (not (is_inside w p), 1) ∷ (not (is_down (w.phase p)), 10) ∷ (journal_full room (open_jobs w), 12) ∷ []
causes w room (ReplayBegin p) =
    (not (is_inside w p), 1) ∷ (is_working (w.phase p), 3) ∷ (not (is_replaying (w.phase p)), 11)
    ∷ (journal_full room (open_jobs w + 1), 12) ∷ []
causes w room (ResyncWith p r) =
    (not (is_inside w p && is_inside w r), 1) ∷ (p == r, 5) ∷ (not (is_up (w.phase r)), 8) ∷ (not (has (todo_of (w.phase p)) r), 11)
    ∷ (journal_full room (open_jobs w), 12) ∷ []

-- the number with which a call is refused, if it is. Refused memory is no cause of the world
abbrev pub refusal_of : World → ℕ → Call → Option ℕ
refusal_of w room call = least (causes w room call)

-- the cause that a refusal tells. `Memory` is told only if no cause holds
abbrev pub cause_of : Refusal → Option ℕ
cause_of NoSuchProcess = Some 1
cause_of NotUp = Some 2
cause_of Busy = Some 3
cause_of NoPacket = Some 4
cause_of SameProcess = Some 5
cause_of NotReleased = Some 6
cause_of NotLogged = Some 7
cause_of PeerNotUp = Some 8
cause_of StaleJob = Some 9
cause_of NotDown = Some 10
cause_of WrongPhase = Some 11
cause_of JournalFull = Some 12
cause_of WireFull = Some 13
cause_of FeedTaken = Some 14
cause_of Memory = None
