-- Why failures have to come one at a time: a worked journal in which they overlap, and the promises fail
use Rattle.std.specs.Prelude.{◌≡◌, ℕ, List, [], ◌∷◌, ◌++◌, true, false, take, if◌then◌else◌, ◌==◌}
use Rattle.world.specs.declared.message.Message.{Message}
use Rattle.world.specs.declared.call.Call.TheVariants.{Input, Transmit, Arrive, Finish, Checkpoint, Crash, Recover, RecoverAlone}
use Rattle.world.specs.declared.call.Call.TheVariants.{ReplayBegin, Resync as ResyncWith}
use Rattle.world.specs.declared.answer.Answer.TheVariants.{Logged, Placed, Started, Shown, Committed, Replayed, Saved, Crashed, Kept}
use Rattle.world.specs.declared.answer.Answer.TheVariants.{Restored}
use Rattle.world.specs.declared.entry.Entry.{Entry}
use Rattle.world.specs.Handlers.{Handlers}
use Rattle.world.specs.World.{opening}
use Rattle.world.specs.Logs.{length_of}
use Rattle.world.specs.Legal.{Legal, world_of, all_single}
use Rattle.world.specs.Worked.{by_nobody, texts}
use Rattle.theorems.specs.Orphans.{NoOrphan}

-- process 1 passes on to process 2 what it receives, and process 2 puts it out
abbrev pub passing : (ℕ → List Message → List ℕ) → Handlers
passing g = record {
  state = g;
  sends = λ p h d. if p == 1 then (if d == 2 then texts h else []) else (if p == 2 then (if d == 0 then texts h else []) else []);
}

-- a message is passed on, after a checkpoint. Process 1 crashes, and gets the number of process 2 again. Process 2 crashes and
-- replays its message, and its output is shown
abbrev pub shown_output : List ℕ → List Entry
shown_output x =
    by_nobody (Input 1 1 x) (Logged 1)
    ∷ by_nobody (Transmit 0 1 1) (Placed 0)
    ∷ by_nobody (Arrive 0) (Started 1)
    ∷ by_nobody (Finish 1) (Committed 1 0)
    ∷ by_nobody (Checkpoint 1) (Saved 1)
    ∷ by_nobody (Transmit 1 2 1) (Placed 1)
    ∷ by_nobody (Arrive 1) (Started 2)
    ∷ by_nobody (Finish 2) (Committed 1 1)
    ∷ by_nobody (Crash 1) (Crashed 2)
    ∷ by_nobody (Recover 1) (Kept 1)
    ∷ by_nobody (ResyncWith 1 2) (Restored 1)
    ∷ by_nobody (Crash 2) (Crashed 2)
    ∷ by_nobody (Recover 2) (Kept 1)
    ∷ by_nobody (ReplayBegin 2) (Started 3)
    ∷ by_nobody (Finish 2) (Replayed 1)
    ∷ by_nobody (ResyncWith 2 1) (Restored 0)
    ∷ by_nobody (Transmit 2 0 1) (Placed 2)
    ∷ by_nobody (Arrive 2) (Shown 1)
    ∷ []

-- then both crash at once. The number, which only process 1 held, is lost
abbrev pub both_crash : List ℕ → List Entry
both_crash x =
    shown_output x
    ++ by_nobody (Crash 1) (Crashed 3)
    ∷ by_nobody (Crash 2) (Crashed 3)
    ∷ by_nobody (RecoverAlone 1) (Kept 1)
    ∷ by_nobody (Recover 2) (Kept 0)
    ∷ by_nobody (ResyncWith 2 1) (Restored 0)
    ∷ []

-- up to the second of these crashes failures come one at a time. After it process 2 has nothing, though its message was
-- acknowledged, and its output that was shown is an orphan
abbrev pub OverlappingFailuresLose : Type 0
OverlappingFailuresLose =
    (g : ℕ → List Message → List ℕ) (x : List ℕ) →
    Legal 2 (passing g) (both_crash x)
    × (all_single (opening 2 (passing g)) (take 19 (both_crash x)) ≡ true)
    × (all_single (opening 2 (passing g)) (take 20 (both_crash x)) ≡ false)
    × ((world_of 2 (passing g) (shown_output x)).acknowledged 2 1 ≡ true)
    × (length_of (world_of 2 (passing g) (both_crash x)) 2 ≡ 0)
    × (¬ NoOrphan (world_of 2 (passing g) (both_crash x)))
