-- What is collected is what the world gathers
use Rattle.std.specs.Prelude.{◌≡◌, ◌≤◌, ℕ, suc, List, ◌++◌, length, Some, None, true}
use Rattle.sender_log.specs.Log.{TheLog}
use Rattle.sender_log.specs.Queue.{TheQueue, is_logged, number_of, payload_of}
use Rattle.world.specs.declared.message.Message.{Message}
use Rattle.world.specs.History.{nth}
use Rattle.world.specs.World.{World}
use Rattle.world.specs.Logs.{sent, is_entry}
use Rattle.world.specs.Plan.{gather, chosen, found as found_in}
use Rattle.replay.specs.Plan.{IsPlan, found, queue_in, senders_of}

-- the queue has the entries of the log of s for p in the world, with their numbers and payloads
abbrev pub ShowsLog : World → ℕ → ℕ → TheQueue → Type 0
ShowsLog w s p q = (i : ℕ) → (is_logged i q ≡ is_entry w s p i)
    × (is_logged i q ≡ true → (number_of i q ≡ w.numbers s p i) × (Some (payload_of i q) ≡ nth (sent w s p) i))

-- if each log has the entries that the world's has, the same message is found under each number
abbrev pub SameIsFound : Type 0
SameIsFound = (w : World) (p : ℕ) (logs : List TheLog) → length logs ≡ suc w.count
    → ((s : ℕ) → s ≤ w.count → ShowsLog w s p (queue_in logs p s)) → (m : ℕ) → found logs p m ≡ found_in w p m

-- a plan after the messages of a history, from what the world's logs have, is what the world gathers, and there is no more
abbrev pub PlanIsGathered : Type 0
PlanIsGathered = (w : World) (p : ℕ) (h plan : List Message) → IsPlan (found_in w p) (senders_of h) plan
    → (gather w p h (length plan) ≡ h ++ plan) × (chosen w p (h ++ plan) ≡ None)
