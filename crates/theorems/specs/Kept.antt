-- What checkpoint and logs hold of a process
use Rattle.std.specs.Prelude.{◌≡◌, ℕ, suc, ◌<◌, ◌≤◌, length, Some, false}
use Rattle.world.specs.Phases.{is_down}
use Rattle.world.specs.World.{World}
use Rattle.world.specs.Logs.{sent}

-- the log of s has the message of this SSN to d: s isn't down, has sent it, and hasn't dropped it
abbrev pub IsEntry : World → ℕ → ℕ → ℕ → Type 0
IsEntry w s d i =
    record {
      live : is_down (w.phase s) ≡ false;
      above : w.trims s d < i;
      within : i ≤ length (sent w s d);
    }

-- the log of some sender has an entry for p under the number m
abbrev pub Held : World → ℕ → ℕ → Type 0
Held w p m =
    record {
      by : ℕ;
      ssn : ℕ;
      number : w.numbers by p ssn ≡ Some m;
      entry : IsEntry w by p ssn;
    }

-- the longest unbroken run of messages of p that checkpoint and logs hold with their numbers ends at k: the checkpoint covers the
-- first of them, logs hold each number from there to k, and none holds the next
abbrev pub IsKept : World → ℕ → ℕ → Type 0
IsKept w p k =
    record {
      from : w.saved p ≤ k;
      held : (m : ℕ) → w.saved p < m → m ≤ k → Held w p m;
      most : ¬ Held w p (suc k);
    }

-- of each process such a run ends somewhere among the messages that it received
abbrev pub HasKept : World → Type 0
HasKept w = (p : ℕ) → record { kept : ℕ; within : kept ≤ length (w.history p); is : IsKept w p kept }

-- such a run ends at one place only
abbrev pub KeptIsOne : World → Type 0
KeptIsOne w = (p j k : ℕ) → IsKept w p j → IsKept w p k → j ≡ k
