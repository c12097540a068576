-- Worked runs about what a node keeps: how much it is, and when it is dropped
use Rattle.std.specs.Prelude.{◌≡◌, ℕ, List, [], ◌∷◌, ◌++◌, length, None, Bool, true, take}
use Rattle.world.specs.declared.message.Message.{Message}
use Rattle.world.specs.Worked.{relaying}
use Rattle.cluster.specs.Parcels.{Delivery, Acknowledgement, Restored, Saved}
use Rattle.cluster.specs.Cluster.{opening, is_well, waiting}
use Rattle.cluster.specs.Rules.{Act, Puts, Arrives, Replays, Recovers, Freezes, Keeps, Thaws, Run}
use Rattle.cluster.specs.Memory.{receipts, taken_since, entries, untold, unsaved, untaken}
use Rattle.cluster.specs.WorkedPieces.{receives, number_recorded, falls, asks, tells, resumes, no_numbers, first_entry, one_after}
use Rattle.cluster.specs.Worked.{comes_back}

-- any message counts
abbrev pub any : Message → Bool
any m = true

-- in the run of a node that comes back: the gateway's message is in its log until the gateway is told that the node's checkpoint covers it:
-- first as one that the node hasn't taken, then as one after its checkpoint, then as one of which the gateway wasn't told. The node keeps
-- its receipt from when it takes the message until a checkpoint covers it, also if it dies in between
abbrev pub MemoryIsFilled : Type 0
MemoryIsFilled =
    (g : ℕ → List Message → List ℕ) (x : List ℕ) →
    (entries (one_after g (take 1 (comes_back x))) 0 1 ≡ 1)
    × (untaken (one_after g (take 1 (comes_back x))) 0 1 ≡ 1)
    × (length (receipts (one_after g (take 1 (comes_back x))) 1) ≡ 0)
    × (entries (one_after g (take 4 (comes_back x))) 0 1 ≡ 1)
    × (unsaved (one_after g (take 4 (comes_back x))) 0 1 ≡ 1)
    × (waiting (one_after g (take 4 (comes_back x))) 1 ≡ 1)
    × (length (receipts (one_after g (take 4 (comes_back x))) 1) ≡ 1)
    × (taken_since any 1 0 (take 4 (comes_back x)) ≡ 1)
    × (length (receipts (one_after g (take 13 (comes_back x))) 1) ≡ 1)
    × (taken_since any 1 0 (take 13 (comes_back x)) ≡ 1)
    × (entries (one_after g (take 22 (comes_back x))) 0 1 ≡ 1)
    × (untold (one_after g (take 22 (comes_back x))) 0 1 ≡ 1)
    × (length (receipts (one_after g (take 22 (comes_back x))) 1) ≡ 0)
    × (taken_since any 1 0 (take 22 (comes_back x)) ≡ 0)
    × (entries (one_after g (comes_back x)) 0 1 ≡ 0)

-- the gateway shows the output of node 1 and says so; the node drops it, dies without a checkpoint and comes back: until the gateway
-- answers its Resume the node has the output again
abbrev pub told_and_dies : List ℕ → List Act
told_and_dies x =
    receives 1 x
    ++ number_recorded 1 1 1
    ++ Arrives 0 1 (Acknowledgement 1 1)
    ∷ Puts 1 0 (Delivery 1 1 x)
    ∷ Arrives 1 0 (Delivery 1 1 x)
    ∷ Puts 0 1 (Saved 1)
    ∷ Arrives 0 1 (Saved 1)
    ∷ falls 1
    ++ asks 1 0 2 0
    ++ tells 1 0 2 1 0 (first_entry x)
    ++ Recovers 1 1
    ∷ Replays 1 0
    ∷ resumes 1 0 2 1
    ++ Puts 0 1 (Restored 2 1 1 0 None no_numbers)
    ∷ Arrives 0 1 (Restored 2 1 1 0 None no_numbers)
    ∷ []

-- an entry that was dropped comes back when the process is told again, and is dropped anew
abbrev pub ToldAgain : Type 0
ToldAgain =
    (g : ℕ → List Message → List ℕ) (x : List ℕ) →
    Run (opening 1 (relaying 0 g)) (told_and_dies x)
    × (entries (one_after g (take 10 (told_and_dies x))) 1 0 ≡ 1)
    × (entries (one_after g (take 11 (told_and_dies x))) 1 0 ≡ 0)
    × (entries (one_after g (take 19 (told_and_dies x))) 1 0 ≡ 1)
    × (is_well (one_after g (told_and_dies x)) 1 ≡ true)
    × (entries (one_after g (told_and_dies x)) 1 0 ≡ 0)

-- a checkpoint of node 1 becomes durable
abbrev pub saves : List Act
saves = Freezes 1 ∷ Keeps 1 ∷ Thaws 1 ∷ []

-- node 1 sends Saved, which is lost; another checkpoint covers another message, the gateway is told of that one, and then the first Saved
-- arrives
abbrev pub saved_lost : List ℕ → List ℕ → List Act
saved_lost x y =
    receives 1 x ++ saves ++ Puts 1 0 (Saved 1) ∷ receives 2 y ++ saves ++ Puts 1 0 (Saved 2) ∷ Arrives 1 0 (Saved 2)
    ∷ Arrives 1 0 (Saved 1)
    ∷ []

-- it is a run. The gateway's log keeps both messages until it is told, and then none: the second Saved makes up for the first, which
-- changes nothing when it arrives
abbrev pub SavedMayBeLost : Type 0
SavedMayBeLost =
    (g : ℕ → List Message → List ℕ) (x y : List ℕ) →
    Run (opening 1 (relaying 0 g)) (saved_lost x y)
    × (entries (one_after g (take 8 (saved_lost x y))) 0 1 ≡ 1)
    × (entries (one_after g (take 16 (saved_lost x y))) 0 1 ≡ 2)
    × (entries (one_after g (take 17 (saved_lost x y))) 0 1 ≡ 0)
    × ((one_after g (saved_lost x y)).world.trims 0 1 ≡ 2)
