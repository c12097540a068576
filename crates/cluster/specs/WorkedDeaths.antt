-- Worked runs in which a node dies, by the moment of its death
use Rattle.std.specs.Prelude.{◌≡◌, ℕ, List, [], ◌∷◌, ◌++◌, Option, Some, None, true, false, ◌==◌, if◌then◌else◌}
use Rattle.world.specs.declared.message.Message.{Message}
use Rattle.world.specs.Logs.{state_of}
use Rattle.world.specs.Worked.{relaying}
use Rattle.cluster.specs.Parcels.{Delivery, Number, Acknowledgement, Told, Saved, parcel, In}
use Rattle.cluster.specs.Cluster.{opening, is_well}
use Rattle.cluster.specs.Rules.{Act, Puts, Arrives, Works, Replays, Recovers, Freezes, Keeps, Dies, May, Run}
use Rattle.cluster.specs.Rules.{after_run, message}
use Rattle.cluster.specs.WorkedPieces.{receives, number_recorded, falls, asks, tells, resumes, restores, no_numbers, no_entries, greets}
use Rattle.cluster.specs.WorkedPieces.{first_entry, one_after}

-- node 1 receives two messages, and only the RSN of the second is recorded
abbrev pub gap : List ℕ → List ℕ → List Act
gap x y =
    receives 1 x ++ receives 2 y ++ Puts 1 0 (Number 1 1 1) ∷ Puts 1 0 (Number 1 2 2) ∷ Arrives 1 0 (Number 1 2 2)
    ∷ Arrives 0 1 (Acknowledgement 1 2)
    ∷ []

-- it dies, and the gateway hears its Ask
abbrev pub gap_heard : List ℕ → List ℕ → List Act
gap_heard x y = gap x y ++ falls 1 ++ asks 1 0 2 0

-- the entries of the gateway's log for it, by RSN
abbrev pub second_entry : List ℕ → ℕ → Option Message
second_entry y m = if 2 == m then Some (message 0 2 y) else None

-- the gateway tells it the second message alone, so it keeps none
abbrev pub gap_kept : List ℕ → List ℕ → List Act
gap_kept x y = gap_heard x y ++ tells 1 0 2 1 0 (second_entry y) ++ Recovers 1 0 ∷ []

-- the gateway forgets that RSN, the node is up, and the first message is sent again
abbrev pub gap_closed : List ℕ → List ℕ → List Act
gap_closed x y = gap_kept x y ++ greets 1 2 0 ++ Arrives 0 1 (Delivery 1 1 x) ∷ Works 1 (message 0 1 x) ∷ []

-- it is a run. The second RSN alone doesn't release what the node sent, and the node isn't up before the gateway has answered. Then the
-- second RSN is forgotten, and the first message is received again
abbrev pub NumberIsLost : Type 0
NumberIsLost =
    (g : ℕ → List Message → List ℕ) (x y : List ℕ) →
    Run (opening 1 (relaying 0 g)) (gap_closed x y)
    × ((one_after g (gap x y)).world.acknowledged 1 2 ≡ true)
    × ((one_after g (gap x y)).world.released 1 0 ≡ 0)
    × ((one_after g (gap_kept x y)).world.numbers 0 1 2 ≡ Some 2)
    × (is_well (one_after g (gap_kept x y)) 1 ≡ false)
    × ((one_after g (gap_closed x y)).world.numbers 0 1 2 ≡ None)
    × ((one_after g (gap_closed x y)).world.history 1 ≡ message 0 1 x ∷ [])
    × (is_well (one_after g (gap_closed x y)) 1 ≡ true)

-- node 1 has a message whose RSN is recorded, and dies; after the gateway has told it, it dies again
abbrev pub told_twice : List ℕ → List Act
told_twice x = receives 1 x ++ number_recorded 1 1 1 ++ falls 1 ++ asks 1 0 2 0 ++ Puts 0 1 (Told 2 1 0 None (first_entry x)) ∷ falls 1

-- it asks again, is told, and comes back with the message
abbrev pub told_again : List ℕ → List Act
told_again x = told_twice x ++ asks 1 0 3 0 ++ tells 1 0 3 1 0 (first_entry x) ++ Recovers 1 1 ∷ Replays 1 0 ∷ greets 1 3 1

-- it is a run: the node doesn't take the answer to its earlier incarnation, asks again, and comes back with its message
abbrev pub DiesWhileCollecting : Type 0
DiesWhileCollecting =
    (g : ℕ → List Message → List ℕ) (x : List ℕ) →
    Run (opening 1 (relaying 0 g)) (told_again x)
    × In (parcel 0 1 (Told 2 1 0 None (first_entry x))) (one_after g (told_twice x)).parcels
    × (¬ May (one_after g (told_twice x)) (Arrives 0 1 (Told 2 1 0 None (first_entry x))))
    × (is_well (one_after g (told_again x)) 1 ≡ true)
    × (state_of (one_after g (told_again x)).world 1 ≡ g 1 (message 0 1 x ∷ []))

-- node 1 has a message whose RSN nobody recorded, and the bytes of a checkpoint are made. It dies before they are durable
abbrev pub not_durable : List ℕ → List Act
not_durable x = receives 1 x ++ Freezes 1 ∷ falls 1 ++ asks 1 0 2 0 ++ tells 1 0 2 1 0 no_entries ++ Recovers 1 0 ∷ []

-- or after they are
abbrev pub durable : List ℕ → List Act
durable x = receives 1 x ++ Freezes 1 ∷ Keeps 1 ∷ falls 1 ++ asks 1 0 2 1 ++ tells 1 0 2 1 1 no_entries ++ Recovers 1 1 ∷ []

-- both are runs. The message is lost in the first, and kept in the second. Nothing becomes durable before its bytes are made, nor once the
-- node is dead; and Saved isn't sent before the bytes are durable
abbrev pub DiesAtCheckpoint : Type 0
DiesAtCheckpoint =
    (g : ℕ → List Message → List ℕ) (x : List ℕ) →
    Run (opening 1 (relaying 0 g)) (not_durable x)
    × Run (opening 1 (relaying 0 g)) (durable x)
    × ((one_after g (not_durable x)).world.history 1 ≡ [])
    × ((one_after g (durable x)).world.history 1 ≡ message 0 1 x ∷ [])
    × (¬ May (one_after g (receives 1 x)) (Keeps 1))
    × (¬ May (one_after g (receives 1 x ++ Freezes 1 ∷ Dies 1 ∷ [])) (Keeps 1))
    × (¬ May (one_after g (receives 1 x ++ Freezes 1 ∷ [])) (Puts 1 0 (Saved 1)))

-- of three nodes node 1 dies; node 2 answers its Resume first, then the gateway
abbrev pub two_answer : List Act
two_answer =
    falls 1
    ++ asks 1 0 2 0
    ++ tells 1 0 2 1 0 no_entries
    ++ asks 1 2 2 0
    ++ tells 1 2 2 1 0 no_entries
    ++ asks 1 3 2 0
    ++ tells 1 3 2 1 0 no_entries
    ++ Recovers 1 0
    ∷ resumes 1 2 2 0
    ++ restores 1 2 2 1 no_numbers
    ++ greets 1 2 0

-- with the answer of node 3 it is a run; before that answer the node isn't up
abbrev pub AllHaveToAnswer : Type 0
AllHaveToAnswer =
    (g : ℕ → List Message → List ℕ) →
    Run (opening 3 (relaying 0 g)) (two_answer ++ resumes 1 3 2 0 ++ restores 1 3 2 1 no_numbers)
    × (is_well (after_run (opening 3 (relaying 0 g)) two_answer) 1 ≡ false)
    × (is_well (after_run (opening 3 (relaying 0 g)) (two_answer ++ resumes 1 3 2 0 ++ restores 1 3 2 1 no_numbers)) 1 ≡ true)
