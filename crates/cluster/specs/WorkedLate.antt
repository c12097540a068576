-- Worked runs in which packets come late
use Rattle.std.specs.Prelude.{◌≡◌, ℕ, List, [], ◌∷◌, ◌++◌, Option, Some, None, true, ◌==◌, if◌then◌else◌}
use Rattle.world.specs.declared.message.Message.{Message}
use Rattle.world.specs.Plan.{or_else}
use Rattle.world.specs.Worked.{relaying}
use Rattle.theorems.specs.WorkedOverlap.{passing}
use Rattle.cluster.specs.Parcels.{Delivery, Number, Acknowledgement, Ask, Told, Resume, Restored, parcel, In}
use Rattle.cluster.specs.Cluster.{opening, is_well}
use Rattle.cluster.specs.Rules.{Act, Puts, Arrives, Works, Replays, Recovers, May, Run, message}
use Rattle.cluster.specs.WorkedPieces.{receives, number_recorded, falls, asks, tells, resumes, restores, no_numbers, no_entries, greets}
use Rattle.cluster.specs.WorkedPieces.{first_entry, one_after, two_after}
use Rattle.cluster.specs.WorkedDeaths.{gap_heard, gap_closed, second_entry}

-- the gateway has heard the Ask of node 1; an RSN from before its death arrives, and isn't recorded
abbrev pub LateNumberIsDropped : Type 0
LateNumberIsDropped =
    (g : ℕ → List Message → List ℕ) (x y : List ℕ) →
    In (parcel 1 0 (Number 1 1 1)) (one_after g (gap_heard x y)).parcels
    × (¬ May (one_after g (gap_heard x y)) (Arrives 1 0 (Number 1 1 1)))

-- node 1 has come back with nothing and received a message again, whose new RSN is recorded
abbrev pub renumbered : List ℕ → List ℕ → List Act
renumbered x y = gap_closed x y ++ number_recorded 2 1 1

-- it is a run; its Resume and its Ask arrive a second time and change nothing, so the RSN stays
abbrev pub LateResumeIsDropped : Type 0
LateResumeIsDropped =
    (g : ℕ → List Message → List ℕ) (x y : List ℕ) →
    Run (opening 1 (relaying 0 g)) (renumbered x y)
    × In (parcel 1 0 (Resume 2 0 0)) (one_after g (renumbered x y)).parcels
    × In (parcel 1 0 (Ask 2 0)) (one_after g (renumbered x y)).parcels
    × (¬ May (one_after g (renumbered x y)) (Arrives 1 0 (Resume 2 0 0)))
    × (¬ May (one_after g (renumbered x y)) (Arrives 1 0 (Ask 2 0)))
    × ((one_after g (renumbered x y)).world.numbers 0 1 1 ≡ Some 1)

-- node 1 comes back with a message, receives another, whose RSN is acknowledged, and dies again
abbrev pub second_death : List ℕ → List ℕ → List Act
second_death x y =
    receives 1 x
    ++ number_recorded 1 1 1
    ++ falls 1
    ++ asks 1 0 2 0
    ++ tells 1 0 2 1 0 (first_entry x)
    ++ Recovers 1 1
    ∷ Replays 1 0
    ∷ greets 1 2 1
    ++ receives 2 y
    ++ number_recorded 2 2 2
    ++ Arrives 0 1 (Acknowledgement 2 2)
    ∷ falls 1

-- the entries of the gateway's log for it, by RSN
abbrev pub both_entries : List ℕ → List ℕ → ℕ → Option Message
both_entries x y m = or_else (first_entry x m) (second_entry y m)

-- it asks, is told, and keeps both messages
abbrev pub second_return : List ℕ → List ℕ → List Act
second_return x y = second_death x y ++ asks 1 0 3 0 ++ tells 1 0 3 1 0 (both_entries x y) ++ Recovers 1 2 ∷ []

-- it is a run. The answer to its first Ask arrives again, without the second message: it isn't collected, and both messages are kept
abbrev pub OldAnswerIsDropped : Type 0
OldAnswerIsDropped =
    (g : ℕ → List Message → List ℕ) (x y : List ℕ) →
    Run (opening 1 (relaying 0 g)) (second_return x y)
    × In (parcel 0 1 (Told 2 1 0 None (first_entry x))) (one_after g (second_death x y)).parcels
    × (¬ May (one_after g (second_death x y)) (Arrives 0 1 (Told 2 1 0 None (first_entry x))))
    × ((one_after g (second_return x y)).world.history 1 ≡ message 0 1 x ∷ message 0 2 y ∷ [])

-- node 1 sends two messages to node 2, which works on the first
abbrev pub sends_two : List ℕ → List ℕ → List Act
sends_two x y =
    receives 1 x
    ++ receives 2 y
    ++ number_recorded 1 1 1
    ++ number_recorded 1 2 2
    ++ Arrives 0 1 (Acknowledgement 1 1)
    ∷ Arrives 0 1 (Acknowledgement 1 2)
    ∷ Puts 1 2 (Delivery 1 1 x)
    ∷ Puts 1 2 (Delivery 1 2 y)
    ∷ Arrives 1 2 (Delivery 1 1 x)
    ∷ []

-- it dies, keeps both messages, and sends its Resume to node 2, which still works
abbrev pub sender_back : List ℕ → List ℕ → List Act
sender_back x y =
    sends_two x y
    ++ falls 1
    ++ asks 1 0 2 0
    ++ tells 1 0 2 1 0 (both_entries x y)
    ++ asks 1 2 2 0
    ++ tells 1 2 2 1 0 no_entries
    ++ Recovers 1 2
    ∷ Replays 1 0
    ∷ Replays 1 1
    ∷ Puts 1 2 (Resume 2 2 0)
    ∷ []

-- node 2 finishes the first message
abbrev pub job_done : List ℕ → List ℕ → List Act
job_done x y = sender_back x y ++ Works 2 (message 1 1 x) ∷ []

-- the RSN that it gave it
abbrev pub first_number : ℕ → Option ℕ
first_number ssn = if 1 == ssn then Some 1 else None

-- node 2 obeys and answers, and so does the gateway
abbrev pub job_told : List ℕ → List ℕ → List Act
job_told x y = job_done x y ++ Arrives 1 2 (Resume 2 2 0) ∷ restores 1 2 2 1 first_number ++ greets 1 2 2

-- it is a run. While node 2 works on a message of node 1, it neither obeys nor answers node 1. When it has finished, the second message
-- arrives as it was sent before the death, and isn't taken. Node 1 then has the RSN of the first, which nobody had told it before
abbrev pub OpenJobComesFirst : Type 0
OpenJobComesFirst =
    (g : ℕ → List Message → List ℕ) (x y : List ℕ) →
    Run (opening 2 (passing g)) (job_told x y)
    × (¬ May (two_after g (sender_back x y)) (Arrives 1 2 (Resume 2 2 0)))
    × ((numbers : ℕ → Option ℕ) → ¬ May (two_after g (sender_back x y)) (Puts 2 1 (Restored 2 1 0 0 None numbers)))
    × In (parcel 1 2 (Delivery 1 2 y)) (two_after g (job_done x y)).parcels
    × (¬ May (two_after g (job_done x y)) (Arrives 1 2 (Delivery 1 2 y)))
    × ((two_after g (job_told x y)).world.numbers 1 2 1 ≡ Some 1)
    × (is_well (two_after g (job_told x y)) 1 ≡ true)

-- node 2 receives a message of node 1, sends its RSN, which comes late, and comes back with nothing
abbrev pub receiver_back : List ℕ → List Act
receiver_back x =
    receives 1 x
    ++ number_recorded 1 1 1
    ++ Arrives 0 1 (Acknowledgement 1 1)
    ∷ Puts 1 2 (Delivery 1 1 x)
    ∷ Arrives 1 2 (Delivery 1 1 x)
    ∷ Works 2 (message 1 1 x)
    ∷ Puts 2 1 (Number 1 1 1)
    ∷ falls 2
    ++ asks 2 0 2 0
    ++ tells 2 0 2 1 0 no_entries
    ++ asks 2 1 2 0
    ++ tells 2 1 2 1 0 no_entries
    ++ Recovers 2 0
    ∷ greets 2 2 0
    ++ resumes 2 1 2 0
    ++ restores 2 1 2 1 no_numbers

-- then node 1 dies, and forgets which incarnation of node 2 it had heard; it comes back
abbrev pub both_back : List ℕ → List Act
both_back x =
    receiver_back x
    ++ falls 1
    ++ asks 1 0 2 0
    ++ tells 1 0 2 1 0 (first_entry x)
    ++ asks 1 2 2 0
    ++ tells 1 2 2 2 0 no_entries
    ++ Recovers 1 1
    ∷ Replays 1 0
    ∷ greets 1 2 1
    ++ resumes 1 2 2 1
    ++ restores 1 2 2 2 no_numbers

-- it is a run; from the answer of node 2 node 1 knows the incarnation of node 2 again, and doesn't take the late RSN
abbrev pub HeardComesBack : Type 0
HeardComesBack =
    (g : ℕ → List Message → List ℕ) (x : List ℕ) →
    Run (opening 2 (passing g)) (both_back x)
    × (is_well (two_after g (both_back x)) 1 ≡ true)
    × In (parcel 2 1 (Number 1 1 1)) (two_after g (both_back x)).parcels
    × (¬ May (two_after g (both_back x)) (Arrives 2 1 (Number 1 1 1)))

-- node 1 comes back, and node 2, which had heard its Ask, dies and is opened again
abbrev pub ask_forgotten : List Act
ask_forgotten =
    falls 1
    ++ asks 1 0 2 0
    ++ tells 1 0 2 1 0 no_entries
    ++ asks 1 2 2 0
    ++ tells 1 2 2 1 0 no_entries
    ++ Recovers 1 0
    ∷ greets 1 2 0
    ++ resumes 1 2 2 0
    ++ restores 1 2 2 1 no_numbers
    ++ falls 2

-- it asks node 1, and the Ask of node 1 arrives a second time
abbrev pub old_ask_heard : List Act
old_ask_heard = ask_forgotten ++ asks 2 1 2 0 ++ Arrives 1 2 (Ask 2 0) ∷ []

-- node 1 tells it its log, and it comes back
abbrev pub old_ask_answered : List Act
old_ask_answered =
    old_ask_heard
    ++ tells 2 1 2 2 0 no_entries
    ++ asks 2 0 2 0
    ++ tells 2 0 2 1 0 no_entries
    ++ Recovers 2 0
    ∷ greets 2 2 0
    ++ resumes 2 1 2 0
    ++ restores 2 1 2 2 no_numbers

-- it is a run. Node 2 has forgotten that it had heard the Ask, and hears it while it collects, though node 1 is up: so an Ask doesn't prove
-- that its sender lost anything. Node 1 tells it its log, and both are up
abbrev pub OldAskIsHeard : Type 0
OldAskIsHeard =
    (g : ℕ → List Message → List ℕ) →
    Run (opening 2 (passing g)) old_ask_answered
    × ((two_after g ask_forgotten).heard 2 1 ≡ 0)
    × ((two_after g old_ask_heard).heard 2 1 ≡ 2)
    × (is_well (two_after g old_ask_heard) 1 ≡ true)
    × (is_well (two_after g old_ask_answered) 1 ≡ true)
    × (is_well (two_after g old_ask_answered) 2 ≡ true)
