-- Runs in which both nodes die at once and their recoveries meet: in one a message is lost, and a node says so; in the other both are
-- durable
use Rattle.std.specs.Prelude.{◌≡◌, ℕ, List, [], ◌∷◌, ◌++◌, Bool, true, false, map}
use Rattle.world.specs.declared.message.Message.{Message}
use Rattle.world.specs.History.{Payload}
use Rattle.theorems.specs.WorkedOverlap.{passing}
use Rattle.cluster.specs.Parcels.{Delivery, Number, Acknowledgement}
use Rattle.cluster.specs.Cluster.{durable_opening}
use Rattle.cluster.specs.Rules.{Act, Arrives, Works, Recovers, Freezes, Keeps, Thaws, Dies, Opens, message}
use Rattle.cluster.specs.Promises.{NoOrphanNode}
use Rattle.cluster.specs.WorkedPieces.{sends, receives, asks, tells, no_entries}
use Rattle.cluster.specs.WorkedLate.{old_ask_answered}
use Rattle.cluster.specs.Overlap.{Event, Acts, Loses, Lacks, Events, after_events}
use Rattle.cluster.specs.Exact.{Steps}

-- acts, if all packets say that their tellers are exact
abbrev pub taken : List Act → List Event
taken acts = map (Acts true) acts

-- node 1 forwards a message of the gateway as soon as its checkpoint covers it; node 2 works on it
abbrev pub passed_on : Payload → List Act
passed_on x = receives 1 x ++ Freezes 1 ∷ Keeps 1 ∷ Thaws 1 ∷ sends 1 2 (Delivery 1 1 x) ++ Works 2 (message 1 1 x) ∷ []

-- its RSN is acknowledged: so a node that isn't durable releases its output, and it is shown
abbrev pub acknowledged : Payload → List Act
acknowledged x = sends 2 1 (Number 1 1 1) ++ Arrives 1 2 (Acknowledgement 1 1) ∷ sends 2 0 (Delivery 1 1 x)

-- a checkpoint covers it: so a durable node sends its output
abbrev pub covered : Payload → List Act
covered x = Freezes 2 ∷ Keeps 2 ∷ Thaws 2 ∷ sends 2 0 (Delivery 1 1 x)

-- both die, and are opened again; node 1 tells node 2, whose checkpoint covers s messages, that what it had is lost
abbrev pub both_fall : ℕ → List Event
both_fall s =
    taken (Dies 1 ∷ Dies 2 ∷ Opens 1 0 ∷ Opens 2 0 ∷ asks 2 0 2 s ++ tells 2 0 2 1 s no_entries ++ asks 2 1 2 s) ++ Loses 1 2 2 2 s ∷ []

-- node 2 takes that, and keeps s messages
abbrev pub takes_loss : ℕ → List Event
takes_loss s = Lacks 1 2 2 2 s ∷ Acts true (Recovers 2 s) ∷ []

-- no node is durable; the states don't matter
abbrev pub none_durable : ℕ → Bool
none_durable p = false

-- every node is durable
abbrev pub all_durable : ℕ → Bool
all_durable p = true

-- the run of nodes that aren't durable, until node 1 has told node 2 that what it had is lost
abbrev pub until_told : Payload → List Event
until_told x = taken (passed_on x ++ acknowledged x) ++ both_fall 0

-- and then node 2 takes that, and recovers
abbrev pub told_of_loss : Payload → List Event
told_of_loss x = until_told x ++ takes_loss 0

-- the run of nodes that are
abbrev pub durable_run : Payload → List Event
durable_run x = taken (passed_on x ++ covered x) ++ both_fall 1 ++ takes_loss 1

-- if no node is durable, the shown output is an orphan: node 2 has nothing any more
abbrev pub MeetingFailuresLose : Type 0
MeetingFailuresLose = (g : ℕ → List Message → List ℕ) (x : Payload) →
    Events (durable_opening 2 (passing g) none_durable) (told_of_loss x)
    × ((after_events (durable_opening 2 (passing g) none_durable) (taken (passed_on x ++ acknowledged x))).world.acknowledged 2 1 ≡ true)
    × ((after_events (durable_opening 2 (passing g) none_durable) (told_of_loss x)).world.history 2 ≡ [])
    × (¬ NoOrphanNode (after_events (durable_opening 2 (passing g) none_durable) (told_of_loss x)))

-- if both are durable, it isn't: node 2 still has the message
abbrev pub DurableNodesKeep : Type 0
DurableNodesKeep = (g : ℕ → List Message → List ℕ) (x : Payload) →
    Events (durable_opening 2 (passing g) all_durable) (durable_run x)
    × ((after_events (durable_opening 2 (passing g) all_durable) (durable_run x)).world.shown ≡ message 2 1 x ∷ [])
    × ((after_events (durable_opening 2 (passing g) all_durable) (durable_run x)).world.history 2 ≡ message 1 1 x ∷ [])

-- the first is a run of the whole rules; node 2 is no longer exact once it took that
abbrev pub LossIsTold : Type 0
LossIsTold = (g : ℕ → List Message → List ℕ) (x : Payload) →
    Steps (durable_opening 2 (passing g) none_durable) (told_of_loss x)
    × ((after_events (durable_opening 2 (passing g) none_durable) (until_told x)).exact 2 ≡ true)
    × ((after_events (durable_opening 2 (passing g) none_durable) (told_of_loss x)).exact 2 ≡ false)
    × ((after_events (durable_opening 2 (passing g) none_durable) (told_of_loss x)).lost 2 1 ≡ true)
    × ((after_events (durable_opening 2 (passing g) none_durable) (told_of_loss x)).exact 1 ≡ true)

-- node 2, while it collects, hears again an Ask whose sender is up: both are as exact as before
abbrev pub OldAskIsNoLoss : Type 0
OldAskIsNoLoss = (g : ℕ → List Message → List ℕ) →
    Steps (durable_opening 2 (passing g) none_durable) (taken old_ask_answered)
    × ((after_events (durable_opening 2 (passing g) none_durable) (taken old_ask_answered)).exact 1 ≡ true)
    × ((after_events (durable_opening 2 (passing g) none_durable) (taken old_ask_answered)).exact 2 ≡ true)
