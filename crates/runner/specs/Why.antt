-- What a cause says of the session that refused an order.
use Rattle.std.specs.Prelude.{◌≡◌, ◌≢◌, ◌⊎◌, ℕ, List, [], ◌∷◌, ◌++◌, None, Some, slice_get}
use Rattle.world.specs.declared.call.Call.{Call}
use Rattle.world.specs.declared.call.Call.TheVariants as call
use Rattle.world.specs.declared.entry.Entry.{Entry}
use Rattle.world.specs.Phases.{name_of}
use Rattle.sessions.specs.Journal.{TheSession, world_at}
use Rattle.sessions.specs.Logged.{logged}
use Rattle.hints.specs.declared.why.Act.{Act}
use Rattle.hints.specs.declared.why.Act.TheVariants.{Takes, Ends}
use Rattle.hints.specs.declared.why.Told.{Told}
use Rattle.hints.specs.declared.why.Why.{Why}
use Rattle.hints.specs.declared.why.Why.TheVariants.{Phase, Logged, Unlogged, Done, Number}

-- the call takes the packet of this key from the wire, or ends a job of this process
abbrev pub IsAct : Act → Call → Type 0
IsAct (Takes key) c = (c ≡ call.Arrive key) ⊎ (c ≡ call.Lose key)
IsAct (Ends p) c = (c ≡ call.Finish p) ⊎ (c ≡ call.Crash p)

-- the journal has such a call at this place, counted from 0
abbrev pub IsAt : TheSession → Act → ℕ → Type 0
IsAt s act place = (e : Entry) × (slice_get s.entries place ≡ Some e) × IsAct act e.call

-- what is named is in the session as it is said
abbrev pub Holds : TheSession → Why → Type 0
Holds s (Phase process phase) = name_of ((world_at s).phase process) ≡ phase
Holds s (Logged from to ssn) = logged (world_at s) from to ssn ≢ None
Holds s (Unlogged from to ssn) = logged (world_at s) from to ssn ≡ None
Holds s (Done act entry) = IsAt s act entry
Holds s Number = Unit {0}

-- one more is kept, whose cause holds in the session; or none
abbrev pub AreKept : TheSession → List Told → List Told → Type 0
AreKept s old new = (new ≡ old) ⊎ ((one : Told) × (new ≡ old ++ one ∷ []) × Holds s one.why)
