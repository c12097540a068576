-- Nodes come back: one that dies alone, and all of them, whatever failed
use Rattle.std.specs.Prelude.{◌≡◌, ℕ, ◌≤◌, List, Bool, true, false}
use Rattle.std.specs.List.{list_all, list_any}
use Rattle.std.proofs.Common.{◌≢◌}
use Rattle.world.specs.Handlers.{Handlers}
use Rattle.cluster.specs.Cluster.{Cluster, opening, durable_opening, is_well}
use Rattle.cluster.specs.Rules.{Act, Input, Dies, IsNode, Run, after_run, FromOpening}
use Rattle.cluster.specs.Overlap.{Event, Acts, after_events}
use Rattle.cluster.specs.Exact.{Steps}

-- whether a process dies
abbrev pub is_death : Act → Bool
is_death (Dies p) = true
is_death a = false

-- the cluster can go on, without a death, to one for which this holds
abbrev pub CanReach : Cluster → (Cluster → Type 0) → Type 0
CanReach c P = (acts : List Act) × Run c acts × (list_any is_death acts ≡ false) × P (after_run c acts)

-- every process is up, and so is the gateway
abbrev pub AllUp : Cluster → Type 0
AllUp c = (q : ℕ) → q ≤ c.world.count → is_well c q ≡ true

-- after any run: if all nodes except p are up, p comes back, whether it is dead, collects, replays or restores RSNs: the nodes can go on,
-- without a death, until all are up
abbrev pub LoneComesBack : Type 0
LoneComesBack = (n : ℕ) (f : Handlers) (acts : List Act) (p : ℕ) → FromOpening n f acts
    → IsNode (after_run (opening n f) acts) p
    → ((q : ℕ) → IsNode (after_run (opening n f) acts) q → q ≢ p → is_well (after_run (opening n f) acts) q ≡ true)
    → CanReach (after_run (opening n f) acts) AllUp

-- an event that is no failure and needs nothing from outside: no node dies, and the gateway gets no input
abbrev pub is_quiet : Event → Bool
is_quiet (Acts exact (Dies p)) = false
is_quiet (Acts exact (Input d x)) = false
is_quiet e = true

-- by such events alone the nodes can go on to where this holds
abbrev pub CanGo : Cluster → (Cluster → Type 0) → Type 0
CanGo c P = (es : List Event) × Steps c es × (list_all is_quiet es ≡ true) × P (after_events c es)

-- after any run of the whole rules, whatever failed, with any number of nodes down or recovering and any packets on the way: the nodes can
-- go on until all are up
abbrev pub AllComeBack : Type 0
AllComeBack = (n : ℕ) (f : Handlers) (durable : ℕ → Bool) (es : List Event) → Steps (durable_opening n f durable) es
    → CanGo (after_events (durable_opening n f durable) es) AllUp
