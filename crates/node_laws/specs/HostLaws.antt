-- What is promised of the calls of hosts
use Rattle.std.specs.Prelude.{◌≡◌, ◌≢◌, ℕ, ◌≤◌, List, [], ◌∷◌, ◌++◌, Bool, true, ◌==◌, if◌then◌else◌}
use Rattle.packets.specs.declared.packet.NodePacket.{NodePacket}
use Rattle.stores.specs.declared.change.Output.{Output}
use Rattle.node.specs.Node.{TheNode}
use Rattle.node.specs.Stands.{Each}
use Rattle.process.specs.Process.{TheProcess}
use Rattle.node_laws.specs.HostProcess.{IsFirst, Checkpoint, Runs, Alive, is_exact, IsUp}
use Rattle.node_laws.specs.HostSystem.{System, Hosting, start, after, Makes, handlers, HostCall, Gave, GaveBytes, Resumed, Died, Revived}
use Rattle.node_laws.specs.HostSystem.{DidOut, RevivedOut, handed_out, after_call}
use Rattle.node_laws.specs.Agreement.{AllStand, IsRunOf, AreEventsOf}
use Rattle.node_laws.specs.Back.{HasBack}
use Rattle.node_laws.specs.HostBack.{Collects, has_recovered, HasRecovered}
use Rattle.node_laws.specs.Durable.{Stays, Lasts, Keep}
use Rattle.node_laws.specs.Outputs.{NoGap, GoOn, AreBehind, SayTheSame}

-- ---- premises

-- each process that is alive is exact
abbrev pub AreExact : ℕ → System → Type 0
AreExact n s = (p : ℕ) → IsFirst n p → is_exact (s.processes p) ≡ true

-- so at the end of each of these calls
abbrev pub StayExact : ℕ → System → List HostCall → Type 0
StayExact n s [] = Unit {0}
StayExact n s (k ∷ ks) = AreExact n (after_call s k) × StayExact n (after_call s k) ks

-- a process is killed only while all others are up. One that is down or recovering may be killed again, and the gateway at any moment
abbrev pub FailsAlone : ℕ → System → HostCall → Type 0
FailsAlone n s (Died p) = (q : ℕ) → IsFirst n q → q ≢ p → (node : TheNode) × IsUp node (s.processes q)
FailsAlone n s call = Unit {0}

-- so by each of these calls
abbrev pub OneAtATime : ℕ → System → List HostCall → Type 0
OneAtATime n s [] = Unit {0}
OneAtATime n s (k ∷ ks) = FailsAlone n s k × OneAtATime n (after_call s k) ks

-- if p comes back or is resumed by this call, it is durable then
abbrev pub KeepsDurable : ℕ → HostCall → Type 0
KeepsDurable p (Revived q limits life new) = p ≡ q → limits.durable ≡ true
KeepsDurable p (Resumed q limits new) = p ≡ q → limits.durable ≡ true
KeepsDurable p call = Unit {0}

-- so by each of these calls
abbrev pub StaysDurable : ℕ → List HostCall → Type 0
StaysDurable p calls = Each (KeepsDurable p) calls

-- these processes are durable from their opening on, and by each of these calls
abbrev pub AreDurable : Hosting → (ℕ → Bool) → List HostCall → Type 0
AreDurable h durable calls =
    (p : ℕ) → durable p ≡ true → IsFirst h.n p × (((h.limits p).durable ≡ true) × StaysDurable p calls)

-- the gateway isn't killed by this call
abbrev pub LivesOn : HostCall → Type 0
LivesOn (RevivedOut new) = ⊥
LivesOn call = Unit {0}

-- nor by any of these: they are of one life of the gateway
abbrev pub OneLife : List HostCall → Type 0
OneLife calls = Each LivesOn calls

-- ---- what is given

-- the packets that p gave by a call
abbrev pub gave_by : ℕ → HostCall → List NodePacket
gave_by p (Gave q x new) = if q == p then x ∷ [] else []
gave_by p (GaveBytes q x bytes new) = if q == p then x ∷ [] else []
gave_by p call = []

-- by these calls
abbrev pub given_by : ℕ → List HostCall → List NodePacket
given_by p [] = []
given_by p (k ∷ ks) = gave_by p k ++ given_by p ks

-- the outputs that the gateway gives in a call
abbrev pub shown_by : System → HostCall → List Output
shown_by s (DidOut new) = handed_out s.gateway new
shown_by s call = []

-- in these calls
abbrev pub outputs_of : System → List HostCall → List Output
outputs_of s [] = []
outputs_of s (k ∷ ks) = shown_by s k ++ outputs_of (after_call s k) ks

-- ---- while failures come one at a time

-- if each process that is alive stays exact, the calls are a run of a cluster
abbrev pub HostedRun : Type 0
HostedRun = (h : Hosting) (calls : List HostCall) → h.n ≤ 15 → Makes h calls → StayExact h.n (start h) calls
    → IsRunOf h.n (handlers h) (AllStand h.n (after h calls))

-- if processes fail one at a time, each that is alive stays exact, whatever packets come late or twice
abbrev pub HostedAlone : Type 0
HostedAlone = (h : Hosting) (calls : List HostCall) → h.n ≤ 15 → Makes h calls → OneAtATime h.n (start h) calls
    → StayExact h.n (start h) calls

-- so the calls are a run of a cluster then
abbrev pub HostedRunAlone : Type 0
HostedRunAlone = (h : Hosting) (calls : List HostCall) → h.n ≤ 15 → Makes h calls → OneAtATime h.n (start h) calls
    → IsRunOf h.n (handlers h) (AllStand h.n (after h calls))

-- p is up after these calls, and after more of them
abbrev pub HasBackIn : Hosting → List HostCall → List HostCall → Type 0
HasBackIn h calls more = (p : ℕ) (a b : TheNode) → IsFirst h.n p → IsUp a ((after h calls).processes p)
    → IsUp b ((after h (calls ++ more)).processes p)
    → HasBack h.n (handlers h) (AllStand h.n (after h calls)) (AllStand h.n (after h (calls ++ more))) p a b

-- what a process had that was acknowledged, it has when it is up again
abbrev pub HostedBack : Type 0
HostedBack = (h : Hosting) (calls more : List HostCall) → h.n ≤ 15 → Makes h (calls ++ more) → StayExact h.n (start h) (calls ++ more)
    → HasBackIn h calls more

-- so it is if processes fail one at a time
abbrev pub HostedBackAlone : Type 0
HostedBackAlone = (h : Hosting) (calls more : List HostCall) → h.n ≤ 15 → Makes h (calls ++ more)
    → OneAtATime h.n (start h) (calls ++ more) → HasBackIn h calls more

-- p collects before the call k, and doesn't after it
abbrev pub RecoversIn : Hosting → List HostCall → HostCall → List HostCall → Type 0
RecoversIn h calls k more = (p : ℕ) (now : TheProcess) (checkpoint : Checkpoint) → IsFirst h.n p
    → Alive Collects ((after h calls).processes p) → (after_call (after h calls) k).processes p ≡ Runs now checkpoint
    → has_recovered now.lifecycle ≡ true
    → HasRecovered h.n (handlers h) (after_call (after h calls) k) (after h (calls ++ k ∷ more)) p now

-- a process that recovers keeps what it had
abbrev pub HostedRecovers : Type 0
HostedRecovers = (h : Hosting) (calls more : List HostCall) (k : HostCall) → h.n ≤ 15 → Makes h (calls ++ k ∷ more)
    → StayExact h.n (start h) (calls ++ k ∷ more) → RecoversIn h calls k more

-- so it is if processes fail one at a time
abbrev pub HostedRecoversAlone : Type 0
HostedRecoversAlone = (h : Hosting) (calls more : List HostCall) (k : HostCall) → h.n ≤ 15 → Makes h (calls ++ k ∷ more)
    → OneAtATime h.n (start h) (calls ++ k ∷ more) → RecoversIn h calls k more

-- ---- whatever fails, all processes at once too, and whichever recoveries meet

-- the calls are a run of the whole rules, of a cluster of which these processes are durable
abbrev pub HostedEvents : Type 0
HostedEvents = (h : Hosting) (calls : List HostCall) (durable : ℕ → Bool) → Makes h calls → AreDurable h durable calls
    → AreEventsOf h.n (handlers h) durable (AllStand h.n (after h calls))

-- what is stored of a process only grows, and when it is up, it has no less
abbrev pub HostedStays : Type 0
HostedStays = (h : Hosting) (calls more : List HostCall) (p : ℕ) → Makes h (calls ++ more) → IsFirst h.n p
    → Stays h.n (handlers h) p ((after h calls).stored p) ((after h (calls ++ more)).stored p)
    (λ m. IsUp m ((after h (calls ++ more)).processes p))

-- what is stored of a durable process sends all that it gave
abbrev pub HostedLast : Type 0
HostedLast = (h : Hosting) (calls more : List HostCall) (p : ℕ) → Makes h (calls ++ more) → IsFirst h.n p
    → (h.limits p).durable ≡ true → StaysDurable p (calls ++ more)
    → Lasts h.n (handlers h) p ((after h calls).stored p) ((after h (calls ++ more)).stored p) (given_by p calls)
    (given_by p (calls ++ more))

-- and all that anyone has from it
abbrev pub HostedKeep : Type 0
HostedKeep = (h : Hosting) (calls : List HostCall) (durable : ℕ → Bool) → Makes h calls → AreDurable h durable calls
    → Keep h.n (handlers h) durable (after h calls).stored (λ p m. IsUp m ((after h calls).processes p)) (after h calls).given
    (outputs_of (start h) calls)

-- the gateway in one life goes on after what it gave before: in its first life it begins with SSN 1; in a later one it may give outputs
-- again, and leaves none out
abbrev pub HostedInOrder : Type 0
HostedInOrder = (h : Hosting) (calls life : List HostCall) → Makes h (calls ++ life) → OneLife life
    → GoOn (outputs_of (start h) calls) (outputs_of (after h calls) life)

-- it leaves none out of all that it ever gives
abbrev pub HostedWithoutGap : Type 0
HostedWithoutGap = (h : Hosting) (calls : List HostCall) → Makes h calls → NoGap (outputs_of (start h) calls)

-- it never gives an output again once it has stored that it gave it
abbrev pub HostedStayOut : Type 0
HostedStayOut = (h : Hosting) (calls life more : List HostCall) → Makes h (calls ++ (life ++ more)) → OneLife life
    → (after h (calls ++ life)).durable.store ≡ (after h (calls ++ life)).gateway.store
    → AreBehind (outputs_of (after h calls) life) (outputs_of (after h (calls ++ life)) more)

-- the outputs of durable processes that it gives again are the same as before
abbrev pub HostedAgree : Type 0
HostedAgree = (h : Hosting) (calls : List HostCall) (durable : ℕ → Bool) → Makes h calls → AreDurable h durable calls
    → SayTheSame durable (outputs_of (start h) calls)
