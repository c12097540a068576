-- Recovery, which happens inside a call of the host
use Rattle.std.specs.Prelude.{◌≡◌, ℕ, ◌+◌, List, [], ◌++◌, length, take, Bool, true, false}
use Rattle.world.specs.Handlers.{Handlers}
use Rattle.world.specs.World.{put}
use Rattle.cluster.specs.Cluster.{opening}
use Rattle.cluster.specs.Rules.{Act, Run, after_run}
use Rattle.node.specs.declared.job.OpenJob.{OpenJob}
use Rattle.node.specs.Node.{TheNode}
use Rattle.recovery.specs.Collection.{TheCollecting}
use Rattle.recovery.specs.Moment.{HadReceived}
use Rattle.recovery.specs.declared.lifecycle.Lifecycle.{Lifecycle}
use Rattle.recovery.specs.declared.lifecycle.Lifecycle.TheVariants.{Collecting, Replaying, Passing}
use Rattle.process.specs.Process.{TheProcess}
use Rattle.process.specs.Calls.{standing_at}
use Rattle.node_laws.specs.HostProcess.{Absent, Runs, IsUp}
use Rattle.node_laws.specs.HostSystem.{System}
use Rattle.node_laws.specs.Agreement.{AllStand, LeadTo}
use Rattle.node_laws.specs.Back.{length_of, received}

-- it collects
abbrev pub Collects : TheProcess → Type 0
Collects process = (n : TheCollecting) × (process.lifecycle ≡ Collecting n)

-- it no longer collects
abbrev pub has_recovered : Lifecycle → Bool
has_recovered (Collecting n) = false
has_recovered Passing = false
has_recovered c = true

-- the messages that it goes on to replay
abbrev pub plan_of : Lifecycle → List OpenJob
plan_of (Replaying n) = n.plan
plan_of c = []

-- how many messages it keeps, as a host reads it: those that it has, and those that it has still to replay
abbrev pub keeps : Lifecycle → ℕ
keeps c = (standing_at c).length + (standing_at c).replays

-- the system as s has it, except that p still collects
abbrev pub still : System → ℕ → TheProcess → TheCollecting → System
still s p process n = record s { processes = put s.processes p (Runs (record process { lifecycle = Collecting n }) Absent) }

-- p recovered in a call that led to this process and to the system s, which goes on to t. It had received what it keeps, and all that was
-- acknowledged without a gap is among that; these stay its first messages; and when it is up with just these, its state is the one that it
-- had after them. It had them in the cluster with which it agreed while it collected, with all others as in s
pub record HasRecovered (n : ℕ) (f : Handlers) (s t : System) (p : ℕ) (now : TheProcess) : Type 0 where
  pub collected : TheCollecting
  pub acts : List Act
  pub more : List Act
  pub run : Run (opening n f) (acts ++ more)
  pub before : LeadTo n f acts (AllStand n (still s p now collected))
  pub after : LeadTo n f (acts ++ more) (AllStand n t)
  pub had : HadReceived (after_run (opening n f) acts) p collected.own.base (plan_of now.lifecycle)
  pub kept : keeps now.lifecycle ≡ collected.own.base + length (plan_of now.lifecycle)
  pub stays : take (keeps now.lifecycle) (received n f p (acts ++ more)) ≡ take (keeps now.lifecycle) (received n f p acts)
  pub back : (m : TheNode) → IsUp m (t.processes p) → length_of m ≡ keeps now.lifecycle
      → f.state p (take (keeps now.lifecycle) (received n f p acts)) ≡ m.state
