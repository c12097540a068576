-- A process just after it recovered
use Rattle.std.specs.Prelude.{◌≡◌, ℕ, ◌+◌, ◌≤◌, List, length, map, take, drop, true}
use Rattle.world.specs.Handlers.{Handlers}
use Rattle.theorems.specs.Growth.{Grows}
use Rattle.cluster.specs.Cluster.{Cluster}
use Rattle.cluster.specs.Rules.{Act}
use Rattle.cluster.specs.Exact.{IsRunOf}
use Rattle.cluster.specs.Promises.{AllAcknowledged}
use Rattle.node.specs.declared.job.OpenJob.{OpenJob}
use Rattle.node.specs.Stands.{job_of}
use Rattle.recovery.specs.Collection.{TheCollecting}
use Rattle.recovery.specs.Stands.{StandsCollecting}
use Rattle.recovery.specs.Plan.{has_all, Plans}
use Rattle.recovery.specs.Replays.{TheReplaying}
use Rattle.recovery.specs.StandsAtReplay.{IsInOrder}

-- it is the same process, keeps the messages of its plan, and has replayed none of them
pub record Recovered (n : TheCollecting) (r : TheReplaying) : Type 0 where
  pub own : r.own ≡ n.own
  pub plans : Plans n r.plan
  pub none : r.done ≡ 0

-- p had received exactly these after its checkpoint, and all that was acknowledged without a gap is among them
pub record HadReceived (c : Cluster) (p base : ℕ) (jobs : List OpenJob) : Type 0 where
  pub within : base + length jobs ≤ length (c.world.history p)
  pub same : map job_of jobs ≡ drop base (take (base + length jobs) (c.world.history p))
  pub acknowledged : (k : ℕ) → AllAcknowledged c p k → k ≤ base + length jobs
  pub in_order : IsInOrder c p

-- in each run a process that recovers keeps what it had received
abbrev pub KeepsWhatItHad : Type 0
KeepsWhatItHad = (count : ℕ) (f : Handlers) (acts : List Act) (c : Cluster) (n : TheCollecting) (r : TheReplaying) → count ≤ 15 → Grows f
    → IsRunOf count f acts c → StandsCollecting n c n.own.me → has_all n ≡ true → Recovered n r
    → HadReceived c n.own.me n.own.base r.plan
