-- When a process that restores RSNs agrees with a cluster, and what a call owes
use Rattle.std.specs.Prelude.{◌≡◌, ◌≢◌, ℕ, ◌<◌, ◌≤◌, [], ◌∷◌, length, Option, Some, None, true, false}
use Rattle.world.specs.Logs.{sent_in_all}
use Rattle.world.specs.Calls.{phase_with}
use Rattle.cluster.specs.Cluster.{Cluster, Live}
use Rattle.packets.specs.declared.packet.NodePacket.{NodePacket}
use Rattle.node.specs.Node.{TheNode, log_at}
use Rattle.node.specs.Stands.{Each, HasReceived, Stands}
use Rattle.recovery.specs.Stands.{HasOwn, IsSaid, IsSent, GoesTo}
use Rattle.recovery.specs.Replayed.{TheReplayed, StandsReplayed}
use Rattle.recovery.specs.Restoration.{TheRestoring, above_of, has_answered, left, is_up}

-- an RSN that is known is above 0
abbrev pub IsKnown : Option ℕ → Type 0
IsKnown None = Unit {0}
IsKnown (Some k) = 0 < k

-- it agrees with a cluster in which p restores its RSNs and waits for the same peers: all that p received is acknowledged; from a peer that
-- it waits for it has the RSNs up to the SSN up to which that told them; and if it waits for no process, all that it sent is released
pub record StandsRestoring (n : TheRestoring) (c : Cluster) (p : ℕ) : Type 0 where
  pub stage : c.stage p ≡ Live
  pub greeted : c.greeted p ≡ has_answered 0 n
  pub phase : c.world.phase p ≡ phase_with (left n)
  pub life : c.world.incarnation p ≡ n.own.life
  pub own : HasOwn n.own c p (c.world.history p) (c.world.trims p) (c.world.numbers p)
  pub received : HasReceived n.own.count n.own.base n.own.covered n.receipts (c.world.history p) (c.world.acknowledged p)
  pub acknowledged : (k : ℕ) → k ≤ length (c.world.history p) → c.world.acknowledged p k ≡ true
  pub known : (d : ℕ) → d ≤ c.world.count → d ≢ p → Each IsKnown (log_at n.own.logs d).numbers
  pub fresh : (q ssn : ℕ) → q ≤ c.world.count → has_answered q n ≡ false → above_of q n < ssn → c.world.numbers p q ssn ≡ None
  pub resumed : (q : ℕ) → c.resumed p q ≡ true
  pub restoring : (q : ℕ) → q ≤ c.world.count → c.restoring p q ≡ above_of q n
  pub released : left n ≡ [] → (d : ℕ) → c.world.released p d ≡ sent_in_all c.world p d

-- what the first call owes: from each cluster in which the process has finished its replay, to one with which it agrees
abbrev pub Begins : TheReplayed → TheRestoring → Type 0
Begins r n = (c : Cluster) → StandsReplayed r c r.own.me → GoesTo n.own.exact r.own.me (λ d. StandsRestoring n d r.own.me) c

-- what a call owes: from each cluster with which it agreed, and for which `given` holds, to one with which it agrees
abbrev pub Owes : (Cluster → Type 0) → TheRestoring → TheRestoring → Type 0
Owes given old new = (c : Cluster) → StandsRestoring old c old.own.me → given c
    → GoesTo new.own.exact old.own.me (λ d. StandsRestoring new d old.own.me) c

-- what a call owes that is handed nothing
abbrev pub Acts : TheRestoring → TheRestoring → Type 0
Acts old new = Owes (λ c. Unit {0}) old new

-- what a call owes that is handed a packet, if that was sent and the process still waits for an answer
abbrev pub IsHanded : NodePacket → TheRestoring → TheRestoring → Type 0
IsHanded x old new = is_up old ≡ false → Owes (λ c. IsSaid c x.from x.to x.body) old new

-- what `take` owes: it gives the first packet that waited, which was sent, and the process no longer has it
abbrev pub Takes : Option NodePacket → TheRestoring → TheRestoring → Type 0
Takes None old new = (old.own.out ≡ []) × (new ≡ old)
Takes (Some x) old new = (old ≡ record new { own = record new.own { out = x ∷ new.own.out } })
    × ((c : Cluster) → StandsRestoring old c old.own.me → IsSent c old.own.me x × StandsRestoring new c old.own.me)

-- its node agrees with the same clusters
abbrev pub IsUp : TheRestoring → TheNode → Type 0
IsUp n node = (c : Cluster) → StandsRestoring n c n.own.me → Stands node c n.own.me
