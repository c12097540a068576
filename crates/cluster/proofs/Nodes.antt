-- What arrives at a node, or comes from one, if all that is known of its number is that it isn't 0
use Rattle.std.proofs.Common.{◌≡◌, ℕ, zero, suc, ◌<◌, true, refl, arith}
use Rattle.std.specs.Prelude.{Option, None}
use Rattle.world.specs.History.{Payload, count_of}
use Rattle.world.specs.Phases.{Up, Busy, todo_of, without}
use Rattle.world.specs.World.{put}
use Rattle.cluster.specs.Parcels.{Delivery, Restored, parcel, In}
use Rattle.cluster.specs.Cluster.{Cluster, takes, waiting, WINDOW}
use Rattle.cluster.specs.Rules.{Arrives, Awaits, May, does, goes_on, takes_in, message, IsNode}

-- a message opens a job
pub may-open : (c : Cluster) (p d i ssn : ℕ) (x : Payload) → In (parcel p d (Delivery i ssn x)) c.parcels
    → IsNode c d × (takes c d ≡ true) × (c.world.phase d ≡ Up) × (i ≡ c.heard d p) × (ssn ≡ suc (count_of p (c.world.history d))) × (waiting c d < WINDOW) → May c (Arrives p d (Delivery i ssn x))
may-open c p zero i ssn x there may = absurd (let l : 0 < 0 = may.0.0 in omega arith)
may-open c p (suc d) i ssn x there may = (there, may)

pub opens : (c : Cluster) (p d i ssn : ℕ) (x : Payload) → 0 < d → does c (Arrives p d (Delivery i ssn x)) ≡ record c { world = record c.world { phase = put c.world.phase d (Busy (message p ssn x)) } }
opens c p zero i ssn x l = absurd (omega arith)
opens c p (suc d) i ssn x l = refl

-- the last page of RSNs
pub may-restore : (c : Cluster) (q p i j n s : ℕ) (f : ℕ → Option ℕ) → In (parcel q p (Restored i j n s None f)) c.parcels → Awaits c p q i j s → May c (Arrives q p (Restored i j n s None f))
may-restore c zero p i j n s f there may = absurd (let l : 0 < 0 = may.0.0 in omega arith)
may-restore c (suc q) p i j n s f there may = (there, may)

pub restores : (c : Cluster) (q p i j n s : ℕ) (f : ℕ → Option ℕ) → 0 < q
    → does c (Arrives q p (Restored i j n s None f)) ≡ goes_on (takes_in c p q j n s None f) p (without (todo_of (c.world.phase p)) q)
restores c zero p i j n s f l = absurd (omega arith)
restores c (suc q) p i j n s f l = refl
