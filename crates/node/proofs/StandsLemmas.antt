-- A node still stands when a few of its fields change
use Rattle.std.proofs.Common.{◌≡◌, ◌≢◌, ℕ, ◌≤◌, List, length, Bool, true, refl}
use Rattle.std.specs.Prelude.{Option, slice_index_or}
use Rattle.rsn.specs.Receipts.{Received}
use Rattle.world.specs.Phases.{Phase}
use Rattle.cluster.specs.Parcels.{Parcel, Flagged}
use Rattle.cluster.specs.Cluster.{Cluster, Collected, Stage, waiting}
use Rattle.packets.specs.declared.packet.NodePacket.{NodePacket}
use Rattle.node.specs.declared.job.OpenJob.{OpenJob}
use Rattle.node.specs.declared.limit.Limits.{Limits}
use Rattle.node.specs.Queue.{TheQueue}
use Rattle.node.specs.Node.{TheNode, log_at}
use Rattle.node.proofs.Sent.{all-still}
use Rattle.node.specs.Stands.{Each, PutOut, HasReceived, KeepsOf, IsShut, IsNextAfter, Stands, sent_by, freed_in, most_released, phase_of, stage_of}

-- with other limits and receipts too, of which more are acknowledged and more is released
pub stands-anew : (n : TheNode) (c : Cluster) (p : ℕ) {limits : Limits} {receipts : Received} {left : ℕ} {queues : List TheQueue} {hears : List ℕ} {obeyed : List Bool} {packets : List NodePacket} {acknowledged : ℕ → ℕ → Bool} {released : ℕ → ℕ → ℕ}
    {trims : ℕ → ℕ → ℕ} {numbers : ℕ → ℕ → ℕ → Option ℕ} {heard : ℕ → ℕ → ℕ} {resumed : ℕ → ℕ → Bool} {told : ℕ → ℕ → Option Collected} {parcels : List Parcel} {lost : ℕ → ℕ → Bool} {said : List Flagged} → Stands n c p → (c.durable p ≡ true → limits.durable ≡ true)
    → HasReceived n.count n.base n.covered receipts (c.world.history p) (acknowledged p)
    → waiting (record c { world = record c.world { acknowledged = acknowledged } }) p ≡ left
    → ((d : ℕ) → d ≤ c.world.count → d ≢ p → KeepsOf (log_at queues d) (trims p d) (c.world.handlers.sends p (c.world.history p) d) (numbers p d))
    → ((d : ℕ) → d ≤ c.world.count → d ≢ p → IsShut (log_at queues d) (length (c.world.history p)) (most_released limits.durable (record c { world = record c.world { released = released } }) p d) (sent_by c.world.handlers p (c.world.history p) d))
    → ((d : ℕ) → sent_by c.world.handlers p (c.world.history p) d (freed_in limits.durable (record c { world = record c.world { acknowledged = acknowledged } }) p) ≤ released p d)
    → ((q : ℕ) → q ≤ c.world.count → heard p q ≡ slice_index_or hears q 0)
    → ((q : ℕ) → q ≤ c.world.count → resumed p q ≡ slice_index_or obeyed q true)
    → Each (PutOut (record c { parcels = parcels; said = said }) p) packets
    → Stands (record n { limits = limits; receipts = receipts; waiting = left; logs = queues; heard = hears; resumed = obeyed; out = packets })
    (record c { heard = heard; resumed = resumed; told = told; parcels = parcels; lost = lost; said = said; world = record c.world { acknowledged = acknowledged; released = released; trims = trims; numbers = numbers } }) p
stands-anew n c p s durable received waits logs gates free hears obeyed out =
    record { me = s.me; count = s.count; inside = s.inside; stage = s.stage; greeted = s.greeted; phase = s.phase; works = s.works; life = s.life; state = s.state; saved = s.saved; durable = durable; exact = s.exact; received = received; waits = waits; logs = logs; gates = gates; free = free; heard = hears; resumed = obeyed; out = all-still (record c { parcels = _; said = _ }) _ p _ refl (λ x i. i) (λ f i. i) out }

-- with other logs, other marks of its peers and other packets, in a cluster that has them too
pub stands-with : (n : TheNode) (c : Cluster) (p : ℕ) {queues : List TheQueue} {hears : List ℕ} {obeyed : List Bool} {packets : List NodePacket}
    {trims : ℕ → ℕ → ℕ} {numbers : ℕ → ℕ → ℕ → Option ℕ} {heard : ℕ → ℕ → ℕ} {resumed : ℕ → ℕ → Bool} {told : ℕ → ℕ → Option Collected} {parcels : List Parcel} {lost : ℕ → ℕ → Bool} {said : List Flagged} → Stands n c p
    → ((d : ℕ) → d ≤ c.world.count → d ≢ p → KeepsOf (log_at queues d) (trims p d) (c.world.handlers.sends p (c.world.history p) d) (numbers p d))
    → ((d : ℕ) → d ≤ c.world.count → d ≢ p → IsShut (log_at queues d) (length (c.world.history p)) (most_released n.limits.durable c p d) (sent_by c.world.handlers p (c.world.history p) d))
    → ((q : ℕ) → q ≤ c.world.count → heard p q ≡ slice_index_or hears q 0)
    → ((q : ℕ) → q ≤ c.world.count → resumed p q ≡ slice_index_or obeyed q true)
    → Each (PutOut (record c { parcels = parcels; said = said }) p) packets
    → Stands (record n { logs = queues; heard = hears; resumed = obeyed; out = packets }) (record c { heard = heard; resumed = resumed; told = told; parcels = parcels; lost = lost; said = said; world = record c.world { trims = trims; numbers = numbers } }) p
stands-with n c p s logs gates hears obeyed out = stands-anew n c p s s.durable s.received s.waits logs gates s.free hears obeyed out

-- with another job, or waiting for its checkpoint, in a cluster that says so too
pub stands-staged : (n : TheNode) (c : Cluster) (p : ℕ) {waits : Bool} {job : Option OpenJob} {stage : ℕ → Stage} {phase : ℕ → Phase} → Stands n c p
    → stage p ≡ stage_of waits → phase p ≡ phase_of job → IsNextAfter (c.world.history p) job
    → Stands (record n { frozen = waits; working = job }) (record c { stage = stage; world = record c.world { phase = phase } }) p
stands-staged n c p s staged phased works =
    record { me = s.me; count = s.count; inside = s.inside; stage = staged; greeted = s.greeted; phase = phased; works = works; life = s.life; state = s.state; saved = s.saved; durable = s.durable; exact = s.exact; received = s.received; waits = s.waits; logs = s.logs; gates = s.gates; free = s.free; heard = s.heard; resumed = s.resumed; out = all-still c _ p n.out refl (λ x i. i) (λ f i. i) s.out }
