-- A node puts a packet out
use Rattle.std.proofs.Common.{◌≡◌, ◌≢◌, inl, inr, ℕ, ◌≤◌, ◌∷◌, Bool, true, false, refl, sym, ap, ◌∙◌, arith}
use Rattle.std.specs.Prelude.{Option, Some, None}
use Rattle.world.specs.Phases.{is_up}
use Rattle.cluster.specs.Parcels.{Body, parcel}
use Rattle.cluster.specs.Cluster.{Cluster, runs, is_well, takes}
use Rattle.cluster.specs.Rules.{Act, Puts, May, MayPut}
use Rattle.cluster.specs.Overlap.{Acts, IsKept, said_after, goes}
use Rattle.cluster.specs.Exact.{IsTold}
use Rattle.node.specs.declared.job.OpenJob.{OpenJob}
use Rattle.packets.specs.declared.packet.Body as bodies
use Rattle.node.specs.Node.{TheNode, posts, packet_of}
use Rattle.packets.specs.Says.{Says, IsFlagged}
use Rattle.node.specs.Stands.{Stands, GoesOn, PutOut, phase_of, stage_of, own_act}
use Rattle.node.proofs.Lists.{all-pushed}
use Rattle.packets.proofs.Outgoing.{said-more}
use Rattle.node.proofs.Sent.{all-still}
use Rattle.cluster.proofs.Goes.{goes-self, goes-act}
use Rattle.node.proofs.StandsLemmas.{stands-with}

up-with : (o : Option OpenJob) → is_up (phase_of o) ≡ true
up-with None = refl
up-with (Some j) = refl

pub is-up : (n : TheNode) (c : Cluster) (p : ℕ) → Stands n c p → is_up (c.world.phase p) ≡ true
is-up n c p s = ap is_up s.phase ∙ up-with n.working

pub stands-takes : (n : TheNode) (c : Cluster) (p : ℕ) → n.frozen ≡ false → Stands n c p → takes c p ≡ true
stands-takes n c p live s = rw (s.stage, live, s.greeted, is-up n c p s) refl

-- also while it waits for its checkpoint it is up
runs-with : (b : Bool) → runs (stage_of b) ≡ true
runs-with true = refl
runs-with false = refl

pub stands-well : (n : TheNode) (c : Cluster) (p : ℕ) → Stands n c p → is_well c p ≡ true
stands-well n c p s = rw (s.stage, runs-with n.frozen, s.greeted, is-up n c p s) refl

-- it stands in the cluster in which the packet is put out
pub stands-posted : (n : TheNode) (c : Cluster) (p to : ℕ) (x : bodies.Body) (b : Body) → Says p x b → IsFlagged (said_after c (Acts true (Puts p to b))) (parcel p to b) x → Stands n c p → Stands (posts to x n) (goes c (Acts true (Puts p to b))) p
stands-posted n c p to x b says said s =
    let d : Cluster = record c { parcels = parcel p to b ∷ c.parcels; said = said_after c (Acts true (Puts p to b)) } in
    stands-with n c p s s.logs s.gates s.heard s.resumed
    (all-pushed (PutOut d p) n.out (packet_of n to x) (all-still c d p n.out refl (λ y i. inr i) (said-more c (Acts true (Puts p to b))) s.out)
    (record { count_is = s.count; from = s.me; said = (b, says, inl refl, said) }))

-- to put out what the cluster lets it
pub posted : (n : TheNode) (c : Cluster) (to : ℕ) (x : bodies.Body) (b : Body) → Says n.me x b → Stands n c n.me → to ≤ n.count → to ≢ n.me → MayPut c n.me to b → IsKept c (Puts n.me to b)
    → IsFlagged (said_after c (Acts true (Puts n.me to b))) (parcel n.me to b) x → GoesOn n.me (posts to x n) c
posted n c to x b says s low other may kept said =
    let within : to ≤ c.world.count = omega (arith, low, s.count) in
    goes-act true n.me (λ d. Stands (posts to x n) d n.me) c (Puts n.me to b) (s.inside.1, within, (λ e. other (sym e)), may) kept tt refl (stands-posted n c n.me to x b says said s)

-- to do nothing
pub stays : (n : TheNode) (c : Cluster) → Stands n c n.me → GoesOn n.me n c
stays n c s = goes-self true n.me (λ d. Stands n d n.me) c s

-- after one more act
pub goes-on : (p : ℕ) (n : TheNode) (c : Cluster) (a : Act) → May c a → IsKept c a → IsTold c (Acts true a) → own_act a ≡ Some p → GoesOn p n (goes c (Acts true a)) → GoesOn p n c
goes-on p n c a may kept told by g = record { events = Acts true a ∷ g.events; run = (((may, kept), told), g.run); by = (by, g.by); acts = λ t. (tt, g.acts t); stands = g.stands }
