-- Acts one after another, and packets that are put out
use Rattle.std.proofs.Common.{◌≡◌, inl, inr, ℕ, ◌-◌, ◌<◌, List, [], ◌∷◌, ◌++◌, length, Bool, true, false, refl, sym, subst, arith}
use Rattle.std.specs.Prelude.{Option, slice_index_or, nat_lt, if◌then◌else◌}
use Rattle.std.specs.List.{AllByRecursion}
use Rattle.world.specs.declared.message.Message.{Message}
use Rattle.world.specs.History.{Payload, count_of}
use Rattle.cluster.specs.Parcels.{Body, Parcel, In, Flagged, Said}
use Rattle.cluster.specs.Cluster.{Cluster, Collected, is_well, takes}
use Rattle.cluster.specs.Rules.{Puts, MayPut, IsNode}
use Rattle.cluster.specs.Overlap.{Acts as Does, IsKept, goes}
use Rattle.cluster.proofs.Goes.{goes-self, goes-act, goes-then}
use Rattle.packets.specs.declared.packet.Body as bodies
use Rattle.packets.specs.declared.packet.NodePacket.{NodePacket}
use Rattle.packets.specs.Outbox.{pushed}
use Rattle.packets.specs.Says.{Says, WasSaid, PutOut}
use Rattle.packets.proofs.Outgoing.{Tells, said-more, flagged-put, put-still}
use Rattle.stores.specs.declared.change.Change.{Change}
use Rattle.stores.specs.declared.change.Output.{Output}
use Rattle.stores.specs.Peer.{ThePeer, no_peer}
use Rattle.packets.specs.declared.outbox.TheConstants.{OUTBOX}
use Rattle.gateway.specs.Gateway.{TheGateway, posts, packet_of}
use Rattle.gateway.specs.Stands.{Stands, KeepsOf, EndsWith, Goes, Owes, Acts}

-- what holds of all holds of them where less was asked
pub all-more : {X : Type 0} (P Q : X → Type 0) (xs : List X) → ((x : X) → P x → Q x) → AllByRecursion P xs → AllByRecursion Q xs
all-more P Q [] f h = tt
all-more P Q (x ∷ xs) f h = (f x h.0, all-more P Q xs f h.1)

all-append : {X : Type 0} (P : X → Type 0) (xs ys : List X) → AllByRecursion P xs → AllByRecursion P ys → AllByRecursion P (xs ++ ys)
all-append P [] ys h g = g
all-append P (x ∷ xs) ys h g = (h.0, all-append P xs ys h.1 g)

-- a packet more, where there is room
all-pushed : (P : NodePacket → Type 0) (xs : List NodePacket) (x : NodePacket) → AllByRecursion P xs → P x → AllByRecursion P (pushed x xs)
all-pushed P xs x h e = by_room (nat_lt (length xs) OUTBOX)
  where
    by_room : (b : Bool) → AllByRecursion P (if b then xs ++ x ∷ [] else xs)
    by_room true = all-append P xs (x ∷ []) h (e, tt)
    by_room false = h

-- what waits was put out, also after more was put out and said
outs-still : (c d : Cluster) (xs : List NodePacket) → c.world.count ≡ d.world.count → ((y : Parcel) → In y c.parcels → In y d.parcels) → ((y : Flagged) → Said y c.said → Said y d.said)
    → AllByRecursion (PutOut c 0) xs → AllByRecursion (PutOut d 0) xs
outs-still c d xs many more said out = all-more (PutOut c 0) (PutOut d 0) xs (λ x. put-still c d 0 x many more said) out

-- and one packet more
pub out-posted : (g : TheGateway) (c d : Cluster) (p : ℕ) (x : bodies.Body) → c.world.count ≡ d.world.count → ((y : Parcel) → In y c.parcels → In y d.parcels) → ((y : Flagged) → Said y c.said → Said y d.said)
    → length g.store.peers ≡ d.world.count → WasSaid d 0 p x → AllByRecursion (PutOut c 0) g.out → AllByRecursion (PutOut d 0) (posts p x g).out
out-posted g c d p x many more said count was out = all-pushed (PutOut d 0) g.out (packet_of g p x) (outs-still c d g.out many more said out) (record { count_is = count; from = refl; said = was })

-- it stands with other logs, outputs, marks of its peers and packets, in a cluster that has them too
pub stands-with : (g : TheGateway) (c : Cluster) {page tick : ℕ} {peers : List ThePeer} {outputs : List Output} {ks : List Change} {packets : List NodePacket} {trims : ℕ → ℕ → ℕ} {numbers : ℕ → ℕ → ℕ → Option ℕ}
    {heard : ℕ → ℕ → ℕ} {resumed : ℕ → ℕ → Bool} {told : ℕ → ℕ → Option Collected} {inputs : ℕ → List Payload} {shown : List Message} {parcels : List Parcel} {lost : ℕ → ℕ → Bool} {said : List Flagged} → Stands g c
    → length peers ≡ c.world.count
    → ((p : ℕ) → IsNode c p → KeepsOf (slice_index_or peers (p - 1) no_peer) (trims 0 p) (inputs p) (numbers 0 p))
    → ((p : ℕ) → IsNode c p → (slice_index_or peers (p - 1) no_peer).shown ≡ count_of p shown)
    → EndsWith outputs shown
    → ((p : ℕ) → IsNode c p → heard 0 p ≡ (slice_index_or peers (p - 1) no_peer).heard)
    → ((p : ℕ) → IsNode c p → resumed 0 p ≡ (slice_index_or peers (p - 1) no_peer).resumed)
    → AllByRecursion (PutOut (record c { parcels = parcels; said = said }) 0) packets
    → Stands (record { page = page; tick = tick; store = record { peers = peers; outputs = outputs }; changes = ks; out = packets })
    (record c { heard = heard; resumed = resumed; told = told; parcels = parcels; lost = lost; said = said; world = record c.world { trims = trims; numbers = numbers; inputs = inputs; shown = shown } })
stands-with g c s count logs shown outputs heard resumed out =
    record {
      count = count;
      stage = s.stage;
      greeted = s.greeted;
      phase = s.phase;
      life = s.life;
      history = s.history;
      exact = s.exact;
      logs = logs;
      shown = shown;
      outputs = outputs;
      heard = heard;
      resumed = resumed;
      out = outs-still _ _ _ refl (λ y i. i) (λ y i. i) out;
    }

-- whatever waits, if it was put out, and whatever is told of what happened
pub stands-waiting : (g : TheGateway) (c : Cluster) {page tick : ℕ} {out : List NodePacket} {ks : List Change} → Stands g c → AllByRecursion (PutOut c 0) out
    → Stands (record g { page = page; tick = tick; out = out; changes = ks }) c
stands-waiting g c s out = stands-with g c s s.count s.logs s.shown s.outputs s.heard s.resumed out

pub takes-here : (g : TheGateway) (c : Cluster) → Stands g c → takes c 0 ≡ true
takes-here g c s = rw (s.stage, s.greeted, s.phase) refl

pub well-here : (g : TheGateway) (c : Cluster) → Stands g c → is_well c 0 ≡ true
well-here g c s = rw (s.stage, s.greeted, s.phase) refl

-- to put out what the cluster lets it
pub posted : (g : TheGateway) (c : Cluster) (p : ℕ) (x : bodies.Body) (b : Body) → Says 0 x b → Tells true x → Stands g c → IsNode c p → MayPut c 0 p b → IsKept c (Puts 0 p b) → Goes (posts p x g) c
posted g c p x b says tells s node may kept =
    let d : Cluster = goes c (Does true (Puts 0 p b)) in
    goes-act true 0 (Stands (posts p x g)) c (Puts 0 p b) (omega arith, node.1, (λ e. absurd (let some : 0 < p = node.0 in omega (arith, e, some))), may) kept tt refl
    (stands-with g c s s.count s.logs s.shown s.outputs s.heard s.resumed
    (out-posted g c d p x refl (λ y i. inr i) (said-more c (Does true (Puts 0 p b))) s.count (b, says, inl refl, flagged-put c 0 p x b says (subst (λ e. Tells e x) (sym s.exact) tells)) s.out))

-- to do nothing
pub stays : (g : TheGateway) (c : Cluster) → Stands g c → Goes g c
stays g c s = goes-self true 0 (Stands g) c s

pub acts-self : (g : TheGateway) → Acts g g
acts-self g c s u = stays g c s

pub owes-then : (given : Cluster → Type 0) (old mid new : TheGateway) → Owes given old mid → Acts mid new → Owes given old new
owes-then given old mid new f g c s h = goes-then true 0 (Stands mid) (Stands new) c (f c s h) (λ d t. g d t tt)

pub acts-then : (old mid new : TheGateway) → Acts old mid → Acts mid new → Acts old new
acts-then old mid new f g = owes-then (λ c. Unit {0}) old mid new f g

-- what holds of both branches holds of the one that is taken
pub by-if : {X : Type 0} (P : X → Type 0) (b : Bool) (x y : X) → (b ≡ true → P x) → (b ≡ false → P y) → P (if b then x else y)
by-if P true x y f g = f refl
by-if P false x y f g = g refl
