-- What a process has of its own, in the clusters where it acts
use Rattle.std.proofs.Common.{◌≡◌, ◌≢◌, ◌⊎◌, inl, inr, ℕ, ◌+◌, ◌≤◌, List, take, length, Bool, true, false, refl, sym, ◌∙◌, arith}
use Rattle.std.specs.Prelude.{Option, None, slice_index_or, not, ◌&&◌, ◌==◌, nat_le}
use Rattle.std.proofs.lemmas.Bool.Decides.{nat_tests}
use Rattle.world.specs.declared.message.Message.{Message}
use Rattle.theorems.proofs.Tests.{both}
use Rattle.cluster.specs.Parcels.{Body, Ask, Parcel, Flagged, In, Said, parcel}
use Rattle.cluster.specs.Cluster.{Cluster, Collecting}
use Rattle.cluster.specs.Rules.{Puts}
use Rattle.cluster.specs.Overlap.{Event, Acts, Loses, Returns, said_after, goes}
use Rattle.cluster.specs.Exact.{MayStep}
use Rattle.packets.specs.declared.packet.Body as bodies
use Rattle.packets.specs.declared.packet.NodePacket.{NodePacket}
use Rattle.packets.specs.declared.packet.Body.TheVariants as packets
use Rattle.packets.specs.Says.{Says, IsFlagged}
use Rattle.packets.proofs.Outgoing.{put-still, said-more}
use Rattle.node.specs.Queue.{TheQueue}
use Rattle.node.specs.Node.{log_at}
use Rattle.node.specs.Stands.{Each, KeepsOf, sent_by}
use Rattle.node.proofs.Lists.{all-more, all-pushed}
use Rattle.recovery.specs.Own.{TheOwn, posts, packet_of, is_for}
use Rattle.recovery.specs.Overlap.{heard_of, loss_of, tells_loss}
use Rattle.recovery.specs.Collection.{TheCollecting}
use Rattle.recovery.specs.Replays.{TheReplaying}
use Rattle.recovery.specs.Replayed.{TheReplayed, StandsReplayed}
use Rattle.recovery.specs.Stands.{HasOwn, IsHeldBack, IsSent, OfProcess, StandsCollecting}
use Rattle.recovery.specs.StandsAtReplay.{StandsReplaying}

loss-still : (c d : Cluster) (p to : ℕ) (x : bodies.Body) → ((f : Flagged) → Said f c.said → Said f d.said) → OfProcess c p to x → OfProcess d p to x
loss-still c d p to (packets.Told i j k flags entries) says of = λ e. (let t = of e in record { process = t.process; flags_are = t.flags_are; none = t.none; said = says _ t.said })
loss-still c d p to x says of = of

-- packets that were put out still are where more was sent and said
pub outs-still : (c d : Cluster) (p : ℕ) (xs : List NodePacket) → c.world.count ≡ d.world.count → ((x : Parcel) → In x c.parcels → In x d.parcels) → ((f : Flagged) → Said f c.said → Said f d.said) → Each (IsSent c p) xs → Each (IsSent d p) xs
outs-still c d p xs same more says all = all-more (IsSent c p) (IsSent d p) xs (λ x s. (s.0, loss-still c d p x.to x.body says s.1, λ e. put-still c d p x same more says (s.2 e))) all

-- with other logs, other marks of its peers and other packets, in a cluster that has them too
pub own-with : (o : TheOwn) (c d : Cluster) (p : ℕ) (h : List Message) {trims trims2 : ℕ → ℕ} {numbers numbers2 : ℕ → ℕ → Option ℕ} {queues : List TheQueue} {hears : List ℕ} {lost : List Bool} {exact : Bool} {xs : List NodePacket}
    → d.world.count ≡ c.world.count → d.world.handlers ≡ c.world.handlers → d.world.saved p ≡ c.world.saved p → d.durable p ≡ c.durable p → ((x : Parcel) → In x c.parcels → In x d.parcels) → ((f : Flagged) → Said f c.said → Said f d.said) → HasOwn o c p h trims numbers
    → ((e : ℕ) → e ≤ d.world.count → e ≢ p → KeepsOf (log_at queues e) (trims2 e) (d.world.handlers.sends p h e) (numbers2 e))
    → ((e : ℕ) → e ≤ d.world.count → e ≢ p → IsHeldBack (log_at queues e) (length h) o.base (sent_by d.world.handlers p h e))
    → ((q : ℕ) → q ≤ d.world.count → d.heard p q ≡ slice_index_or hears q 0) → d.exact p ≡ exact → ((q : ℕ) → q ≤ d.world.count → d.lost p q ≡ slice_index_or lost q true)
    → (exact ≡ true → (q : ℕ) → q ≤ d.world.count → slice_index_or lost q true ≡ false) → slice_index_or lost 0 true ≡ false → Each (IsSent c p) xs
    → HasOwn (record o { logs = queues; heard = hears; lost = lost; exact = exact; out = xs }) d p h trims2 numbers2
own-with o c d p h {xs = xs} count handlers saved durable more says s logs held heard exact lost sure greets out =
    record {
      me = s.me;
      count = s.count ∙ sym count;
      inside = rw count s.inside;
      saved = saved ∙ s.saved;
      many = s.many;
      state = rw handlers s.state;
      covered = λ q l. s.covered q (omega (arith, l, count));
      logs = logs;
      held = held;
      grown = λ e. rw handlers (s.grown e);
      heard = heard;
      durable = λ e. s.durable (sym durable ∙ e);
      exact = exact;
      lost = lost;
      sure = sure;
      greets = greets;
      out = outs-still c d p xs (sym count) more says out;
    }

-- with other packets that were put out
pub own-out : (o : TheOwn) (c : Cluster) (p : ℕ) (h : List Message) (trims : ℕ → ℕ) (numbers : ℕ → ℕ → Option ℕ) (rest : List NodePacket)
    → Each (IsSent c p) rest → HasOwn o c p h trims numbers → HasOwn (record o { out = rest }) c p h trims numbers
own-out o c p h trims numbers rest out s = own-with o c c p h refl refl refl refl (λ x i. i) (λ f i. i) s s.logs s.held s.heard s.exact s.lost s.sure s.greets out

-- with another own part that has other packets, in a cluster where other packets were sent and said
pub collecting-own : (n : TheCollecting) (c : Cluster) (p : ℕ) {rest : List NodePacket} {parcels : List Parcel} {said : List Flagged} → HasOwn (record n.own { out = rest }) (record c { parcels = parcels; said = said }) p (take n.own.base (c.world.history p)) (c.world.saved_trims p) (λ _ _. None)
    → StandsCollecting n c p → StandsCollecting (record n { own = record n.own { out = rest } }) (record c { parcels = parcels; said = said }) p
collecting-own n c p own s = record { stage = s.stage; life = s.life; own = own; told = s.told; alone = s.alone }

pub replaying-own : (n : TheReplaying) (c : Cluster) (p : ℕ) {rest : List NodePacket} {parcels : List Parcel} {said : List Flagged}
    → HasOwn (record n.own { out = rest }) (record c { parcels = parcels; said = said }) p (take (n.own.base + n.done) (c.world.history p)) (c.world.trims p) (c.world.numbers p)
    → StandsReplaying n c p → StandsReplaying (record n { own = record n.own { out = rest } }) (record c { parcels = parcels; said = said }) p
replaying-own n c p own s =
    record { stage = s.stage; greeted = s.greeted; phase = s.phase; life = s.life; own = own; behind = s.behind; received = s.received; acknowledged = s.acknowledged; numbers = s.numbers; resumed = s.resumed; restoring = s.restoring; shut = s.shut; released = s.released }

pub replayed-own : (n : TheReplayed) (c : Cluster) (p : ℕ) {rest : List NodePacket} {parcels : List Parcel} {said : List Flagged} → HasOwn (record n.own { out = rest }) (record c { parcels = parcels; said = said }) p (c.world.history p) (c.world.trims p) (c.world.numbers p)
    → StandsReplayed n c p → StandsReplayed (record n { own = record n.own { out = rest } }) (record c { parcels = parcels; said = said }) p
replayed-own n c p own s =
    record { stage = s.stage; greeted = s.greeted; phase = s.phase; life = s.life; own = own; received = s.received; acknowledged = s.acknowledged; numbers = s.numbers; resumed = s.resumed; restoring = s.restoring; released = s.released }

-- with other packets that were put out
pub collecting-out : (n : TheCollecting) (c : Cluster) (p : ℕ) (rest : List NodePacket) → Each (IsSent c p) rest → StandsCollecting n c p → StandsCollecting (record n { own = record n.own { out = rest } }) c p
collecting-out n c p rest out s = collecting-own n c p (own-out n.own c p _ _ _ rest out s.own) s

pub replaying-out : (n : TheReplaying) (c : Cluster) (p : ℕ) (rest : List NodePacket) → Each (IsSent c p) rest → StandsReplaying n c p → StandsReplaying (record n { own = record n.own { out = rest } }) c p
replaying-out n c p rest out s = replaying-own n c p (own-out n.own c p _ _ _ rest out s.own) s

-- what it puts out was put out
pub own-posted : (o : TheOwn) (c : Cluster) (p to : ℕ) (x : bodies.Body) (b : Body) (h : List Message) (trims : ℕ → ℕ) (numbers : ℕ → ℕ → Option ℕ)
    → Says p x b → OfProcess (goes c (Acts true (Puts p to b))) p to x → IsFlagged (said_after c (Acts true (Puts p to b))) (parcel p to b) x → HasOwn o c p h trims numbers → HasOwn (posts to x o) (goes c (Acts true (Puts p to b))) p h trims numbers
own-posted o c p to x b h trims numbers says of flags s =
    let e : Event = Acts true (Puts p to b) in
    let d : Cluster = goes c e in
    let t : HasOwn o d p h trims numbers = own-with o c d p h refl refl refl refl (λ y i. inr i) (said-more c e) s s.logs s.held s.heard s.exact s.lost s.sure s.greets s.out in
    own-out o d p h trims numbers (posts to x o).out
    (all-pushed (IsSent d p) o.out (packet_of o to x) t.out
    (s.me, of, λ e. record { count_is = s.count; from = s.me; said = (b, says, inl refl, flags) })) t

-- it may say to a peer that asked that all is lost
pub may-lose : (o : TheOwn) (c : Cluster) (p to i k : ℕ) {h : List Message} {trims : ℕ → ℕ} {numbers : ℕ → ℕ → Option ℕ} → HasOwn o c p h trims numbers → to ≤ o.count → In (parcel to p (Ask i k)) c.parcels → i ≡ heard_of to o
    → (Returns c p × (o.life ≡ c.world.incarnation p)) ⊎ ((c.stage p ≡ Collecting) × (o.life ≡ c.stored p)) → MayStep c (Loses p to i o.life k)
may-lose o c p to i k s low given is at = ((given, is ∙ sym (s.heard to (omega (arith, low, s.count))), at), tt)

-- then it was said
pub own-lost : (o : TheOwn) (c : Cluster) (p to i k : ℕ) {h : List Message} {trims : ℕ → ℕ} {numbers : ℕ → ℕ → Option ℕ} → HasOwn o c p h trims numbers → HasOwn (tells_loss to i k o) (goes c (Loses p to i o.life k)) p h trims numbers
own-lost o c p to i k s =
    let d : Cluster = goes c (Loses p to i o.life k) in
    let t = own-with o c d p _ refl refl refl refl (λ y i. i) (λ f i. inr i) s s.logs s.held s.heard s.exact s.lost s.sure s.greets s.out in
    own-out o d p _ _ _ (tells_loss to i k o).out
    (all-pushed (IsSent d p) o.out (packet_of o to (loss_of i k o)) t.out
    (s.me, (λ e. record { process = s.inside.0; flags_are = refl; none = refl; said = inl refl }), λ e. absurd (let z : true ≡ false = e in cc))) t

-- a packet that is for it is to it, from another process
pub for-own : (o : TheOwn) (x : NodePacket) → is_for o x ≡ true → (x.to ≡ o.me) × ((x.from ≤ o.count) × (x.from ≢ o.me))
for-own o x e =
    let a = both ((x.count == o.count) && (x.to == o.me) && nat_le x.from o.count) (not (x.from == o.me)) e in
    let b = both ((x.count == o.count) && (x.to == o.me)) (nat_le x.from o.count) a.0 in
    let d = both (x.count == o.count) (x.to == o.me) b.0 in
    let to : x.to ≡ o.me = (let z : (x.to == o.me) ≡ true = d.1 in grind (arith, nat_tests)) in
    let low : x.from ≤ o.count = (let z : nat_le x.from o.count ≡ true = b.1 in grind (arith, nat_tests)) in
    let other : x.from ≢ o.me = (let z : (x.from == o.me) ≡ false = not-true (x.from == o.me) a.1 in grind (arith, nat_tests)) in
    (to, (low, other))
  where
    not-true : (b : Bool) → not b ≡ true → b ≡ false
    not-true true f = absurd (cc)
    not-true false f = refl
