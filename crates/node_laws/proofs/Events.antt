-- What events leave of a cluster
use Rattle.std.proofs.Common.{◌≡◌, ℕ, zero, suc, ◌+◌, List, [], ◌∷◌, length, false, refl, sym, ap, ◌∙◌, arith}
use Rattle.std.specs.Prelude.{Some, None, ◌==◌, nat_lt}
use Rattle.std.proofs.lemmas.Bool.Decides.{nat_tests}
use Rattle.cluster.specs.Parcels.{Body, Delivery, Restored, Parcel, Flagged, Said, In}
use Rattle.cluster.specs.Cluster.{Cluster}
use Rattle.cluster.specs.Rules.{Arrives, Replays, Recovers, Opens, arrived}
use Rattle.cluster.specs.Overlap.{Event, Acts, Lacks, Doubts, loss, cut, goes, after_events}
use Rattle.packets.specs.declared.packet.NodePacket.{NodePacket}
use Rattle.packets.specs.Says.{PutOut}
use Rattle.node.specs.Stands.{Each, doer, own_event}
use Rattle.node.proofs.Beside.{same-event}
use Rattle.packets.proofs.Outgoing.{put-still}
use Rattle.gateway.proofs.Steps.{by-if}

-- ---- incarnations

stored-taken : (c : Cluster) (q d : ℕ) (x : Body) → (arrived c q d x).stored ≡ c.stored
stored-taken c q d (Restored i j n s (Some u) f) = refl
stored-taken c q zero (Delivery i ssn x) = refl
stored-taken c zero d (Restored i j n s None f) = refl
stored-taken c q d x = refl

-- an event that leaves what is stored durably leaves all incarnations
pub stored-same : (c : Cluster) (p : ℕ) (e : Event) → own_event e ≡ Some p → (goes c e).stored ≡ c.stored
stored-same c p (Acts exact (Arrives q d x)) o = stored-taken c q d x
stored-same c p (Acts exact (Replays q j)) o = by-if (λ (x : Cluster). x.stored ≡ c.stored) (nat_lt (c.world.saved q + suc j) (length (c.world.history q))) _ _ (λ t. refl) (λ t. refl)
stored-same c p (Acts exact (Recovers q k)) o = by-if (λ (x : Cluster). x.stored ≡ c.stored) (nat_lt (c.world.saved q) k) _ _ (λ t. refl) (λ t. refl)
stored-same c p (Acts exact (Opens q n)) o = absurd (cc (o))
stored-same c p (Acts exact act) o = refl
stored-same c p (Lacks q d i j k) o = stored-taken c q d (loss i j k)
stored-same c p (Doubts q d x) o = stored-taken c q d (cut c d q x)
stored-same c p other o = refl

pub stored-along : (c : Cluster) (p : ℕ) (es : List Event) → Each (λ (e : Event). own_event e ≡ Some p) es → (after_events c es).stored p ≡ c.stored p
stored-along c p [] by = refl
stored-along c p (e ∷ es) by = stored-along (goes c e) p es by.1 ∙ ap (λ f. f p) (stored-same c p e by.0)

-- ---- what stays

-- as many processes with the same handlers, of which the same are durable; and nothing that was put out or said is taken back
pub record Later (c d : Cluster) : Type 0 where
  pub count : d.world.count ≡ c.world.count
  pub handlers : d.world.handlers ≡ c.world.handlers
  pub durable : d.durable ≡ c.durable
  pub parcels : (x : Parcel) → In x c.parcels → In x d.parcels
  pub said : (x : Flagged) → Said x c.said → Said x d.said

pub later-self : (c : Cluster) → Later c c
later-self c = record { count = refl; handlers = refl; durable = refl; parcels = λ x i. i; said = λ x i. i }

pub later-on : (c d e : Cluster) → Later c d → Later d e → Later c e
later-on c d e a b =
    record {
      count = b.count ∙ a.count;
      handlers = b.handlers ∙ a.handlers;
      durable = b.durable ∙ a.durable;
      parcels = λ x i. b.parcels x (a.parcels x i);
      said = λ x i. b.said x (a.said x i);
    }

later-event : (c : Cluster) (e : Event) → Later c (goes c e)
later-event c e =
    let apart : (suc (doer e) == doer e) ≡ false = grind (arith, nat_tests) in
    let s = same-event c e (suc (doer e)) apart in
    record { count = sym s.count; handlers = sym s.handlers; durable = sym s.durable; parcels = s.parcels; said = s.said }

pub later-events : (c : Cluster) (es : List Event) → Later c (after_events c es)
later-events c [] = later-self c
later-events c (e ∷ es) = later-on c (goes c e) (after_events c (e ∷ es)) (later-event c e) (later-events (goes c e) es)

-- a packet that was put out still is
pub put-later : (c d : Cluster) (p : ℕ) (x : NodePacket) → Later c d → PutOut c p x → PutOut d p x
put-later c d p x l o = put-still c d p x (sym l.count) l.parcels l.said o
