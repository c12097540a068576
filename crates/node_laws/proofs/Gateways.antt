-- The gateway, as it is durable and as it is
use Rattle.std.proofs.Common.{◌≡◌, true, sym, subst}
use Rattle.std.specs.List.{AllByRecursion}
use Rattle.cluster.specs.Cluster.{Cluster}
use Rattle.cluster.specs.Overlap.{after_events}
use Rattle.cluster.proofs.Goes.{goes-then}
use Rattle.packets.specs.Says.{PutOut}
use Rattle.stores.specs.Store.{TheStore}
use Rattle.gateway.specs.Gateway.{TheGateway}
use Rattle.gateway.specs.Stands.{Stands, Goes, Owes}
use Rattle.gateway.proofs.Steps.{stays, stands-waiting, all-more}
use Rattle.node_laws.proofs.Events.{Later, later-on, later-events, put-later}

-- wherever the one stands later, the gateway goes on to the other: its acts wait until they are durable
abbrev pub Ahead : TheGateway → TheGateway → Cluster → Type 0
Ahead durable now c = (d : Cluster) → Stands durable d → Later c d → Goes now d

pub ahead-none : (g : TheGateway) (c : Cluster) → Ahead g g c
ahead-none g c d s l = stays g d s

-- so it is later
pub ahead-still : (durable now : TheGateway) (b c : Cluster) → Later b c → Ahead durable now b → Ahead durable now c
ahead-still durable now b c l h d s m = h d s (later-on b c d l m)

-- after a call, if what it is given holds at any later moment
pub ahead-acts : (given : Cluster → Type 0) (durable now new : TheGateway) (c : Cluster) → ((d : Cluster) → Later c d → given d) → Owes given now new → Ahead durable now c → Ahead durable new c
ahead-acts given durable now new c holds owed h d s l =
    let g : Goes now d = h d s l in
    goes-then true 0 (λ x. Stands now x × Later c x) (Stands new) d
    (record { events = g.events; run = g.run; by = g.by; acts = g.acts; stands = (g.stands, later-on c d (after_events d g.events) l (later-events d g.events)) })
    (λ x t. owed x t.0 (holds x t.1))

-- ---- what has the same store

-- what was put out still is
pub out-more : (g : TheGateway) (c d : Cluster) → Later c d → AllByRecursion (PutOut c 0) g.out → AllByRecursion (PutOut d 0) g.out
out-more g c d l out = all-more (PutOut c 0) (PutOut d 0) g.out (λ x. put-later c d 0 x l) out

-- with what was put out, the one stands where the other does
pub stands-as : (old new : TheGateway) (c : Cluster) → new.store ≡ old.store → AllByRecursion (PutOut c 0) new.out → Stands old c → Stands new c
stands-as old new c e out s = subst (λ (t : TheStore). Stands (record new { store = t }) c) (sym e) (stands-waiting old c s out)
