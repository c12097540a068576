-- When the gateway agrees with a cluster, and what a call owes
use Rattle.std.specs.Prelude.{◌≡◌, ℕ, suc, ◌+◌, ◌<◌, List, [], ◌∷◌, ◌++◌, length, map, Option, Some, None, true, slice_index_or}
use Rattle.std.specs.List.{AllByRecursion}
use Rattle.world.specs.declared.message.Message.{Message}
use Rattle.world.specs.History.{Payload, count_of}
use Rattle.world.specs.Phases.{Up}
use Rattle.cluster.specs.Cluster.{Cluster, Live}
use Rattle.cluster.specs.Rules.{IsNode, message}
use Rattle.cluster.specs.Goes.{GoesTo}
use Rattle.packets.specs.declared.packet.NodePacket.{NodePacket}
use Rattle.stores.specs.declared.peer.Logged.{Logged}
use Rattle.stores.specs.declared.change.Output.{Output}
use Rattle.stores.specs.Peer.{ThePeer, no_entry}
use Rattle.gateway.specs.Gateway.{TheGateway, peer_of}
use Rattle.packets.specs.Says.{WasSaid, PutOut}

-- of these messages the first ones are dropped, and the log has the others, with their RSNs by SSN; what isn't sent yet has no RSN
pub record KeepsOf (p : ThePeer) (dropped : ℕ) (payloads : List Payload) (numbers : ℕ → Option ℕ) : Type 0 where
  pub before : List Payload
  pub many : length before ≡ p.dropped
  pub joined : before ++ map (λ (e : Logged). e.payload) p.entries ≡ payloads
  pub dropped_is : dropped ≡ p.dropped
  pub numbers_are : (i : ℕ) → i < length p.entries → (slice_index_or p.entries i no_entry).number ≡ numbers (suc (p.dropped + i))
  pub beyond : (i : ℕ) → p.dropped + length p.entries < i → numbers i ≡ None

-- an output as a message
abbrev pub shown_as : Output → Message
shown_as o = message o.process o.ssn o.payload

-- these outputs are the last of those shown
pub record EndsWith (outputs : List Output) (shown : List Message) : Type 0 where
  pub before : List Message
  pub joined : before ++ map shown_as outputs ≡ shown

-- what the gateway holds is what the cluster has of it. Nothing is said of the processes
pub record Stands (g : TheGateway) (c : Cluster) : Type 0 where
  pub count : length g.store.peers ≡ c.world.count
  pub stage : c.stage 0 ≡ Live
  pub greeted : c.greeted 0 ≡ true
  pub phase : c.world.phase 0 ≡ Up
  pub life : c.world.incarnation 0 ≡ 1
  pub history : c.world.history 0 ≡ []
  -- it never fails
  pub exact : c.exact 0 ≡ true
  pub logs : (p : ℕ) → IsNode c p → KeepsOf (peer_of p g) (c.world.trims 0 p) (c.world.inputs p) (c.world.numbers 0 p)
  pub shown : (p : ℕ) → IsNode c p → (peer_of p g).shown ≡ count_of p c.world.shown
  pub outputs : EndsWith g.store.outputs c.world.shown
  pub heard : (p : ℕ) → IsNode c p → c.heard 0 p ≡ (peer_of p g).heard
  pub resumed : (p : ℕ) → IsNode c p → c.resumed 0 p ≡ (peer_of p g).resumed
  -- the packets that wait were sent in the cluster
  pub out : AllByRecursion (PutOut c 0) g.out

-- acts of the gateway lead from the cluster c to one with which the new gateway agrees
abbrev pub Goes : TheGateway → Cluster → Type 0
Goes new c = GoesTo true 0 (Stands new) c

-- what a call owes, in each cluster with which the gateway agrees and for which `given` holds
abbrev pub Owes : (Cluster → Type 0) → TheGateway → TheGateway → Type 0
Owes given old new = (c : Cluster) → Stands old c → given c → Goes new c

-- what a call owes that is handed nothing
abbrev pub Acts : TheGateway → TheGateway → Type 0
Acts old new = Owes (λ c. Unit {0}) old new

-- what a call owes that is handed a packet, if that was sent
abbrev pub IsHanded : NodePacket → TheGateway → TheGateway → Type 0
IsHanded x old new = Owes (λ c. WasSaid c x.from x.to x.body) old new

-- what `take` owes: it gives the first packet that waited, which was sent, and the gateway no longer has it
abbrev pub Takes : Option NodePacket → TheGateway → TheGateway → Type 0
Takes None old new = (old.out ≡ []) × (new ≡ old)
Takes (Some x) old new = (old ≡ record new { out = x ∷ new.out })
    × ((c : Cluster) → Stands old c → PutOut c 0 x × Stands new c)
