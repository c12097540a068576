-- What is promised of durable nodes, whatever fails
use Rattle.std.specs.Prelude.{◌≡◌, ℕ, suc, List, ◌++◌, Some, Bool, true, ◌||◌, ◌==◌, slice_get, take}
use Rattle.world.specs.declared.message.Message.{Message}
use Rattle.world.specs.History.{Payload, nth, count_of}
use Rattle.world.specs.Handlers.{Handlers}
use Rattle.theorems.specs.Growth.{Begins, Grows}
use Rattle.theorems.specs.Orphans.{payloads_of}
use Rattle.cluster.specs.Cluster.{Cluster, durable_opening}
use Rattle.cluster.specs.Promises.{NoOrphanNode, OutputOnce}
use Rattle.cluster.specs.Overlap.{Event, Events, after_events, kept_sends}

-- senders whose messages last: durable nodes, and the gateway, which never fails
abbrev pub lasts : (ℕ → Bool) → ℕ → Bool
lasts durable p = (p == 0) || durable p

-- of these messages those of p are a prefix of what is sent, in order and each once
abbrev pub AreFirst : List Message → ℕ → List Payload → Type 0
AreFirst h p sent =
    record {
      each : (i : ℕ) (m : Message) → slice_get h i ≡ Some m → m.sender ≡ p → nth sent m.ssn ≡ Some m.payload;
      order : Begins (payloads_of p h) sent;
    }

-- whatever a node received from p, or the gateway showed of it, the messages that p's durable checkpoint covers send it
abbrev pub NobodyHasMore : Cluster → ℕ → Type 0
NobodyHasMore c p =
    record { received : (d : ℕ) → AreFirst (c.world.history d) p (kept_sends c p d); shown : AreFirst c.world.shown p (kept_sends c p 0) }

-- the messages that p's checkpoint covers in c are covered in v too, and with them what they send
abbrev pub Stays : Cluster → Cluster → ℕ → Type 0
Stays c v p = record {
  messages : Begins (take (c.world.saved p) (c.world.history p)) (take (v.world.saved p) (v.world.history p));
  sends : (d : ℕ)
      → Begins (kept_sends c p d) (kept_sends v p d);
}

-- the messages of each sender have the SSNs 1, 2, .. in order and without a gap
abbrev pub InOrder : List Message → Type 0
InOrder h = (i : ℕ) (m : Message) → slice_get h i ≡ Some m → m.ssn ≡ suc (count_of m.sender (take i h))

-- in each run, whatever fails and whether or not nodes are durable: what each node has received, and what the gateway has shown, is in
-- order
abbrev pub AlwaysInOrder : Type 0
AlwaysInOrder = (n : ℕ) (f : Handlers) (durable : ℕ → Bool) (es : List Event) → Grows f → Events (durable_opening n f durable) es
    → ((p : ℕ) → InOrder ((after_events (durable_opening n f durable) es).world.history p))
    × InOrder (after_events (durable_opening n f durable) es).world.shown

-- in each run in which some nodes are durable
abbrev pub DurableKeep : Type 0
DurableKeep = (n : ℕ) (f : Handlers) (durable : ℕ → Bool) (es : List Event) (p : ℕ) → Grows f → Events (durable_opening n f durable) es
    → lasts durable p ≡ true
    → NobodyHasMore (after_events (durable_opening n f durable) es) p

-- a message that a checkpoint covers stays covered for good, of any node
abbrev pub CheckpointsStay : Type 0
CheckpointsStay = (n : ℕ) (f : Handlers) (durable : ℕ → Bool) (es more : List Event) (p : ℕ) → Grows f
    → Events (durable_opening n f durable) (es ++ more)
    → Stays (after_events (durable_opening n f durable) es) (after_events (durable_opening n f durable) (es ++ more)) p

-- if all nodes are durable: no orphan, and each output once
abbrev pub AllDurableKeep : Type 0
AllDurableKeep = (n : ℕ) (f : Handlers) (es : List Event) → Grows f → Events (durable_opening n f (λ _. true)) es
    → NoOrphanNode (after_events (durable_opening n f (λ _. true)) es) × OutputOnce (after_events (durable_opening n f (λ _. true)) es)
