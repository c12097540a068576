-- What is stored of a process, and what others have from it
use Rattle.std.specs.Prelude.{◌≡◌, ◌≢◌, ℕ, ◌≤◌, List, ◌++◌, length, map, drop, Some, Bool, true}
use Rattle.world.specs.declared.message.Message.{Message}
use Rattle.world.specs.History.{Payload, nth}
use Rattle.world.specs.Handlers.{Handlers}
use Rattle.packets.specs.declared.packet.Body.{Body}
use Rattle.packets.specs.declared.packet.Body.TheVariants.{Delivery}
use Rattle.packets.specs.declared.packet.NodePacket.{NodePacket}
use Rattle.packets.specs.declared.kept.Kept.{Kept}
use Rattle.packets.specs.Kept.{IsKept}
use Rattle.node.specs.Queue.{TheQueue, no_queue}
use Rattle.node.specs.Node.{TheNode, log_at}
use Rattle.node.specs.Kept.{with_own, queue_of}
use Rattle.node.specs.Stands.{Each, InOrderFrom}
use Rattle.stores.specs.declared.change.Output.{Output}
use Rattle.node_laws.specs.HostProcess.{IsFirst}
use Rattle.node_laws.specs.Back.{length_of}

-- ---- what is stored

-- a log holds these messages, except the first ones, which it has dropped
pub record IsRest (q : TheQueue) (xs : List Payload) : Type 0 where
  pub within : q.dropped ≤ length xs
  pub rest : drop q.dropped xs ≡ q.payloads

-- the kept state of the process p is what it has after these messages: how many there are, its state, and by destination what they send,
-- without what its log had dropped by then
pub record IsAfter (n : ℕ) (f : Handlers) (p : ℕ) (h : List Message) (k : Kept) : Type 0 where
  pub me : k.me ≡ p
  pub count : k.count ≡ n
  pub many : k.length ≡ length h
  pub state : f.state p h ≡ k.state
  pub logs : (d : ℕ) → d ≤ n → d ≢ p → IsRest (log_at (with_own no_queue p (map queue_of k.logs)) d) (f.sends p h d)

-- these bytes are that
abbrev pub AreAfter : ℕ → Handlers → ℕ → List Message → List ℕ → Type 0
AreAfter n f p h bytes = (k : Kept) × (IsKept k bytes × IsAfter n f p h k)

-- ---- what processes and the gateway gave

-- the message that a packet carries is, by its SSN, one that was sent to its receiver. Nothing is said of other packets
abbrev pub IsOf : List Payload → Body → Type 0
IsOf sent (Delivery i ssn x) = nth sent ssn ≡ Some x
IsOf sent body = Unit {0}

-- these messages make p send the one that the packet carries
abbrev pub IsSentBy : Handlers → ℕ → List Message → NodePacket → Type 0
IsSentBy f p h x = IsOf (f.sends p h x.to) x.body

-- ---- what stays

-- a node that is up has what it has after these messages, or after more
pub record HasAfter (f : Handlers) (p : ℕ) (h : List Message) (m : TheNode) : Type 0 where
  pub rest : List Message
  pub many : length (h ++ rest) ≡ length_of m
  pub state : f.state p (h ++ rest) ≡ m.state

-- what was stored of p is what it has after some messages, and later what it has after these or more; and when it is up then, it has no
-- less
pub record Stays (n : ℕ) (f : Handlers) (p : ℕ) (before after : List ℕ) (IsUp : TheNode → Type 0) : Type 0 where
  pub was : List Message
  pub more : List Message
  pub stored_was : AreAfter n f p was before
  pub stored_is : AreAfter n f p (was ++ more) after
  pub up : (m : TheNode) → IsUp m → HasAfter f p (was ++ more) m

-- at each of two moments the messages that are stored of p send all that it gave by then, each in its place
pub record Lasts (n : ℕ) (f : Handlers) (p : ℕ) (before after : List ℕ) (gave gives : List NodePacket) : Type 0 where
  pub was : List Message
  pub more : List Message
  pub stored_was : AreAfter n f p was before
  pub stored_is : AreAfter n f p (was ++ more) after
  pub given_was : Each (IsSentBy f p was) gave
  pub given_is : Each (IsSentBy f p (was ++ more)) gives

-- ---- what is received

-- each of these messages of a process is the next of its sender; and what is stored of a durable process sends those that came from it
pub record Knows (f : Handlers) (durable : ℕ → Bool) (stored : ℕ → List Message) (p : ℕ) (h : List Message) : Type 0 where
  pub ordered : InOrderFrom (λ q. 0) h
  pub known : Each (λ (m : Message). durable m.sender ≡ true → nth (f.sends m.sender (stored m.sender) p) m.ssn ≡ Some m.payload) h

-- of each process there is stored what it has after these messages, and what is stored of durable processes sends those that came from
-- them; so it is with what a process received that is up, with what a durable process ever gave, and with the outputs of it that the
-- gateway ever gave
pub record Keep (n : ℕ) (f : Handlers) (durable : ℕ → Bool) (bytes : ℕ → List ℕ) (IsUp : ℕ → TheNode → Type 0)
    (packets : List NodePacket) (outputs : List Output) : Type 0 where
  pub messages : ℕ → List Message
  pub stored : (p : ℕ) → IsFirst n p → AreAfter n f p (messages p) (bytes p)
  pub received : (p : ℕ) → IsFirst n p → Knows f durable messages p (messages p)
  pub up : (p : ℕ) → IsFirst n p → (m : TheNode) → IsUp p m → (has : HasAfter f p (messages p) m)
      × Knows f durable messages p (messages p ++ has.rest)
  pub given : Each (λ (x : NodePacket). durable x.from ≡ true → IsSentBy f x.from (messages x.from) x) packets
  pub shown : Each (λ (o : Output). durable o.process ≡ true
      → nth (f.sends o.process (messages o.process) 0) o.ssn ≡ Some o.payload) outputs
