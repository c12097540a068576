-- The part of a recovering process that all its stages share, as clauses see it
use Rattle.std.specs.Prelude.{◌≡◌, ◌≢◌, ℕ, suc, ◌+◌, ◌*◌, ◌≤◌, List, [], length, map, replicate, slice_get, slice_index_or, slice_set}
use Rattle.std.specs.Prelude.{Some, Bool, true, false, not, ◌&&◌, ◌==◌, nat_le}
use Rattle.packets.specs.declared.packet.Body.{Body}
use Rattle.packets.specs.declared.packet.NodePacket.{NodePacket}
use Rattle.packets.specs.Packet.{is_lost, is_exact}
use Rattle.packets.specs.declared.page.Flags.{Flags}
use Rattle.packets.specs.declared.kept.Kept.{Kept}
use Rattle.node.specs.declared.limit.Limits.{Limits}
use Rattle.node.specs.Limit.{AreAllowed}
use Rattle.node.specs.Queue.{TheQueue, no_queue}
use Rattle.packets.specs.Outbox.{pushed}
use Rattle.node.specs.declared.job.Given.{Given}
use Rattle.node.specs.Node.{IsPositive, FromPeers, log_at, given_to}
use Rattle.node.specs.declared.node.TheConstants.{MOST_GIVEN, MOST_RECEIVED}
pub use Rattle.node.specs.Kept.{with_own, is_short, is_process, comes_back, queue_of}

-- its limits; its number, and how many processes there are; its incarnation; its state; how many messages its checkpoint covers, and how
-- many of these came from each sender; by destination the messages that it keeps; by peer the greatest incarnation that it heard, and
-- whether that one said that it lost what it had; whether failures came one at a time, as far as it knows; the packets that wait
pub record TheOwn : Type 0 where
  pub limits : Limits
  pub me : ℕ
  pub count : ℕ
  pub life : ℕ
  pub state : List ℕ
  pub base : ℕ
  pub covered : List ℕ
  pub logs : List TheQueue
  pub heard : List ℕ
  pub lost : List Bool
  pub exact : Bool
  pub out : List NodePacket

-- what always holds of its numbers
pub record IsOwn (limits : Limits)
    (me count life base : ℕ) (covered heard : List ℕ) (lost : List Bool) (logs : List TheQueue) : Type 0 where
  pub allowed : AreAllowed limits
  pub inside : 1 ≤ me
  pub within : me ≤ count
  pub few : count ≤ 15
  pub wide : length covered ≡ suc count
  pub heard_wide : length heard ≡ suc count
  pub lost_wide : length lost ≡ suc count
  pub logs_wide : length logs ≡ suc count
  pub counts : (q : ℕ) → slice_index_or covered q 0 ≤ base
  pub young : base ≤ MOST_RECEIVED
  pub alive : IsPositive life
  -- what its checkpoint covers is from its peers
  pub covers : FromPeers me count base covered []

-- for each received message at most sixteen were sent to each destination
abbrev pub IsShort : List TheQueue → ℕ → Type 0
IsShort logs received = (d : ℕ) → (log_at logs d).dropped + length (log_at logs d).payloads ≤ MOST_GIVEN * received

-- a packet of the process
abbrev pub packet_of : TheOwn → ℕ → Body → NodePacket
packet_of o to body = record { count = o.count; from = o.me; to = to; body = body }

-- puts one more packet into the outbox, if there is room
abbrev pub posts : ℕ → Body → TheOwn → TheOwn
posts to body o = record o { out = pushed (packet_of o to body) o.out }

-- hears this incarnation of a peer
abbrev pub hears : ℕ → ℕ → TheOwn → TheOwn
hears q i o = record o { heard = slice_set o.heard q i }

-- takes the flags of a Told from this incarnation of a peer: whether its teller is exact, and whether it lost what it had
abbrev pub learns : ℕ → ℕ → Flags → TheOwn → TheOwn
learns q j flags o =
    record (hears q j o) { exact = o.exact && (not (is_lost flags) && is_exact flags); lost = slice_set o.lost q (is_lost flags) }

-- a packet is from another node of this cluster to this one
abbrev pub is_for : TheOwn → NodePacket → Bool
is_for o x = (x.count == o.count) && (x.to == o.me) && nat_le x.from o.count && not (x.from == o.me)

-- a handler may send these: there aren't too many, and each is to a peer
pub record MayGive (o : TheOwn) (given : List Given) : Type 0 where
  pub few : length given ≤ MOST_GIVEN
  pub others : (i : ℕ) (s : Given) → slice_get given i ≡ Some s → (s.to ≤ o.count) × (s.to ≢ o.me)

-- the handler ran on the message with the RSN k: takes its state, and logs what it sent
abbrev pub ran : ℕ → List ℕ → List Given → TheOwn → TheOwn
ran k state given o = record o { state = state; logs = given_to k given o.logs }

-- the process that comes back from kept state with these limits in this incarnation: it has heard the gateway, and as far as it knows
-- failures came one at a time
abbrev pub own_of : Limits → Kept → ℕ → TheOwn
own_of limits k life =
    record {
      limits = limits;
      me = k.me;
      count = k.count;
      life = life;
      state = k.state;
      base = k.length;
      covered = with_own 0 k.me k.counts;
      logs = with_own no_queue k.me (map queue_of k.logs);
      heard = slice_set (replicate (k.count + 1) 0) 0 1;
      lost = replicate (k.count + 1) false;
      exact = true;
      out = [];
    }
