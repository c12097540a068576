-- What every call keeps, whatever fails
use Rattle.std.specs.Prelude.{◌≡◌, ℕ, suc, ◌+◌, ◌<◌, ◌≤◌, List, length, Option, Some, None, Bool, true, false, slice_get, take}
use Rattle.std.proofs.Common.{◌≢◌}
use Rattle.world.specs.declared.message.Message.{Message}
use Rattle.world.specs.declared.packet.Packet.{Packet}
use Rattle.world.specs.declared.packet.Packet.TheVariants.{Delivery, Number, Acknowledgement}
use Rattle.world.specs.History.{count_of}
use Rattle.world.specs.Phases.{Phase, Up, Busy, Down, Replaying, Resync, is_up}
use Rattle.world.specs.World.{World}
use Rattle.theorems.specs.Growth.{Grows}

-- of n processes, p may receive this message after this history: it comes from another, and is its sender's next
abbrev pub IsNext : ℕ → ℕ → List Message → Message → Type 0
IsNext n p h x =
    record {
      target : 0 < p;
      inside : p ≤ n;
      other : x.sender ≢ p;
      from : x.sender ≤ n;
      next : x.ssn ≡ suc (count_of x.sender h);
    }

-- the same of the message of an open live job
abbrev pub JobNext : ℕ → ℕ → List Message → Phase → Type 0
JobNext n p h (Busy m) = IsNext n p h m
JobNext n p h phase = Unit {0}

-- a process that replays has some of its history left to replay
abbrev pub Replays : ℕ → ℕ → Phase → Type 0
Replays saved n (Replaying j working alone) = saved + j < n
Replays saved n phase = Unit {0}

-- whether a process in this phase replays or restores numbers
abbrev pub is_recovering : Phase → Bool
is_recovering Up = false
is_recovering (Busy m) = false
is_recovering Down = false
is_recovering (Replaying j working alone) = true
is_recovering (Resync todo) = true

-- an incarnation of r that a packet may have: not a future one, and not the present one while r isn't up
abbrev pub IsPast : World → ℕ → ℕ → Type 0
IsPast w r k = record { past : k ≤ w.incarnation r; live : k ≡ w.incarnation r → is_up (w.phase r) ≡ true }

-- a message goes from one of n processes, or the outside, to another. A number or an acknowledgement has an incarnation as above
abbrev pub PacketShape : World → Option Packet → Type 0
PacketShape w None = Unit {0}
PacketShape w (Some (Delivery d m)) = record { other : m.sender ≢ d; inside : d ≤ w.count; from : m.sender ≤ w.count }
PacketShape w (Some (Number r s i m k)) = IsPast w r k
PacketShape w (Some (Acknowledgement s r m k)) = IsPast w r k

-- what every call keeps
pub record Sound (w : World) : Type 0 where
  pub grows : Grows w.handlers
  -- process 0 and the numbers above the count are always up
  pub outside : (q : ℕ) → (0 < q → w.count < q) → w.phase q ≡ Up
  -- each message that was received, or is worked on, was its sender's next
  pub received : (p k : ℕ) (x : Message) → slice_get (w.history p) k ≡ Some x → IsNext w.count p (take k (w.history p)) x
  pub working : (p : ℕ) → JobNext w.count p (w.history p) (w.phase p)
  -- a checkpoint covers only received messages, and a replay has more of them left
  pub saved : (p : ℕ) → w.saved p ≤ length (w.history p)
  pub replays : (p : ℕ) → Replays (w.saved p) (length (w.history p)) (w.phase p)
  -- each acknowledged message was received, and while a process recovers all its messages are acknowledged
  pub acknowledged : (p m : ℕ) → w.acknowledged p m ≡ true → m ≤ length (w.history p)
  pub recovering : (p : ℕ) → is_recovering (w.phase p) ≡ true → (m : ℕ) → 0 < m → m ≤ length (w.history p)
      → w.acknowledged p m ≡ true
  -- no log drops what its receiver's checkpoint doesn't have
  pub covered : (p : ℕ) → 0 < p → (s : ℕ) → w.trims s p ≤ count_of s (take (w.saved p) (w.history p))
  -- no log drops an output that the outside wasn't shown
  pub shown_covered : (s : ℕ) → w.trims s 0 ≤ count_of s w.shown
  -- a log has dropped at least what it had dropped at its checkpoint
  pub trims : (s d : ℕ) → w.saved_trims s d ≤ w.trims s d
  pub packets : (key : ℕ) → PacketShape w (w.wire key)
  -- each message that was shown was its sender's next
  pub shown : (k : ℕ) (x : Message) → slice_get w.shown k ≡ Some x → x.ssn ≡ suc (count_of x.sender (take k w.shown))
