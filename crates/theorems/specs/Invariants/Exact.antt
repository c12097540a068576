-- What every call keeps as long as failures come one at a time
use Rattle.std.specs.Prelude.{◌≡◌, ℕ, ◌<◌, List, Option, Some, None, Bool, true, false, not, slice_get}
use Rattle.world.specs.declared.message.Message.{Message}
use Rattle.world.specs.declared.packet.Packet.{Packet}
use Rattle.world.specs.declared.packet.Packet.TheVariants.{Delivery, Number, Acknowledgement}
use Rattle.world.specs.History.{nth}
use Rattle.world.specs.Phases.{Phase, Up, Busy, Down, Replaying, Resync, has}
use Rattle.world.specs.World.{World}
use Rattle.theorems.specs.Invariants.Secured.{Safe, Covers}

-- the message that a process works on is safe
abbrev pub JobSafe : World → ℕ → Phase → Type 0
JobSafe w p (Busy m) = Safe w p m
JobSafe w p phase = Unit {0}

-- whether a process that replays came back alone
abbrev pub is_alone : Phase → Bool
is_alone (Replaying j working alone) = alone
is_alone phase = false

-- whether a process in this phase has all numbers that p told it
abbrev pub is_restored : Phase → ℕ → Bool
is_restored Up p = true
is_restored (Busy m) p = true
is_restored Down p = false
is_restored (Replaying j working alone) p = false
is_restored (Resync todo) p = not (has todo p)

-- the message with this number is of s and has this SSN
abbrev pub Names : List Message → ℕ → ℕ → ℕ → Type 0
Names h m s i =
    record {
      message : Message;
      at : nth h m ≡ Some message;
      sender : message.sender ≡ s;
      ssn : message.ssn ≡ i;
    }

-- if the number m of p is after its checkpoint, the sender of its message has recorded it
abbrev pub IsRecorded : World → ℕ → ℕ → Type 0
IsRecorded w p m = w.saved p < m → (x : Message) → nth (w.history p) m ≡ Some x → is_restored (w.phase x.sender) p ≡ true
    → w.numbers x.sender p x.ssn ≡ Some m

-- a message is safe. A number of the receiver's present incarnation names a message of its history. So does an acknowledgement, and
-- its number is recorded
abbrev pub PacketTrue : World → Option Packet → Type 0
PacketTrue w None = Unit {0}
PacketTrue w (Some (Delivery d m)) = Safe w d m
PacketTrue w (Some (Number r s i m k)) = k ≡ w.incarnation r → Names (w.history r) m s i
PacketTrue w (Some (Acknowledgement s r m k)) = k ≡ w.incarnation r →
    record {
      message : Message;
      at : nth (w.history r) m ≡ Some message;
      sender : message.sender ≡ s;
      recorded : IsRecorded w r m;
    }

-- what every call keeps as long as failures come one at a time
pub record Exact (w : World) : Type 0 where
  pub alone : (p : ℕ) → is_alone (w.phase p) ≡ false
  -- each recorded number names the message that has it
  pub recorded : (s p i m : ℕ) → w.numbers s p i ≡ Some m → Names (w.history p) m s i
  -- each acknowledged number is recorded
  pub acknowledged : (p m : ℕ) → w.acknowledged p m ≡ true → IsRecorded w p m
  pub packets : (key : ℕ) → PacketTrue w (w.wire key)
  -- each message that is worked on, received or shown is safe, and only safe messages are released
  pub working : (p : ℕ) → JobSafe w p (w.phase p)
  pub received : (p k : ℕ) (x : Message) → slice_get (w.history p) k ≡ Some x → Safe w p x
  pub shown : (k : ℕ) (x : Message) → slice_get w.shown k ≡ Some x → Safe w 0 x
  pub released : (p d : ℕ) → Covers w p d (w.released p d)
