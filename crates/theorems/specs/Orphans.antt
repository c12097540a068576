-- Orphans: messages and outputs that no history sends any more
use Rattle.std.specs.Prelude.{◌≡◌, ℕ, List, [], ◌∷◌, length, Some, true, false, slice_get, take, if◌then◌else◌, ◌==◌}
use Rattle.world.specs.declared.message.Message.{Message}
use Rattle.world.specs.History.{Payload, nth}
use Rattle.world.specs.Phases.{is_down}
use Rattle.world.specs.World.{World}
use Rattle.world.specs.Logs.{payloads}
use Rattle.theorems.specs.Growth.{Begins}
use Rattle.theorems.specs.Kept.{IsKept}

-- the first k messages of p are its surviving history: all of them, or while it is down those that are kept
abbrev pub IsSurviving : World → ℕ → ℕ → Type 0
IsSurviving w p k =
    record {
      down : is_down (w.phase p) ≡ true → IsKept w p k;
      live : is_down (w.phase p) ≡ false → k ≡ length (w.history p);
    }

-- the surviving history of its sender sends this message to d, in its place
abbrev pub IsSent : World → ℕ → Message → Type 0
IsSent w d m = (k : ℕ) → IsSurviving w m.sender k → nth (payloads w m.sender (take k (w.history m.sender)) d) m.ssn ≡ Some m.payload

-- no orphan: the surviving history of its sender sends each message that was received or shown
abbrev pub NoOrphan : World → Type 0
NoOrphan w =
    record {
      received : (p i : ℕ) (m : Message) → slice_get (w.history p) i ≡ Some m → IsSent w p m;
      shown : (i : ℕ) (m : Message) → slice_get w.shown i ≡ Some m → IsSent w 0 m;
    }

-- the payloads of the messages in this list that are of s, in order
abbrev pub payloads_of : ℕ → List Message → List Payload
payloads_of s [] = []
payloads_of s (m ∷ ms) = if m.sender == s then m.payload ∷ payloads_of s ms else payloads_of s ms

-- received once: what a process received of s is, in order, a beginning of what the surviving history of s sends to it
abbrev pub ReceivedBegin : World → Type 0
ReceivedBegin w = (s d k : ℕ) → IsSurviving w s k → Begins (payloads_of s (w.history d)) (payloads w s (take k (w.history s)) d)

-- output once: what was shown of each process is, in order, a beginning of the outputs of its surviving history
abbrev pub ShownBegin : World → Type 0
ShownBegin w = (s k : ℕ) → IsSurviving w s k → Begins (payloads_of s w.shown) (payloads w s (take k (w.history s)) 0)
