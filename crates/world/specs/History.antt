-- Histories: what a process received, a list of messages, the first received first
use Rattle.std.specs.Prelude.{ℕ, suc, zero, ◌+◌, List, [], ◌∷◌, Option, Some, None, ◌&&◌, ◌==◌, if◌then◌else◌, slice_get}
use Rattle.world.specs.declared.message.Message.{Message}

-- the bytes of a message, 0 to 256
abbrev pub Payload : Type 0
Payload = List ℕ

-- the element with this number, from 1
abbrev pub nth : {X : Type 0} → List X → ℕ → Option X
nth xs zero = None
nth xs (suc k) = slice_get xs k

-- how many messages of a list are of this sender
abbrev pub count_of : ℕ → List Message → ℕ
count_of s [] = 0
count_of s (m ∷ ms) = (if m.sender == s then 1 else 0) + count_of s ms

-- k plus the place, from 1, of the first message with this sender and SSN
abbrev pub rsn_from : ℕ → ℕ → ℕ → List Message → Option ℕ
rsn_from k s i [] = None
rsn_from k s i (m ∷ ms) = if (m.sender == s) && (m.ssn == i) then Some (suc k) else rsn_from (suc k) s i ms

-- the RSN of the message with this sender and SSN
abbrev pub rsn_of : List Message → ℕ → ℕ → Option ℕ
rsn_of h s i = rsn_from 0 s i h
