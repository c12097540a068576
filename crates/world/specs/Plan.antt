-- The plan of a recovery: the logged messages with the numbers that follow the checkpoint, without a gap
use Rattle.std.specs.Prelude.{ℕ, suc, zero, List, [], ◌∷◌, ◌++◌, length, Option, Some, None, Bool, false, ◌&&◌, ◌==◌, if◌then◌else◌}
use Rattle.world.specs.declared.message.Message.{Message}
use Rattle.world.specs.History.{Payload, nth, count_of}
use Rattle.world.specs.World.{World}
use Rattle.world.specs.Logs.{sent, is_entry}

-- whether a log has a number for a message, and it is m
abbrev pub is_number : ℕ → Option ℕ → Bool
is_number m None = false
is_number m (Some k) = k == m

-- the message of s with this SSN and payload; None if s has sent no such message
abbrev pub message_of : ℕ → ℕ → Option Payload → Option Message
message_of s i None = None
message_of s i (Some x) = Some (record { sender = s; ssn = i; payload = x })

-- the message of s to p with this SSN, if the log of s has it under the number m
abbrev pub logged_as : World → ℕ → ℕ → ℕ → ℕ → Option Message
logged_as w p m s i = if is_entry w s p i && is_number m (w.numbers s p i) then message_of s i (nth (sent w s p) i) else None

-- the first if there is one, else the second
abbrev pub or_else : {X : Type 0} → Option X → Option X → Option X
or_else None b = b
or_else (Some x) b = Some x

-- the first of f 0, f 1, .. below k that is there
abbrev pub first_below : {X : Type 0} → (ℕ → Option X) → ℕ → Option X
first_below f zero = None
first_below f (suc k) = or_else (first_below f k) (f k)

-- the log entry for p with the number m. If two senders have one, the lesser sender's counts, then the lesser SSN
abbrev pub found : World → ℕ → ℕ → Option Message
found w p m = first_below (λ s. first_below (logged_as w p m s) (suc (length (sent w s p)))) (suc w.count)

-- a message, if it is its sender's next after this history
abbrev pub if_next : List Message → Option Message → Option Message
if_next h None = None
if_next h (Some m) = if m.ssn == suc (count_of m.sender h) then Some m else None

-- what the plan of p takes next after this history
abbrev pub chosen : World → ℕ → List Message → Option Message
chosen w p h = if_next h (found w p (suc (length h)))

-- the history with this message at its end, if there is one
abbrev pub pushed : List Message → Option Message → List Message
pushed h None = h
pushed h (Some m) = h ++ m ∷ []

-- the history with up to k more messages of the plan
abbrev pub gather : World → ℕ → List Message → ℕ → List Message
gather w p h zero = h
gather w p h (suc k) = pushed (gather w p h k) (chosen w p (gather w p h k))
