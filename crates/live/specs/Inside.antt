-- What the functions of this crate say to one another of workers.
use Rattle.std.specs.Prelude.{◌≡◌, ◌≢◌, ◌+◌, ◌++◌, ℕ, List, [], ◌∷◌, length, Option, Some, None}
use Rattle.world.specs.declared.message.Feed.{Feed}
use Rattle.world.specs.declared.refusal.Refusal.TheVariants.{Memory}
use Rattle.sessions.specs.Seats.{TheSeat}
use Rattle.sessions.specs.declared.share.Share.{Share}
use Rattle.sessions.specs.declared.share.End.TheVariants.{Refused}
use Rattle.scenario.specs.declared.order.Order.{Order}
use Rattle.scenario.specs.declared.order.Order.TheVariants.{Input, Bytes}
use Rattle.scenario.specs.declared.scenario.Step.{Step}
use Rattle.live.specs.declared.ended.Ended.{Ended}
use Rattle.results.specs.Word.{message_word}

-- memory didn't run out for a worker
abbrev pub HasMemory : {L : Type 0} → Share L → Type 0
HasMemory share = share.end ≢ Refused Memory

-- how the worker of a share ended
abbrev pub ended_of : {L : Type 0} → Share L → Ended
ended_of share = record { worker = share.seat.worker; answered = share.seat.answered; end = share.end }

-- these seats weren't answered yet, and the first has this worker and each other one the next
abbrev pub AreFresh : ℕ → List TheSeat → Type 0
AreFresh worker [] = Unit {0}
AreFresh worker (s ∷ ss) = (s ≡ record { worker = worker; answered = 0 }) × AreFresh (worker + 1) ss

-- the message that an order hands in, with this number
abbrev pub feed_of : ℕ → Order → Option Feed
feed_of number (Input to word) = Some (record { number = number; dst = to; payload = message_word word })
feed_of number (Bytes to payload) = Some (record { number = number; dst = to; payload = payload })
feed_of number order = None

-- the message of a line behind those of the lines before it
abbrev pub with_feed : List Feed → Option Feed → List Feed
with_feed feeds None = feeds
with_feed feeds (Some feed) = feeds ++ feed ∷ []

-- the messages of these steps behind those of the steps before them, each with the next number
abbrev pub feeds_after : List Feed → List Step → List Feed
feeds_after feeds [] = feeds
feeds_after feeds (x ∷ xs) = feeds_after (with_feed feeds (feed_of (length feeds + 1) x.order)) xs

-- the messages of all steps, numbered from 1
abbrev pub feeds_of : List Step → List Feed
feeds_of steps = feeds_after [] steps
