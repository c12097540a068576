-- What workers leave of a scenario, and how they ended.
use Rattle.std.specs.Prelude.{◌≡◌, ◌≢◌, ◌≤◌, ◌+◌, true, ℕ, List, [], ◌∷◌, ◌++◌, length, sum_by}
use Rattle.interp.specs.Image.{TheImage}
use Rattle.world.specs.declared.entry.Entry.{Entry}
use Rattle.world.specs.declared.refusal.Refusal.TheVariants.{Memory}
use Rattle.sessions.specs.Fold.{handlers_of}
use Rattle.world.specs.Legal.{Legal, world_of}
use Rattle.sessions.specs.declared.share.End.TheVariants.{Budget, Refused}
use Rattle.workers.specs.Continues.{are_allowed}
use Rattle.live.specs.declared.ended.Ended.{Ended}
use Rattle.results.specs.Results.{results_text}

-- so ends the worker of this number that was given this budget: by the budget only where as many of its calls were accepted, with at
-- most two more, and with none where the budget is none; and memory didn't run out for it
pub record EndsWithin (budget worker : ℕ) (ended : Ended) : Type 0 where
  pub number : ended.worker ≡ worker
  pub spent : ended.end ≡ Budget → budget ≤ ended.answered
  pub most : ended.answered ≤ budget + 2
  pub none : budget ≡ 0 → ended.answered ≡ 0
  pub memory : ended.end ≢ Refused Memory

-- so end workers that were given this budget each, of which the first has this number and each other one the next
abbrev pub EndFrom : ℕ → ℕ → List Ended → Type 0
EndFrom budget worker [] = Unit {0}
EndFrom budget worker (e ∷ es) = EndsWithin budget worker e × EndFrom budget (worker + 1) es

-- how many calls of all of them were accepted
abbrev pub answers_of : List Ended → ℕ
answers_of ended = sum_by (λ e. e.answered) ended

-- so many workers, numbered from 1, were given this budget each and ended so. The text has the trace and the report of a legal journal of
-- these images more, which has as many entries as their calls that were accepted, and each is a call that a worker may make
pub record IsLive (names : List (List ℕ))
    (images : List TheImage) (workers budget : ℕ) (ended : List Ended) (before after : List ℕ) : Type 0 where
  pub all : length ended ≡ workers
  pub each : EndFrom budget 1 ended
  pub entries : List Entry
  pub legal : Legal (length images) (handlers_of images) entries
  pub allowed : are_allowed (world_of (length images) (handlers_of images) []) entries ≡ true
  pub as_many : length entries ≡ answers_of ended
  pub text : after ≡ before ++ results_text names images entries
