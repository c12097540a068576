-- What workers hand back at their end
use Rattle.std.specs.Prelude.{ℕ, List, sum_by}
use Rattle.sessions.specs.declared.share.Share.{Share}

-- how many calls of the shares' seats were accepted
abbrev pub answers_of : {L : Type 0} → List (Share L) → ℕ
answers_of shares = sum_by (λ s. s.seat.answered) shares
