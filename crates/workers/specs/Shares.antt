-- What a worker guarantees
use Rattle.std.specs.Prelude.{◌≡◌, ℕ, ◌+◌, ◌≤◌, List, [], ◌∷◌}
use Rattle.sessions.specs.declared.share.Share.{Share}
use Rattle.sessions.specs.declared.share.End.TheVariants.{Budget}
use Rattle.sessions.specs.Seats.{TheSeat}

-- a seat of the same worker, with at least as many accepted calls
pub record GoesOn (before after : TheSeat) : Type 0 where
  pub worker : after.worker ≡ before.worker
  pub answered : before.answered ≤ after.answered

-- a worker's share: its seat, gone on. Its end is the budget's only if that many of its calls were accepted. A turn that has begun
-- is completed, so there may be two more calls; none is begun with a budget of none
pub record IsServed {L : Type 0} (budget : ℕ) (seat : TheSeat) (share : Share L) : Type 0 where
  pub seat_is : GoesOn seat share.seat
  pub spent : share.end ≡ Budget → seat.answered + budget ≤ share.seat.answered
  pub most : share.seat.answered ≤ seat.answered + budget + 2
  pub none : budget ≡ 0 → share.seat.answered ≡ seat.answered

-- a share for each of these seats, in their order
abbrev pub AreServed : {L : Type 0} → ℕ → List TheSeat → List (Share L) → Type 0
AreServed budget [] [] = Unit {0}
AreServed budget (s ∷ ss) (h ∷ hs) = IsServed budget s h × AreServed budget ss hs
AreServed budget seats shares = ⊥
