-- The first test that the arguments of a call fail.
use Rattle.std.proofs.Common.{ℕ, List, [], ◌∷◌, refl, inl, inr, Result, Ok, Err, IfErr}
use Rattle.helpers.specs.declared.effects.Who.{Who}
use Rattle.c_runs.specs.declared.refusal.ImageRefusal.{ImageRefusal}
use Rattle.c_runs.specs.declared.refusal.ImageRefusal.TheVariants.{Message, Who as NotSeat, Room}
use Rattle.c_runs.specs.Calls.{IsSeat}
use Rattle.c_runs.specs.Exports.{Test, OfSeat, OfMessages, OfRoom, OfFile, OfForm, OfState, order, Passes, Fails, FailsFirst, IsUncallable}

-- the arguments fail the next test
stops : (file state : List ℕ) (who : Who) (whole room : Type 0) (t : Test) (ts : List Test) (why : ImageRefusal) → Fails file state who whole room t why → FailsFirst file state who whole room (t ∷ ts) why
unfolding FailsFirst
stops file state who whole room t ts why f = inl f

-- the arguments pass it, and fail one behind it
passes : (file state : List ℕ) (who : Who) (whole room : Type 0) (t : Test) (ts : List Test) (why : ImageRefusal) → Passes file state who whole room t → FailsFirst file state who whole room ts why → FailsFirst file state who whole room (t ∷ ts) why
unfolding FailsFirst
passes file state who whole room t ts why p f = inr (p, f)

-- what is no seat is refused before all else
pub no_seat : (file state : List ℕ) (who : Who) (whole room : Type 0) → (¬ IsSeat who) → FailsFirst file state who whole room order NotSeat
no_seat file state who whole room n = stops file state who whole room OfSeat _ NotSeat (refl, n)

-- then bytes that are no whole messages
pub no_messages : (file state : List ℕ) (who : Who) (whole room : Type 0) → IsSeat who → (¬ whole) → FailsFirst file state who whole room order Message
no_messages file state who whole room s n =
    passes file state who whole room OfSeat _ Message s (stops file state who whole room OfMessages _ Message (refl, n))

-- then too little room for the reports
pub no_room : (file state : List ℕ) (who : Who) (whole room : Type 0) → IsSeat who → whole → (¬ room) → FailsFirst file state who whole room order Room
no_room file state who whole room s w n =
    passes file state who whole room OfSeat _ Room s (passes file state who whole room OfMessages _ Room w (stops file state who whole room OfRoom _ Room (refl, n)))

from_file : (file state : List ℕ) (who : Who) (whole room : Type 0) (why : ImageRefusal) → IsUncallable file state why → FailsFirst file state who whole room (OfFile ∷ OfForm ∷ OfState ∷ []) why
from_file file state who whole room why (inl f) = stops file state who whole room OfFile _ why f
from_file file state who whole room why (inr (t, inl f)) =
    passes file state who whole room OfFile _ why t (stops file state who whole room OfForm _ why f)
from_file file state who whole room why (inr (t, inr p)) =
    passes file state who whole room OfFile _ why t (passes file state who whole room OfForm _ why p.0 (stops file state who whole room OfState _ why p.1))

-- then a file, a form or a state with which nothing is opened
pub no_image : (file state : List ℕ) (who : Who) (whole room : Type 0) (why : ImageRefusal) → IsSeat who → whole → room → IsUncallable file state why → FailsFirst file state who whole room order why
no_image file state who whole room why s w r f =
    passes file state who whole room OfSeat _ why s (passes file state who whole room OfMessages _ why w (passes file state who whole room OfRoom _ why r (from_file file state who whole room why f)))

-- the same of a result
pub no_result : {T : Type 0} (file state : List ℕ) (who : Who) (whole room : Type 0) (r : Result T ImageRefusal) → IsSeat who → whole → room → IfErr r (λ why. IsUncallable file state why) → IfErr r (FailsFirst file state who whole room order)
no_result file state who whole room (Ok t) s w x f = tt
no_result file state who whole room (Err why) s w x f = no_image file state who whole room why s w x f
