-- Sessions of one caller, who has no seat
use Rattle.std.specs.Prelude.{◌≡◌, ℕ, List, [], length, Result, Ok, Err}
use Rattle.interp.specs.Image.{TheImage}
use Rattle.world.specs.declared.call.Call.{Call}
use Rattle.world.specs.declared.call.Call.TheVariants.{Recover}
use Rattle.world.specs.declared.answer.Answer.{Answer}
use Rattle.world.specs.declared.answer.Answer.TheVariants.{Kept}
use Rattle.world.specs.declared.refusal.Refusal.{Refusal}
use Rattle.world.specs.declared.refusal.Refusal.TheVariants.{NoSuchProcess, Memory}
use Rattle.machine.specs.Openings.{AreFew}
use Rattle.theorems.specs.Orphans.{NoOrphan, ShownBegin}
use Rattle.sessions.specs.Seats.{TheSeat}
use Rattle.sessions.specs.Journal.{TheSession, Adds, IsExact, IsLegal, ReturnsTo, world_at}

-- a seat for a call of this worker, with as many accepted calls as the journal has entries
abbrev pub seat_of : ℕ → TheSession → TheSeat
seat_of worker s = record { worker = worker; answered = length s.entries }

-- the seat of the one caller, who is nobody
abbrev pub own_seat : TheSession → TheSeat
own_seat s = seat_of 0 s

-- what a call as this worker guarantees: the same as a session's call by that seat
abbrev pub OwesAs : ℕ → TheSession → TheSession → Call → Result Answer Refusal → Type 0
OwesAs worker old new call r = Adds old new (seat_of worker old) (seat_of worker new) call r

-- what a call of the one caller guarantees
abbrev pub Owes : TheSession → TheSession → Call → Result Answer Refusal → Type 0
Owes old new call r = OwesAs 0 old new call r

-- what the callers of a session share: the session without its seats
abbrev pub alone : TheSession → TheSession
alone s = record s { seats = [] }

-- a process that came back kept what it had to
abbrev pub Returns : TheSession → TheSession → Call → Answer → Type 0
Returns old new call answer = (p k : ℕ) → call ≡ Recover p → answer ≡ Kept k → ReturnsTo old new p k

-- a session of these images with an empty journal and no seats; or there are no images or too many; or memory ran out
abbrev pub OpensAlone : List TheImage → Result TheSession Refusal → Type 0
OpensAlone images (Ok s) = AreFew images × (s ≡ record { images = images; entries = []; seats = [] })
OpensAlone images (Err NoSuchProcess) = ¬ AreFew images
OpensAlone images (Err Memory) = AreFew images
OpensAlone images (Err r) = ⊥

-- what is promised of a session: its journal is legal. If failures came one at a time, its sender's history sends each message that
-- was received or shown, and what was shown is, in order and each once, a beginning of the outputs
pub record KeepsPromises (s : TheSession) : Type 0 where
  pub legal : IsLegal s
  pub no_orphan : IsExact s → NoOrphan (world_at s)
  pub output_once : IsExact s → ShownBegin (world_at s)
