-- What it is to carry out an order of a scenario (docs/FORMATS.md, "Carrying out").
use Rattle.std.specs.Prelude.{◌≡◌, ◌≤◌, ◌+◌, ◌-◌, ◌^◌, ◌⊎◌, ℕ, List, [], ◌∷◌, ◌++◌, length, replicate, Option, Some, None, slice_index_or}
use Rattle.std.specs.Prelude.{slice_set}
use Rattle.limits.specs.declared.TheConstants.{ENTRIES, PARTIES}
use Rattle.interp.specs.Image.{TheImage}
use Rattle.sessions.specs.Job.{TheJob, IsOpenJob}
use Rattle.world.specs.declared.call.Call.{Call}
use Rattle.world.specs.declared.call.Call.TheVariants as call
use Rattle.world.specs.declared.answer.Answer.{Answer}
use Rattle.world.specs.declared.entry.Entry.{Entry}
use Rattle.world.specs.declared.refusal.Refusal.TheVariants.{StaleJob}
use Rattle.sessions.specs.Fold.{handlers_of}
use Rattle.world.specs.History.{Payload}
use Rattle.world.specs.Legal.{WStep, world_of}
use Rattle.world.specs.Refusals.{number_of, refusal_of}
use Rattle.world.specs.World.{World}
use Rattle.machine.specs.Choice.{IsPick}
use Rattle.machine.specs.Dispatch.{job_of}
use Rattle.sessions.specs.Journal.{entry}
use Rattle.sessions.specs.Driver.{Drives}
use Rattle.scenario.specs.declared.order.Order.{Order}
use Rattle.scenario.specs.declared.order.Order.TheVariants as order
use Rattle.results.specs.Word.{message_word}

-- where a run stands: the images of the processes 1, 2, .., the accepted calls, by process the job that is held, and how many
-- messages the outside handed in
pub record Position : Type 0 where
  pub images : List TheImage
  pub entries : List Entry
  pub held : List (Option TheJob)
  pub inputs : ℕ

-- nothing was done so far
abbrev pub beginning : List TheImage → Position
beginning images = record { images = images; entries = []; held = replicate PARTIES None; inputs = 0 }

-- the world where the journal leads
abbrev pub world_at : Position → World
world_at old = world_of (length old.images) (handlers_of old.images) old.entries

-- how many entries the journal still takes
abbrev pub room_at : Position → ℕ
room_at old = ENTRIES - length old.entries

-- ---- calls

-- with one entry more, which is nobody's
abbrev pub with_entry : Position → Call → Answer → Position
with_entry old c a = record old { entries = old.entries ++ entry 0 c a ∷ [] }

-- the call is accepted with this answer
abbrev pub AcceptsCall : Position → Call → Answer → Type 0
AcceptsCall old c a = WStep (room_at old) (world_at old) c a (world_at (with_entry old c a))

-- the job that was started for a process is held, in place of one that was held for it
abbrev pub HoldsJob : Position → Option ℕ → Position → Type 0
HoldsJob old None new = new ≡ old
HoldsJob old (Some p) new =
    (job : TheJob) × (job.task.who.me ≡ p) × IsOpenJob old.images job (world_at old)
    × (new ≡ record old { held = slice_set old.held p (Some job) })

-- a call is made: it is accepted, and the job that it starts is held; or it is refused with the least number whose cause holds, and
-- changes nothing
abbrev pub MakesCall : Position → Call → Position → Option ℕ → Type 0
MakesCall old c new None = (a : Answer) × AcceptsCall old c a × HoldsJob (with_entry old c a) (job_of (world_at old) c a) new
MakesCall old c new (Some n) = (new ≡ old) × (refusal_of (world_at old) (room_at old) c ≡ Some n)

-- the outside hands in a message. It has the next feed number, which a refused one has used too
abbrev pub HandsIn : Position → ℕ → Payload → Position → Option ℕ → Type 0
HandsIn old to payload new refused = MakesCall (record old { inputs = old.inputs + 1 }) (call.Input to (old.inputs + 1) payload) new refused

-- ---- jobs

-- the job that is held for a process
abbrev pub held_for : Position → ℕ → Option TheJob
held_for old p = slice_index_or old.held p None

-- none is held for it
abbrev pub without_job : Position → ℕ → Position
without_job old p = record old { held = slice_set old.held p None }

-- a job that was held is run and its result brought back. Where there was none, that is refused whatever else holds, and otherwise
-- where it isn't the open job any more
abbrev pub BringsBack : Position → Option TheJob → Position → Option ℕ → Type 0
BringsBack old None new refused = (new ≡ old) × (refused ≡ Some (number_of StaleJob))
BringsBack old (Some job) new None =
    IsOpenJob old.images job (world_at old)
    × ((a : Answer) × AcceptsCall old (call.Finish job.task.who.me) a × (new ≡ with_entry old (call.Finish job.task.who.me) a))
BringsBack old (Some job) new (Some n) = (new ≡ old) × (n ≡ number_of StaleJob) × ¬ IsOpenJob old.images job (world_at old)

-- useful calls are made, and the jobs that they start are finished at once, until so many were accepted or no call can be picked
pub record IsDriven (budget : ℕ) (old new : Position) : Type 0 where
  pub added : List Entry
  pub new_is : new ≡ record old { entries = old.entries ++ added }
  pub run : Drives 0 budget (room_at old) None (world_at old) added None
  pub ended : (budget ≤ length added) ⊎ ((c : Call) → ¬ IsPick (world_at new) (room_at new) c)

-- ---- orders

-- an order leads from one position to another, and is refused with this number, if it is
abbrev pub CarriesOut : Position → Order → Position → Option ℕ → Type 0
CarriesOut old (order.Input to word) new refused = HandsIn old to (message_word word) new refused
CarriesOut old (order.Bytes to payload) new refused = HandsIn old to payload new refused
CarriesOut old (order.Transmit from to ssn) new refused = MakesCall old (call.Transmit from to ssn) new refused
CarriesOut old (order.Copy key) new refused = MakesCall old (call.Copy key) new refused
CarriesOut old (order.Lose key) new refused = MakesCall old (call.Lose key) new refused
CarriesOut old (order.Arrive key) new refused = MakesCall old (call.Arrive key) new refused
CarriesOut old (order.Finish p) new refused = BringsBack (without_job old p) (held_for old p) new refused
CarriesOut old (order.Checkpoint p) new refused = MakesCall old (call.Checkpoint p) new refused
CarriesOut old (order.Trim to) new refused = MakesCall old (call.Trim to) new refused
CarriesOut old (order.Crash p) new refused = MakesCall old (call.Crash p) new refused
CarriesOut old (order.Recover p) new refused = MakesCall old (call.Recover p) new refused
CarriesOut old (order.RecoverAlone p) new refused = MakesCall old (call.RecoverAlone p) new refused
CarriesOut old (order.ReplayBegin p) new refused = MakesCall old (call.ReplayBegin p) new refused
CarriesOut old (order.Resync p peer) new refused = MakesCall old (call.Resync p peer) new refused
CarriesOut old (order.Drive budget) new refused = IsDriven budget old new × (refused ≡ None)

-- an order hands in a message, and all feed numbers below 2^32 are used
abbrev pub HasNoFeed : Position → Order → Type 0
HasNoFeed here (order.Input to word) = 2 ^ 32 ≤ here.inputs + 1
HasNoFeed here (order.Bytes to payload) = 2 ^ 32 ≤ here.inputs + 1
HasNoFeed here order = ⊥

-- an order finds no memory: no number refuses it here, or it finds no feed number
abbrev pub FindsNoMemory : Position → Order → Type 0
FindsNoMemory here order = ((n : ℕ) (next : Position) → ¬ CarriesOut here order next (Some n)) ⊎ HasNoFeed here order
