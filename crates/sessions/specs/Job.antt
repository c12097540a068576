-- A task with its handler's image, and the handler's answer
use Rattle.std.specs.Prelude.{◌≡◌, ◌≤◌, List, [], length, Option, Some, None}
use Rattle.decode.specs.declared.insn.Insn.{Insn}
use Rattle.verifier.specs.declared.file_form.FileForm.{FileForm}
use Rattle.interp.specs.Image.{TheImage}
use Rattle.interp.specs.Answer.{Handled, HasRun, answered}
use Rattle.replay.specs.Task.{TheTask, TheCompletion}
use Rattle.world.specs.declared.packet.Packet.{Packet}
use Rattle.world.specs.declared.answer.Answer.{Answer}
use Rattle.world.specs.History.{nth}
use Rattle.world.specs.World.{World}
use Rattle.machine.specs.Arrival.{IsFor, IsOpen, OfJob, answer_by}
use Rattle.machine.specs.declared.arrival.Arrival.{Arrival}

-- which image is called, and on what
pub record TheJob : Type 0 where
  pub task : TheTask
  pub image : TheImage

-- what a run of the job's image on its state and message leaves. None if it faults or doesn't exit
abbrev pub handled : TheJob → Option Handled
handled j = answered j.image j.task.who j.task.state j.task.message.payload

-- what the handler leaves, if it answers
abbrev pub given : Option Handled → Handled
given (Some h) = h
given None = record { state = []; effects = record { sends = []; outputs = [] }; r0 = 0; steps = 0 }

-- the handler's answer to a job; an empty one if the run faults or doesn't exit
abbrev pub answer_of : TheJob → Handled
answer_of j = given (handled j)

-- the handler's answer to this job: the one of a run from entry to exit, which makes at most as many steps as there are
-- instructions
pub record IsAnswer (j : TheJob) (h : Handled) : Type 0 where
  pub runs : HasRun j.image j.task.who j.task.state j.task.message.payload h
  pub answers : handled j ≡ Some h
  pub within : h.steps ≤ length j.image.code
  pub state_len : length h.state ≡ j.image.len

-- what its process commits
abbrev pub completed : TheJob → TheCompletion
completed j = record { task = j.task; state = (answer_of j).state; effects = (answer_of j).effects }

-- the image that was found has this code. None, for a number without a process, has none
abbrev pub HasCode : Option TheImage → List Insn → Type 0
HasCode None code = ⊥
HasCode (Some image) code = image.code ≡ code

-- the image that was found has this form, `SBI1`, `SBI2` or `SBI3`. None, for a number without a process, has none
abbrev pub HasForm : Option TheImage → FileForm → Type 0
HasForm None form = ⊥
HasForm (Some image) form = image.form ≡ form

-- the job is the open one of its process in this world, live or replayed, in all by which a result is compared
pub record IsOpenJob (images : List TheImage) (j : TheJob) (w : World) : Type 0 where
  pub task : IsOpen j.task w
  pub code : HasCode (nth images j.task.who.me) j.image.code
  pub form : HasForm (nth images j.task.who.me) j.image.form

-- an arrival as the journal's answer. Of the job that it started, that is the serial number only
abbrev pub arrival_of : Arrival TheJob → Answer
arrival_of = answer_by (λ job. job.task.serial)

-- the job that an arrival hands out is of the process for which the packet is a message
abbrev pub IsJobAt : Option Packet → Arrival TheJob → Type 0
IsJobAt found = OfJob (λ job. IsFor found job.task.who.me)
