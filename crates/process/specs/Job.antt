-- Handler calls that are made outside of the process
use Rattle.std.specs.Prelude.{◌≡◌, ◌≢◌, ℕ, List, length, slice_range, Some}
use Rattle.helpers.specs.declared.effects.Who.{Who}
use Rattle.helpers.specs.Effects.{Emitted}
use Rattle.limits.specs.declared.TheConstants.{MEMORY_BYTES}
use Rattle.dense.specs.declared.array.TheConstants.{ARRAY_BYTES}
use Rattle.verifier.specs.declared.any_image.AnyImage.{AnyImage}
use Rattle.verifier.specs.declared.any_image.AnyImage.TheVariants.{Flat, Span}
use Rattle.verifier.specs.FileForm.{file_form_of}
use Rattle.verifier.specs.AnyImage.{form_of, code_of, state_of as image_state}
use Rattle.interp.specs.HandlerCall.{Handled}
use Rattle.interp.specs.Configuration.{entry}
use Rattle.interp.specs.Flat.{Holds}
use Rattle.interp.specs.CallArray.{HoldsEntry, state_in}
use Rattle.interp.specs.Answer.{MayRunAs, shown, answer_by}
use Rattle.node.specs.declared.job.OpenJob.{OpenJob}
use Rattle.node.specs.declared.job.Given.{Given}
use Rattle.recovery.specs.declared.lifecycle.Lifecycle.{Lifecycle}
use Rattle.process.specs.declared.call.HandlerTicket.{HandlerTicket}
use Rattle.process.specs.declared.fault.Undone.{Undone}
use Rattle.process.specs.declared.fault.Undone.TheVariants as why
use Rattle.process.specs.Process.{TheProcess, state_of}
use Rattle.recovery.specs.Transitions.{Passes}
use Rattle.process.specs.Calls.{standing_at}
use Rattle.process.specs.Work.{job_at, given_of, answer_to, TakesIn, Rests, Works}

-- which job it is; the image whose handler is called, the identity that it is called with, and the message and state
pub record TheJob : Type 0 where
  pub ticket : HandlerTicket
  pub image : AnyImage
  pub who : Who
  pub payload : List ℕ
  pub state : List ℕ

-- a job that was made, and what the handler answered
pub record TheDone : Type 0 where
  pub job : TheJob
  pub answer : Handled

-- the handler's answer to a job, by the rules of its form
abbrev pub IsAnswerTo : TheJob → Handled → Type 0
IsAnswerTo j h = answer_by j.image j.who j.state j.payload ≡ Some h

-- the ticket of the next job
abbrev pub ticket_at : Lifecycle → HandlerTicket
ticket_at c = record { incarnation = (standing_at c).incarnation; received = (standing_at c).length }

-- the handler can be called with this identity on this state: the state has the image's length
pub record IsCallable (image : AnyImage) (who : Who) (state : List ℕ) : Type 0 where
  pub long : length state ≡ image_state image
  pub may : MayRunAs image who

-- this message is next, and the handler can be called on it
pub record IsNext (p : TheProcess) (message : OpenJob) (who : Who) : Type 0 where
  pub next : job_at p.lifecycle ≡ Some (message, who)
  pub callable : IsCallable p.image who (state_of p.lifecycle)

-- the job has this ticket, this identity, this message and this state
pub record IsSame (j : TheJob) (ticket : HandlerTicket) (who : Who) (payload state : List ℕ) : Type 0 where
  pub ticket_is : j.ticket ≡ ticket
  pub who_is : j.who ≡ who
  pub payload_is : j.payload ≡ payload
  pub state_is : j.state ≡ state

-- two images have the same form and the same instructions
pub record HasSameCode (one other : AnyImage) : Type 0 where
  pub form : form_of one ≡ form_of other
  pub code : code_of one ≡ code_of other

-- the job is the call of the process's handler on this message
abbrev pub IsCallOf : TheProcess → OpenJob → Who → TheJob → Type 0
IsCallOf p message who j = IsSame j (ticket_at p.lifecycle) who message.payload (state_of p.lifecycle) × HasSameCode p.image j.image

-- it is the job of the next message
pub record IsJobOf (p : TheProcess) (j : TheJob) : Type 0 where
  pub message : OpenJob
  pub is_next : IsNext p message j.who
  pub is_call : IsCallOf p message j.who j
  pub same_len : image_state p.image ≡ image_state j.image

-- ---- the array of a call

-- its size in bytes
abbrev pub array_size : AnyImage → ℕ
array_size (Flat image) = MEMORY_BYTES
array_size (Span image) = ARRAY_BYTES

-- what the handler sees of a message
abbrev pub shown_by : AnyImage → List ℕ → List ℕ
shown_by image payload = shown (form_of image) payload

-- in form 3 it holds the message at 0, the state at 512, and after that the stack of zeros
pub record IsSpanLaid (len : ℕ) (state payload array : List ℕ) : Type 0 where
  pub entry_is : HoldsEntry len (slice_range array 0 (length payload)) (state_in len array) array
  pub message_is : slice_range array 0 (length payload) ≡ payload
  pub state_is : state_in len array ≡ state

-- the same of any form: in forms 1 and 2 the state is at 256
abbrev pub IsLaid : AnyImage → List ℕ → List ℕ → List ℕ → Type 0
IsLaid (Flat image) state payload array =
    Holds (length (shown_by (Flat image) payload)) image.len (entry (file_form_of image.form) state (shown_by (Flat image) payload)) array
IsLaid (Span image) state payload array = IsSpanLaid image.len state payload array

-- ---- answers

-- this state and these messages and outputs are taken as the handler's, and the process goes on; the image stays
pub record TakesBack (state : List ℕ) (given : List Given) (old new : TheProcess) : Type 0 where
  pub mid : Lifecycle
  pub image : new.image ≡ old.image
  pub takes : TakesIn state given old.lifecycle mid
  pub passes : Passes mid new.lifecycle

-- they are taken as the answer to the next message, of this ticket, whatever the handler would have answered
pub record IsAnswered (ticket : HandlerTicket) (state : List ℕ) (e : Emitted) (old new : TheProcess) : Type 0 where
  pub message : OpenJob
  pub who : Who
  pub next : job_at old.lifecycle ≡ Some (message, who)
  pub ticket_is : ticket_at old.lifecycle ≡ ticket
  pub taken : TakesBack state (given_of who e) old new

-- if the handler answers the same, the process has worked
abbrev pub WorksAs : List ℕ → Emitted → TheProcess → TheProcess → Type 0
WorksAs state e old new =
    (message : OpenJob) (who : Who) (h : Handled) → job_at old.lifecycle ≡ Some (message, who)
    → answer_to old.image who (state_of old.lifecycle) message ≡ Some h
    → h.state ≡ state → h.effects ≡ e → Works old new

-- ---- refusals

-- some message is next
abbrev pub HasNext : TheProcess → Type 0
HasNext p = (message : OpenJob) × (who : Who) × IsNext p message who

-- why an answer isn't taken: there is nothing to run on, or it isn't of the next job
abbrev pub IsUndone : TheProcess → TheJob → Undone → Type 0
IsUndone p j why.Memory = HasNext p
IsUndone p j why.Absent = Rests p
IsUndone p j why.Other = HasNext p × ¬ IsJobOf p j
IsUndone p j why.State = ⊥

-- the same of an answer of which only the ticket and the state are known
abbrev pub IsUnanswered : TheProcess → HandlerTicket → List ℕ → Undone → Type 0
IsUnanswered p ticket state why.Memory = HasNext p × (ticket_at p.lifecycle ≡ ticket) × (length state ≡ image_state p.image)
IsUnanswered p ticket state why.Absent = Rests p
IsUnanswered p ticket state why.Other = HasNext p × (ticket_at p.lifecycle ≢ ticket)
IsUnanswered p ticket state why.State = HasNext p × (ticket_at p.lifecycle ≡ ticket) × (length state ≢ image_state p.image)
