-- Handler calls that are made outside of a node, and what they leave
use Rattle.std.specs.Prelude.{◌≡◌, ◌≢◌, ◌+◌, ◌≤◌, ◌<◌, ℕ, List, Option, length, slice_range}
use Rattle.helpers.specs.declared.effects.Who.{Who}
use Rattle.helpers.specs.Effects.{Emitted}
use Rattle.verifier.specs.declared.any_image.AnyImage.{AnyImage}
use Rattle.verifier.specs.declared.any_image.AnyImage.TheVariants as any
use Rattle.verifier.specs.AnyImage.{state_of as image_state}
use Rattle.node.specs.declared.job.OpenJob.{OpenJob}
use Rattle.process.specs.declared.call.HandlerTicket.{HandlerTicket}
use Rattle.process.specs.Process.{TheProcess}
use Rattle.process.specs.Work.{Rests}
use Rattle.process.specs.Job.{TheJob, array_size, shown_by, ticket_at, HasNext, IsJobOf, IsLaid, IsNext, IsAnswered, WorksAs}
use Rattle.c_cluster.specs.declared.nodes.node_job.NodeJob.{NodeJob}
use Rattle.c_cluster.specs.declared.nodes.node_job.TheConstants.{STATE_AT, SPAN_STATE_AT}
use Rattle.c_calls.specs.declared.nodes.fault.NodeFault.{NodeFault}
use Rattle.c_calls.specs.declared.nodes.fault.NodeFault.TheVariants.{Memory, Handle, Room, Absent, Unready, Left}
use Rattle.c_calls.specs.Nodes.Answers.{OfBoth, OfSame, StaysClosed}
use Rattle.c_handles.specs.Buffer.{IsCopied, IsUntouched}
use Rattle.c_cluster.specs.Nodes.Outcome.{IsLeft}

-- ---- a job

-- a job in six words
abbrev pub words_of : TheJob → NodeJob
words_of j =
    record {
      incarnation = j.ticket.incarnation;
      received = j.ticket.received;
      message_len = length (shown_by j.image j.payload);
      me = j.who.me;
      from = j.who.from;
      count = j.who.count;
    }

-- the array of this job is at the front, and its size is written
pub record LaysOut (j : TheJob) (old new : List ℕ) (size : ℕ) : Type 0 where
  pub array : List ℕ
  pub whole : length array ≡ array_size j.image
  pub laid : IsLaid j.image j.state j.payload array
  pub copied : IsCopied array old new size

-- the buffer is too short for it and unchanged, and its size is written
abbrev pub DoesNotLayOut : TheJob → List ℕ → List ℕ → ℕ → Type 0
DoesNotLayOut j old new size = (length old < array_size j.image) × (new ≡ old) × (size ≡ array_size j.image)

-- gives out the next call: its array, and its words
pub record GivesJob (old new : List ℕ) (size : ℕ) (words : NodeJob) (p : TheProcess) : Type 0 where
  pub job : TheJob
  pub is_next : IsJobOf p job
  pub laid : LaysOut job old new size
  pub words_are : words ≡ words_of job

-- the same of a handle
abbrev pub IsGiven : List ℕ → List ℕ → ℕ → NodeJob → Option TheProcess → Option TheProcess → Type 0
IsGiven out out' size words old new = OfSame old new (GivesJob out out' size words)

-- why none is given out, if the handle is open: there is nothing to run on; there is, and the buffer is too short for the array, or memory
-- ran out
abbrev pub GivesNone : List ℕ → List ℕ → ℕ → ℕ → TheProcess → NodeFault → Type 0
GivesNone out out' was size p Absent = Rests p × IsUntouched out out' was size
GivesNone out out' was size p Room = (j : TheJob) × IsJobOf p j × DoesNotLayOut j out out' size
GivesNone out out' was size p Memory = HasNext p × IsUntouched out out' was size
GivesNone out out' was size p other = ⊥

-- why none is given out: one of these, or the handle is closed
abbrev pub IsNotGiven : List ℕ → List ℕ → ℕ → ℕ → Option TheProcess → Option TheProcess → NodeFault → Type 0
IsNotGiven out out' was size old new Handle = StaysClosed old new × IsUntouched out out' was size
IsNotGiven out out' was size old new why = OfSame old new (λ p. GivesNone out out' was size p why)

-- ---- what a call left

-- where the state begins in the array
abbrev pub state_place : AnyImage → ℕ
state_place (any.Flat image) = STATE_AT
state_place (any.Span image) = SPAN_STATE_AT

-- the state in it
abbrev pub state_in : AnyImage → List ℕ → List ℕ
state_in image array = slice_range array (state_place image) (state_place image + image_state image)

-- this is that state, in an array that is long enough
abbrev pub IsStateIn : AnyImage → List ℕ → List ℕ → Type 0
IsStateIn image array state = (array_size image ≤ length array) × (state ≡ state_in image array) × (length state ≡ image_state image)

-- a call of this image's handler with this identity left array and record, with these messages and outputs
pub record IsLeftBy (image : AnyImage) (who : Who) (array bytes : List ℕ) (e : Emitted) : Type 0 where
  pub whole : array_size image ≤ length array
  pub left : IsLeft who bytes e

-- what it left is taken as the answer to the next message; if the handler answers exactly that, it has worked
pub record TakesLeft (ticket : HandlerTicket) (array bytes : List ℕ) (old new : TheProcess) : Type 0 where
  pub message : OpenJob
  pub who : Who
  pub effects : Emitted
  pub next : IsNext old message who
  pub left : IsLeftBy old.image who array bytes effects
  pub answered : IsAnswered ticket (state_in old.image array) effects old new
  pub works : WorksAs (state_in old.image array) effects old new

-- the same of a handle
abbrev pub IsDone : HandlerTicket → List ℕ → List ℕ → Option TheProcess → Option TheProcess → Type 0
IsDone ticket array bytes old new = OfBoth old new (TakesLeft ticket array bytes)

-- no call on the next message left array and record
pub record IsLeftByNone (array bytes : List ℕ) (p : TheProcess) : Type 0 where
  pub message : OpenJob
  pub who : Who
  pub next : IsNext p message who
  pub none : (e : Emitted) → ¬ IsLeftBy p.image who array bytes e

-- why it isn't taken, if the handle is open: the first of these: there is nothing to run on, it is of another call, no call left it, or
-- memory ran out. Nothing has changed
abbrev pub LeavesOut : HandlerTicket → List ℕ → List ℕ → TheProcess → NodeFault → Type 0
LeavesOut ticket array bytes p Absent = Rests p
LeavesOut ticket array bytes p Unready = HasNext p × (ticket_at p.lifecycle ≢ ticket)
LeavesOut ticket array bytes p Left = IsLeftByNone array bytes p × (ticket_at p.lifecycle ≡ ticket)
LeavesOut ticket array bytes p Memory = HasNext p × (ticket_at p.lifecycle ≡ ticket)
LeavesOut ticket array bytes p other = ⊥

-- why it isn't taken: one of these, or the handle is closed
abbrev pub IsNotDone : HandlerTicket → List ℕ → List ℕ → Option TheProcess → Option TheProcess → NodeFault → Type 0
IsNotDone ticket array bytes old new Handle = StaysClosed old new
IsNotDone ticket array bytes old new why = OfSame old new (λ p. LeavesOut ticket array bytes p why)

-- the ticket in a job's words
abbrev pub ticket_from : ℕ → ℕ → HandlerTicket
ticket_from incarnation received = record { incarnation = incarnation; received = received }
