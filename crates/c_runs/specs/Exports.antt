-- The answers of the exports (docs/EMBEDDING.md).
use Rattle.std.specs.Prelude.{◌≡◌, ◌≢◌, ◌⊎◌, ℕ, ◌*◌, ◌/◌, ◌%◌, ◌<◌, ◌≤◌, List, [], ◌∷◌, length}
use Rattle.decode.specs.Refusal as decoding
use Rattle.helpers.specs.declared.effects.Who.{Who}
use Rattle.regtypes.specs.Rules as rules
use Rattle.verifier.specs.declared.fault.ImageError.{ImageError}
use Rattle.verifier.specs.declared.fault.ImageError.TheVariants as error
use Rattle.verifier.specs.FaultNumbers.{header_fault_number}
use Rattle.verifier.specs.declared.file_form.FileForm.TheVariants.{Sbi2}
use Rattle.verifier.specs.AnyFile.{IsRefusal}
use Rattle.interp.specs.Image.{TheImage}
use Rattle.operations.specs.Bytes.{overwritten}
use Rattle.c_runs.specs.declared.calls.TheConstants.{MESSAGE}
use Rattle.c_runs.specs.declared.refusal.ImageRefusal.{ImageRefusal}
use Rattle.c_runs.specs.declared.refusal.ImageRefusal.TheVariants.{Image, State, Message, Who as NotSeat, Room, Form, Handle, Record}
use Rattle.c_runs.specs.declared.report.TheConstants.{FAULT_SIZE, REPORT_LIMIT}
use Rattle.c_runs.specs.Layout.{fault_bytes}
use Rattle.c_runs.specs.Calls.{IsTypableFile, IsCallableForm, IsSeat, IsReported, AreReported}

-- ---- numbers

-- the code of a file that is refused
abbrev pub error_number : ImageError → ℕ
error_number error.Memory = 1
error_number (error.Header fault) = 2
error_number (error.Decode rule slot) = 3
error_number (error.Verify rule slot) = 4

-- the code of a refusal, 1 to 12
abbrev pub refusal_number : ImageRefusal → ℕ
refusal_number (Image e) = error_number e
refusal_number State = 5
refusal_number Message = 6
refusal_number NotSeat = 7
refusal_number Room = 8
refusal_number Form = 9
refusal_number Handle = 10
refusal_number Record = 12

-- the broken rule, 0 if there is none
abbrev pub refused_rule : ImageError → ℕ
refused_rule error.Memory = 0
refused_rule (error.Header fault) = header_fault_number fault
refused_rule (error.Decode rule slot) = decoding.rule_number rule
refused_rule (error.Verify rule slot) = rules.rule_number rule

-- the slot that breaks it, 0 if there is none
abbrev pub refused_slot : ImageError → ℕ
refused_slot error.Memory = 0
refused_slot (error.Header fault) = 0
refused_slot (error.Decode rule slot) = slot
refused_slot (error.Verify rule slot) = slot

-- ---- answers

-- the meaning of a code: 0 means that this was done, any other number says why it was not
abbrev pub Answers : ℕ → Type 0 → (ImageRefusal → Type 0) → Type 0
Answers code done refused = ((code ≡ 0) × done) ⊎ ((why : ImageRefusal) × (code ≡ refusal_number why) × refused why)

-- the file is accepted, and nothing is written
pub record IsChecked (file out written : List ℕ) : Type 0 where
  pub image : TheImage
  pub file_is : IsTypableFile image file
  pub room : FAULT_SIZE ≤ length out
  pub same : written ≡ out

-- why a file is refused, and what is written of it: the buffer is judged before the file
abbrev pub IsUnchecked : List ℕ → List ℕ → List ℕ → ImageRefusal → Type 0
IsUnchecked file out written (Image e) =
    (FAULT_SIZE ≤ length out) × IsRefusal file e × (written ≡ overwritten out 0 (fault_bytes (refused_rule e) (refused_slot e)))
IsUnchecked file out written State = ⊥
IsUnchecked file out written Message = ⊥
IsUnchecked file out written NotSeat = ⊥
IsUnchecked file out written Room = (length out < FAULT_SIZE) × (written ≡ out)
IsUnchecked file out written Form = ⊥
IsUnchecked file out written Handle = ⊥
IsUnchecked file out written Record = ⊥

-- the image of the file isn't of form 2, and made these calls with whole messages and room for their reports, on a state as long as the
-- file says
pub record IsDone (file state : List ℕ) (who : Who) (whole room : Type 0) (calls : TheImage → Type 0) : Type 0 where
  pub image : TheImage
  pub file_is : IsTypableFile image file
  pub form_is : IsCallableForm image
  pub state_fits : length state ≡ image.len
  pub seat : IsSeat who
  pub messages_are : whole
  pub reports_fit : room
  pub called : calls image

-- the code of the file has a typing
abbrev pub IsTypable : List ℕ → Type 0
IsTypable file = (image : TheImage) × IsTypableFile image file

-- this refusal says why the file is not accepted. If memory ran out, nothing is known of the file
abbrev pub IsFileRefusal : List ℕ → ImageRefusal → Type 0
IsFileRefusal file why = (e : ImageError) × (why ≡ Image e) × IsRefusal file e

-- its image can be called with messages of 64 bytes
abbrev pub IsCallable : List ℕ → Type 0
IsCallable file = (image : TheImage) × IsTypableFile image file × IsCallableForm image

-- this refusal says that it is of form 2
abbrev pub IsFormRefusal : List ℕ → ImageRefusal → Type 0
IsFormRefusal file why = (why ≡ Form) × ((image : TheImage) × IsTypableFile image file × (image.form ≡ Sbi2))

-- this refusal says that the state isn't as long as the file says
abbrev pub IsStateRefusal : List ℕ → List ℕ → ImageRefusal → Type 0
IsStateRefusal file state why =
    (why ≡ State) × ((image : TheImage) × IsTypableFile image file × IsCallableForm image × (length state ≢ image.len))

-- why a file isn't called on this state
abbrev pub IsUncallable : List ℕ → List ℕ → ImageRefusal → Type 0
IsUncallable file state why =
    IsFileRefusal file why ⊎ (IsTypable file × (IsFormRefusal file why ⊎ (IsCallable file × IsStateRefusal file state why)))

-- the tests of the arguments of a call
pub data Test : Type 0 where
  OfSeat : Test
  OfMessages : Test
  OfRoom : Test
  OfFile : Test
  OfForm : Test
  OfState : Test

-- the order of the tests
abbrev pub order : List Test
order = OfSeat ∷ OfMessages ∷ OfRoom ∷ OfFile ∷ OfForm ∷ OfState ∷ []

-- the arguments pass a test: `whole` says that the messages are whole, `room` that their reports fit
abbrev pub Passes : List ℕ → List ℕ → Who → Type 0 → Type 0 → Test → Type 0
Passes file state who whole room OfSeat = IsSeat who
Passes file state who whole room OfMessages = whole
Passes file state who whole room OfRoom = room
Passes file state who whole room OfFile = IsTypable file
Passes file state who whole room OfForm = IsCallable file
Passes file state who whole room OfState =
    (image : TheImage) × IsTypableFile image file × IsCallableForm image × (length state ≡ image.len)

-- the arguments fail a test, with this refusal
abbrev pub Fails : List ℕ → List ℕ → Who → Type 0 → Type 0 → Test → ImageRefusal → Type 0
Fails file state who whole room OfSeat why = (why ≡ NotSeat) × (¬ IsSeat who)
Fails file state who whole room OfMessages why = (why ≡ Message) × (¬ whole)
Fails file state who whole room OfRoom why = (why ≡ Room) × (¬ room)
Fails file state who whole room OfFile why = IsFileRefusal file why
Fails file state who whole room OfForm why = IsFormRefusal file why
Fails file state who whole room OfState why = IsStateRefusal file state why

-- the refusal is that of the first of these tests that the arguments fail
unfoldable pub FailsFirst : List ℕ → List ℕ → Who → Type 0 → Type 0 → List Test → ImageRefusal → Type 0
FailsFirst file state who whole room [] why = ⊥
FailsFirst file state who whole room (t ∷ ts) why =
    Fails file state who whole room t why ⊎ (Passes file state who whole room t × FailsFirst file state who whole room ts why)

-- one call, with its report written to the front
abbrev pub IsCalled : List ℕ → Who → List ℕ → List ℕ → List ℕ → List ℕ → List ℕ → Type 0
IsCalled file who state message after out written =
    IsDone file state who (length message ≡ MESSAGE) (REPORT_LIMIT ≤ length out)
    (λ image. (end : ℕ) × IsReported image who state message after out 0 written end)

-- why such a call is refused
abbrev pub IsCallRefusal : List ℕ → Who → List ℕ → List ℕ → List ℕ → ImageRefusal → Type 0
IsCallRefusal file who state message out why =
    FailsFirst file state who (length message ≡ MESSAGE) (REPORT_LIMIT ≤ length out) order why

-- calls in turn, with room for a report of the greatest size for each
abbrev pub AreCalled : List ℕ → Who → List ℕ → List ℕ → List ℕ → List ℕ → List ℕ → Type 0
AreCalled file who state messages after out written =
    IsDone file state who (length messages % MESSAGE ≡ 0) (REPORT_LIMIT * (length messages / MESSAGE) ≤ length out)
    (λ image. AreReported image who state messages after out written)

-- why such calls are refused
abbrev pub AreCallsRefused : List ℕ → Who → List ℕ → List ℕ → List ℕ → ImageRefusal → Type 0
AreCallsRefused file who state messages out why =
    FailsFirst file state who (length messages % MESSAGE ≡ 0) (REPORT_LIMIT * (length messages / MESSAGE) ≤ length out) order why

-- the meaning of a code for one call. A refusal changes nothing
abbrev pub AnswersCall : ℕ → List ℕ → Who → List ℕ → List ℕ → List ℕ → List ℕ → List ℕ → Type 0
AnswersCall code file who state message after out written =
    Answers code (IsCalled file who state message after out written)
    (λ why. IsCallRefusal file who state message out why × (after ≡ state) × (written ≡ out))

-- the same for calls in turn
abbrev pub AnswersCalls : ℕ → List ℕ → Who → List ℕ → List ℕ → List ℕ → List ℕ → List ℕ → Type 0
AnswersCalls code file who state messages after out written =
    Answers code (AreCalled file who state messages after out written)
    (λ why. AreCallsRefused file who state messages out why × (after ≡ state) × (written ≡ out))
