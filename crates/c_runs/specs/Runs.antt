-- Calls of images that are opened: their answers (docs/EMBEDDING.md).
use Rattle.std.specs.Prelude.{◌≡◌, ◌⊎◌, ℕ, ◌*◌, ◌/◌, ◌%◌, ◌≤◌, List, Option, Some, None, length}
use Rattle.helpers.specs.declared.effects.Who.{Who}
use Rattle.interp.specs.Image.{TheImage}
use Rattle.c_runs.specs.declared.calls.TheConstants.{MESSAGE}
use Rattle.c_runs.specs.declared.refusal.ImageRefusal.{ImageRefusal}
use Rattle.c_runs.specs.declared.refusal.ImageRefusal.TheVariants.{State, Message, Who as NotSeat, Room, Form, Handle}
use Rattle.c_runs.specs.declared.report.TheConstants.{REPORT_LIMIT}
use Rattle.c_runs.specs.Calls.{IsTypableFile, IsCallableForm, IsSeat, AreReported}
use Rattle.c_runs.specs.Exports.{Answers, AreCalled, AreCallsRefused}

-- these calls in turn were made with the messages, with room for a report of the greatest size for each, on a state of the image's length
pub record AreDone (image : TheImage) (who : Who) (state messages after out written : List ℕ) : Type 0 where
  pub seat : IsSeat who
  pub messages_are : length messages % MESSAGE ≡ 0
  pub reports_fit : REPORT_LIMIT * (length messages / MESSAGE) ≤ length out
  pub form_is : IsCallableForm image
  pub state_fits : length state ≡ image.len
  pub called : AreReported image who state messages after out written

-- a test, the refusal if it fails, and the refusals if it passes
abbrev pub Unless : Type 0 → ImageRefusal → (ImageRefusal → Type 0) → ImageRefusal → Type 0
Unless passes refusal others why = ((why ≡ refusal) × (¬ passes)) ⊎ (passes × others why)

-- why such calls are refused: the first of these tests that fails
abbrev pub AreUndone : TheImage → Who → List ℕ → List ℕ → List ℕ → ImageRefusal → Type 0
AreUndone image who state messages out =
    Unless (IsSeat who) NotSeat
    (Unless (length messages % MESSAGE ≡ 0) Message
    (Unless (REPORT_LIMIT * (length messages / MESSAGE) ≤ length out) Room
    (Unless (IsCallableForm image) Form
    (Unless (length state ≡ image.len) State
    (λ why. ⊥)))))

-- the meaning of a code for calls by a handle. A refusal changes nothing
abbrev pub Runs : ℕ → Option TheImage → Who → List ℕ → List ℕ → List ℕ → List ℕ → List ℕ → Type 0
Runs code None who state messages after out written =
    Answers code ⊥ (λ why. (why ≡ Handle) × (after ≡ state) × (written ≡ out))
Runs code (Some image) who state messages after out written =
    Answers code (AreDone image who state messages after out written)
    (λ why. AreUndone image who state messages out why × (after ≡ state) × (written ≡ out))

-- what is done by the handle of a file is done by the file
abbrev pub AreDoneAsByFile : Type 0
AreDoneAsByFile =
    (file : List ℕ) (image : TheImage) (who : Who) (state messages after out written : List ℕ) → IsTypableFile image file
    → AreDone image who state messages after out written → AreCalled file who state messages after out written

-- what is refused by the handle of a file is refused likewise by the file
abbrev pub AreRefusedAsByFile : Type 0
AreRefusedAsByFile =
    (file : List ℕ) (image : TheImage) (who : Who) (state messages out : List ℕ) (why : ImageRefusal) → IsTypableFile image file
    → AreUndone image who state messages out why → AreCallsRefused file who state messages out why
