-- Calls of the handler of a file.
use Rattle.std.specs.Prelude.{◌≡◌, ◌≢◌, ℕ, ◌+◌, ◌≤◌, List, [], ◌∷◌, length, take, drop}
use Rattle.std.specs.List.{flat_map}
use Rattle.limits.specs.declared.TheConstants.{PROCESSES}
use Rattle.helpers.specs.declared.effects.Who.{Who}
use Rattle.interp.specs.HandlerCall.{Handled}
use Rattle.verifier.specs.declared.file_form.FileForm.TheVariants.{Sbi2}
use Rattle.verifier.specs.AnyFile.{IsFile, IsTypable}
use Rattle.interp.specs.Image.{TheImage}
use Rattle.interp.specs.Answer.{HasRun}
use Rattle.operations.specs.Bytes.{overwritten}
use Rattle.c_runs.specs.declared.report.TheConstants.{REPORT_LIMIT}
use Rattle.c_runs.specs.declared.calls.TheConstants.{MESSAGE}
use Rattle.c_runs.specs.Layout.{report_bytes}

-- the file of an image whose code has a typing in its form: these files are accepted
pub record IsTypableFile (image : TheImage) (file : List ℕ) : Type 0 where
  pub file_is : IsFile image.form image.code image.len file
  pub typable : IsTypable image.form image.code image.len

-- a handler of form 2 isn't called: its messages and payloads have lengths of their own, which a message of 64 bytes doesn't have
abbrev pub IsCallableForm : TheImage → Type 0
IsCallableForm image = image.form ≢ Sbi2

-- a process is called with a message of another process, or of the outside, which is number 0
pub record IsSeat (who : Who) : Type 0 where
  pub some : 1 ≤ who.me
  pub last : who.me ≤ who.count
  pub few : who.count ≤ PROCESSES
  pub sender : who.from ≤ who.count
  pub other : who.me ≢ who.from

-- the identity that a handler is called with, from the numbers that C passes
abbrev pub caller : ℕ → ℕ → ℕ → Who
caller me from count = record { me = me; from = from; count = count }

-- the bytes of the report of one call
abbrev pub report_of : Handled → List ℕ
report_of h = report_bytes h.r0 h.steps h.effects

-- one call: the state after it, and the report written from one place to another
pub record IsReported (image : TheImage) (who : Who) (state message after out : List ℕ) (at : ℕ) (written : List ℕ) (end : ℕ) : Type 0 where
  pub handled : Handled
  pub handles : HasRun image who state message handled
  pub state_is : after ≡ handled.state
  pub out_is : written ≡ overwritten out at (report_of handled)
  pub end_is : end ≡ at + length (report_of handled)
  pub size : length (report_of handled) ≤ REPORT_LIMIT

-- calls in turn, with one message of 64 bytes each: each begins with the state that the one before left
abbrev pub AreHandled : TheImage → Who → List ℕ → List ℕ → List Handled → List ℕ → Type 0
AreHandled image who state messages [] last = (messages ≡ []) × (last ≡ state)
AreHandled image who state messages (h ∷ hs) last =
    HasRun image who state (take MESSAGE messages) h × AreHandled image who h.state (drop MESSAGE messages) hs last

-- such calls, and their reports written one after another from the front
pub record AreReported (image : TheImage) (who : Who) (state messages after out written : List ℕ) : Type 0 where
  pub calls : List Handled
  pub handles : AreHandled image who state messages calls after
  pub out_is : written ≡ overwritten out 0 (flat_map report_of calls)
