-- What `verify` answers.
use Rattle.std.specs.Prelude.{◌≡◌, ℕ, List, Option}
use Rattle.decode.specs.declared.insn.Insn.{Insn}
use Rattle.decode.specs.Slots.{slots_of}
use Rattle.regtypes.specs.declared.image_form.ImageForm.{ImageForm}
use Rattle.regtypes.specs.declared.rule.Rule.{Rule}
use Rattle.regtypes.specs.Typing.{Table, frame_at}
use Rattle.verifier.specs.declared.fault.VerifyError.{VerifyError}
use Rattle.verifier.specs.declared.fault.VerifyError.TheVariants.{Memory, Fault}
use Rattle.verifier.specs.Typed.{Typed}
use Rattle.verifier.specs.Fixpoint as one
use Rattle.verifier.specs.Least.{flat_form, IsLeastTyping}

-- the code and its least typing
pub record IsImageOf (form : ImageForm) (code : List Insn) (len : ℕ) (image : Typed) : Type 0 where
  pub form_is : image.form ≡ form
  pub code_is : image.code ≡ code
  pub slots_is : image.slots ≡ slots_of code
  pub len_is : image.len ≡ len
  pub typing : IsLeastTyping form (slots_of code) len image.table

-- the table is the least typing of the code; if a slot breaks a rule, it is that of the slots below
abbrev pub IsJudged : ImageForm → List Insn → ℕ → Table → Option (Rule × ℕ) → Type 0
IsJudged form code len table refusal = one.IsJudged (flat_form form len (slots_of code)) (frame_at table) refusal

-- why code gave no image; that memory ran out says nothing of the code
abbrev pub IsWhy : ImageForm → List Insn → ℕ → VerifyError → Type 0
IsWhy form code len (Fault rule slot) = one.IsFault (flat_form form len (slots_of code)) rule slot
IsWhy form code len Memory = Unit {0}

-- refused code has one rule and one slot that can be named
abbrev pub IsOneRefusal : Type 0
IsOneRefusal = (form : ImageForm) (len : ℕ) (slots : List (Option Insn)) → one.IsOneRefusal (flat_form form len slots)
