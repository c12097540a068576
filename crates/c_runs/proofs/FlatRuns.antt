-- What is known of images of forms 1 and 2, in the words of all forms.
use Rattle.std.proofs.Common.{◌≡◌, ◌≢◌, ℕ, List, length, refl, sym, subst, arith}
use Rattle.decode.specs.declared.insn.Insn.{Insn}
use Rattle.decode.specs.Slots.{slots_of}
use Rattle.helpers.specs.declared.effects.Who.{Who}
use Rattle.helpers.proofs.Filled.{view64-whole}
use Rattle.regtypes.specs.declared.image_form.ImageForm.{ImageForm}
use Rattle.regtypes.specs.declared.image_form.ImageForm.TheVariants as two
use Rattle.verifier.specs.Typed.{Typed}
use Rattle.interp.specs.HandlerCall.{Handled, IsHandled}
use Rattle.verifier.specs.FileForm.{file_form_of}
use Rattle.verifier.specs.declared.any_image.AnyImage.{AnyImage}
use Rattle.verifier.specs.declared.any_image.AnyImage.TheVariants.{Flat, Span}
use Rattle.verifier.specs.declared.file_form.FileForm.TheVariants.{Sbi1, Sbi2, Sbi3}
use Rattle.interp.specs.Answer.{shown, HasRun, MayRunAs}
use Rattle.c_runs.specs.Arrays.{flat_image}
use Rattle.c_runs.specs.Calls.{IsCallableForm, IsSeat}

run_in : (form : ImageForm) (code : List Insn) (who : Who) (state message : List ℕ) (h : Handled) → length message ≡ 64 → IsHandled (file_form_of form) (slots_of code) who state message h → IsHandled (file_form_of form) (slots_of code) who state (shown (file_form_of form) message) h
run_in two.Sbi1 code who state message h size r =
    subst (λ m. IsHandled Sbi1 (slots_of code) who state m h) (sym (view64-whole message size)) r
run_in two.Sbi2 code who state message h size r = r

-- a call by a message of 64 bytes
pub has_run : (image : Typed) (who : Who) (state message : List ℕ) (h : Handled) → image.slots ≡ slots_of image.code → length message ≡ 64 → IsHandled (file_form_of image.form) image.slots who state message h → HasRun (flat_image image) who state message h
has_run image who state message h slots size r =
    run_in image.form image.code who state message h size (subst (λ s. IsHandled (file_form_of image.form) s who state message h) slots r)

first_of : (form : ImageForm) → file_form_of form ≢ Sbi2 → form ≡ two.Sbi1
first_of two.Sbi1 n = refl
first_of two.Sbi2 n = absurd (n refl)

-- one that may be called by 64 bytes is of form 1
pub callable_is_first : (image : Typed) → IsCallableForm (flat_image image) → image.form ≡ two.Sbi1
callable_is_first image n = first_of image.form n

-- a process of a seat may run any handler
pub seat_runs : (image : AnyImage) (who : Who) → IsSeat who → MayRunAs image who
seat_runs (Flat image) who s = tt
seat_runs (Span image) who s = (omega (arith, s.last, s.few), omega (arith, s.sender, s.few))

-- none is of form 3
pub not_third : (form : ImageForm) → file_form_of form ≢ Sbi3
not_third two.Sbi1 = λ (e : Sbi1 ≡ Sbi3). cc
not_third two.Sbi2 = λ (e : Sbi2 ≡ Sbi3). cc
