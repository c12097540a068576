-- Machine code of images of any form.
use Rattle.std.proofs.Common.{◌≡◌, ℕ, List, length, subst}
use Rattle.decode.specs.declared.insn.Insn.{Insn}
use Rattle.decode.specs.Slots.{slots_of}
use Rattle.regtypes.specs.declared.image_form.ImageForm.{ImageForm}
use Rattle.regtypes.specs.declared.image_form.ImageForm.TheVariants as two
use Rattle.regtypes.specs.Typing.{Table, IsTyping}
use Rattle.verifier.specs.Typed.{Typed}
use Rattle.verifier.specs.FileForm.{file_form_of}
use Rattle.verifier.specs.declared.file_form.FileForm.TheVariants.{Sbi1, Sbi2, Sbi3}
use Rattle.verifier.specs.declared.any_image.AnyImage.TheVariants.{Flat}
use Rattle.verifier.specs.AnyFile.{IsTypable}
use Rattle.verifier.proofs.LeastTypings.{are_typings}
use Rattle.interp.specs.Image.{as_image}
use Rattle.native.specs.declared.prologue.Opening.TheVariants as opening
use Rattle.native.specs.Correct.{IsNative}
use Rattle.native.specs.Written as flat
use Rattle.native.proofs.One.{one_code, written_one}
use Rattle.native.specs.SpanTasks.{tasks_in}
use Rattle.native.specs.SpanWritten as span
use Rattle.native.specs.AnyForm.{IsNativeIn}
use Rattle.native.specs.HandlerCode.{IsCode, IsCodeIn, IsOneInAnyForm}

native_in : (form : ImageForm) (code : List Insn) (len : ℕ) (bytes : List ℕ) → IsNative form (slots_of code) len bytes → IsNativeIn (file_form_of form) code len bytes
native_in two.Sbi1 code len bytes n = n
native_in two.Sbi2 code len bytes n = n

typable_in : (form : ImageForm) (code : List Insn) (len : ℕ) (table : Table) → IsTyping form (slots_of code) len table → IsTypable (file_form_of form) code len
typable_in two.Sbi1 code len table t = (table, (are_typings two.Sbi1 (slots_of code) len table).1 t)
typable_in two.Sbi2 code len table t = (table, (are_typings two.Sbi2 (slots_of code) len table).1 t)

code_in : (form : ImageForm) (code : List Insn) (len : ℕ) (bytes : List ℕ) → flat.IsCodeOf form (slots_of code) len bytes → IsCodeIn (file_form_of form) code len bytes
code_in two.Sbi1 code len bytes w = w
code_in two.Sbi2 code len bytes w = w

-- of form 1 or 2
pub code_of_flat : (image : Typed) (bytes : List ℕ) → image.slots ≡ slots_of image.code → IsTyping image.form image.slots image.len image.table → IsNative image.form image.slots image.len bytes → flat.IsCodeOf image.form image.slots image.len bytes → IsCode (as_image (Flat image)) bytes
code_of_flat image bytes slots t n w = record {
  typable = typable_in image.form image.code image.len image.table (subst (λ s. IsTyping image.form s image.len image.table) slots t);
  native = native_in image.form image.code image.len bytes (subst (λ s. IsNative image.form s image.len bytes) slots n);
  written = code_in image.form image.code image.len bytes (subst (λ s. flat.IsCodeOf image.form s image.len bytes) slots w);
}

pub one_span : span.IsOneCode
one_span insns len code code' a b = written_one opening.Placed (tasks_in (slots_of insns) len (length (slots_of insns))) code code' a b

pub one_in : IsOneInAnyForm
one_in Sbi1 insns len code code' a b = one_code two.Sbi1 (slots_of insns) len code code' a b
one_in Sbi2 insns len code code' a b = one_code two.Sbi2 (slots_of insns) len code code' a b
one_in Sbi3 insns len code code' a b = one_span insns len code code' a b
