-- What form 3 takes of the files of forms 1 and 2.
use Rattle.std.specs.Prelude.{ℕ, List, slice_set}
use Rattle.decode.specs.declared.insn.Insn.{Insn}
use Rattle.verifier.specs.declared.file_form.FileForm.{FileForm}
use Rattle.verifier.specs.declared.file_form.FileForm.TheVariants.{Sbi3}
use Rattle.verifier.specs.ImageFile.{IsFile, IsTypable}

-- the bytes with "SBI3" as their first four; an image file of form 1 or 2 changes only in the fourth
abbrev pub as_form_3 : List ℕ → List ℕ
as_form_3 bytes = slice_set bytes 3 0x33

-- a file of typable code, of any form, is a file of form 3 with a 3 as its fourth byte, and its code is typable there
abbrev pub AreFilesSubsumed : Type 0
AreFilesSubsumed =
    (form : FileForm) (code : List Insn) (state : ℕ) (bytes : List ℕ) → IsFile form code state bytes → IsTypable form code state
    → IsFile Sbi3 code state (as_form_3 bytes) × IsTypable Sbi3 code state
