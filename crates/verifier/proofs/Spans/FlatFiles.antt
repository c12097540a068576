-- A file of any form is one of form 3, except for its fourth byte.
use Rattle.std.proofs.Common.{ℕ, List, ap}
use Rattle.decode.specs.declared.insn.Insn.{Insn}
use Rattle.decode.specs.Slots.{slots_of}
use Rattle.regtypes.specs.declared.image_form.ImageForm.TheVariants as two
use Rattle.verifier.specs.ImageFile.{IsTypable}
use Rattle.verifier.specs.declared.file_form.FileForm.{FileForm}
use Rattle.verifier.specs.declared.file_form.FileForm.TheVariants.{Sbi1, Sbi2, Sbi3}
use Rattle.verifier.specs.Span.FlatFiles.{AreFilesSubsumed, as_form_3}
use Rattle.verifier.specs.Span.FlatFrames.{read_table}
use Rattle.verifier.proofs.LeastTypings.{are_typings}
use Rattle.verifier.proofs.Spans.FlatTypings.{typings_subsumed}

typable_3 : (form : FileForm) (code : List Insn) (state : ℕ) → IsTypable form code state → IsTypable Sbi3 code state
typable_3 Sbi1 code state t = (read_table t.0, (typings_subsumed two.Sbi1 code state t.0 ((are_typings two.Sbi1 (slots_of code) state t.0).0 t.1)).0)
typable_3 Sbi2 code state t = (read_table t.0, (typings_subsumed two.Sbi2 code state t.0 ((are_typings two.Sbi2 (slots_of code) state t.0).0 t.1)).0)
typable_3 Sbi3 code state t = t

pub files_subsumed : AreFilesSubsumed
files_subsumed form code state bytes f t =
    (record { bytes_are = ap as_form_3 f.bytes_are; fits = f.fits; state = f.state; some = f.some; short = f.short }, typable_3 form code state t)
