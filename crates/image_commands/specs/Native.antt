-- The command `native` (docs/FORMATS.md, "Commands"), which takes images of any form.
use Rattle.std.specs.Prelude.{ℕ, List}
use Rattle.decode.specs.declared.insn.Insn.{Insn}
use Rattle.verifier.specs.declared.file_form.FileForm.{FileForm}
use Rattle.verifier.specs.AnyFile.{IsFile, IsTypable}
use Rattle.native.specs.AnyForm.{IsNativeIn}

-- the bytes are the file, of any form, of typable code, and the machine code does what it does, on every message and state
pub record IsMachineCode (bytes machine : List ℕ) : Type 0 where
  pub form : FileForm
  pub code : List Insn
  pub len : ℕ
  pub file : IsFile form code len bytes
  pub typable : IsTypable form code len
  pub native : IsNativeIn form code len machine
