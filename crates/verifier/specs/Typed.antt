-- What a contract sees of an `Image`.
use Rattle.std.specs.Prelude.{ℕ, List, Option}
use Rattle.decode.specs.declared.insn.Insn.{Insn}
use Rattle.regtypes.specs.declared.image_form.ImageForm.{ImageForm}
use Rattle.regtypes.specs.Typing.{Table}

-- the form, the instructions, the same slot by slot, the frame of each slot that is reached, the state's length, and
-- the lowest position of the array at which the stack is written
pub record Typed : Type 0 where
  pub form : ImageForm
  pub code : List Insn
  pub slots : List (Option Insn)
  pub table : Table
  pub len : ℕ
  pub low : ℕ
