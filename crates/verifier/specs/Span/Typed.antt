-- What a contract sees of an image of form 3.
use Rattle.std.specs.Prelude.{◌≡◌, ℕ, List}
use Rattle.decode.specs.declared.insn.Insn.{Insn}
use Rattle.decode.specs.Slots.{slots_of}
use Rattle.spans.specs.Typing.{Table}
use Rattle.verifier.specs.Fixpoint.{IsTyped}
use Rattle.verifier.specs.Span.Typing.{span_form}

-- the instructions, and the state's length
pub record Typed : Type 0 where
  pub code : List Insn
  pub len : ℕ

-- code has a typing in form 3
abbrev pub IsTypable : List Insn → ℕ → Type 0
IsTypable code len = (table : Table) × IsTyped (span_form len (slots_of code)) table

-- the image of this code, which is typable
pub record IsImageOf (code : List Insn) (len : ℕ) (image : Typed) : Type 0 where
  pub code_is : image.code ≡ code
  pub len_is : image.len ≡ len
  pub typable : IsTypable code len
