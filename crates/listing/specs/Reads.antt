-- Which registers an instruction reads.
use Rattle.std.specs.Prelude.{ℕ, ◌==◌, ◌||◌, Bool, false, List, [], ◌∷◌, Option, None, Some, unwrap_or}
use Rattle.decode.specs.declared.insn.Reg.{Reg}
use Rattle.decode.specs.declared.insn.Insn.{Insn}
use Rattle.decode.specs.declared.insn.Insn.TheVariants.{Call, Exit}
use Rattle.decode.specs.declared.attributes.Attributes.{Attributes}
use Rattle.regtypes.specs.declared.image_form.ImageForm.{ImageForm}
use Rattle.decode.specs.Attributes.{attributes_of}
use Rattle.regtypes.specs.Rules.{Argument, Number, Payload, Sized, arguments_of, base_of, moved_of}

-- whether this is the register with the number r
abbrev pub is_numbered : ℕ → Option Reg → Bool
is_numbered r None = false
is_numbered r (Some x) = x.number == r

-- whether the instruction reads the register, by its attributes
abbrev pub is_named : ℕ → Attributes → Bool
is_named r a = is_numbered r a.number || (is_numbered r a.operand || (is_numbered r a.copied
    || (is_numbered r (base_of a.access) || is_numbered r (moved_of a.moved))))

-- whether a helper with these arguments takes the register
abbrev pub is_argument : ℕ → List Argument → Bool
is_argument r [] = false
is_argument r (Number n ∷ xs) = n == r || is_argument r xs
is_argument r (Payload n ∷ xs) = n == r || is_argument r xs
is_argument r (Sized n m ∷ xs) = n == r || (m == r || is_argument r xs)

-- whether the instruction reads the register. A call reads its arguments, and an exit reads r0
abbrev pub is_read : ImageForm → Insn → ℕ → Bool
is_read form (Call helper) r = is_argument r (unwrap_or (arguments_of form helper) [])
is_read form Exit r = r == 0
is_read form i r = is_named r (attributes_of i)
