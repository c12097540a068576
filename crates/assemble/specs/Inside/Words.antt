-- Words and operands separately, as the code reads and writes them.
use Rattle.std.specs.Prelude.{ℕ, ◌++◌, ◌∷◌, List, [], codes}
use Rattle.decode.specs.declared.insn.Extension.{Extension}
use Rattle.decode.specs.declared.insn.Extension.TheVariants.{W32From8, W32From16, W64From8, W64From16, W64From32}
use Rattle.decode.specs.declared.insn.SwapBits.{SwapBits}
use Rattle.decode.specs.declared.insn.SwapBits.TheVariants.{Bits16, Bits32, Bits64}
use Rattle.decode.specs.declared.insn.Insn.{Insn}
use Rattle.assemble.specs.Text.{parts_of}

-- the word of an instruction
abbrev pub word_of : Insn → List ℕ
word_of i = (parts_of i).0

-- its operands
abbrev pub operands_of : Insn → List (List ℕ)
operands_of i = (parts_of i).1

-- the word of a move that extends a sign
abbrev pub extension_name : Extension → List ℕ
extension_name W32From8 = codes "mov32sx8"
extension_name W32From16 = codes "mov32sx16"
extension_name W64From8 = codes "movsx8"
extension_name W64From16 = codes "movsx16"
extension_name W64From32 = codes "movsx32"

-- the number of bits after the word of a byte swap
abbrev pub bits : SwapBits → List ℕ
bits Bits16 = codes "16"
bits Bits32 = codes "32"
bits Bits64 = codes "64"

-- a comma and a space between operands
abbrev pub commas : List ℕ → List (List ℕ) → List ℕ
commas x [] = x
commas x (y ∷ ys) = x ++ (codes ", " ++ commas y ys)

-- one space and the operands, if there are any
abbrev pub tail : List (List ℕ) → List ℕ
tail [] = []
tail (x ∷ xs) = codes " " ++ commas x xs
