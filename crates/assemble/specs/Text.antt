-- The line of each instruction: its word and its operands (docs/FORMATS.md, "Assembler text").
use Rattle.std.specs.Prelude.{◌≡◌, ◌==◌, ℕ, ℤ, ◌++◌, ◌∷◌, List, [], codes, Bool, true, not, map, filter}
use Rattle.std.specs.List.{flat_map, join_with_byte, slice_split}
use Rattle.decode.specs.declared.insn.AluOp.{AluOp}
use Rattle.decode.specs.declared.insn.AluOp.TheVariants as alu
use Rattle.decode.specs.declared.insn.Width.{Width}
use Rattle.decode.specs.declared.insn.Width.TheVariants.{W32, W64}
use Rattle.decode.specs.declared.insn.Extension.{Extension}
use Rattle.decode.specs.declared.insn.ByteOrder.{ByteOrder}
use Rattle.decode.specs.declared.insn.ByteOrder.TheVariants.{Little, Big, Swap}
use Rattle.decode.specs.declared.insn.Condition.{Condition}
use Rattle.decode.specs.declared.insn.Condition.TheVariants as condition
use Rattle.decode.specs.declared.insn.Size.{Size}
use Rattle.decode.specs.declared.insn.Size.TheVariants as size
use Rattle.decode.specs.declared.insn.Operand.{Operand}
use Rattle.decode.specs.declared.insn.Operand.TheVariants as operand
use Rattle.decode.specs.declared.insn.Reg.{Reg}
use Rattle.decode.specs.declared.insn.Insn.{Insn}
use Rattle.decode.specs.declared.insn.Insn.TheVariants.{Alu, MovSx, Neg, End, Jump, JumpLong, JumpIf, Call, Exit, Load, LoadSx, StoreReg}
use Rattle.decode.specs.declared.insn.Insn.TheVariants.{StoreImm, Wide}
use Rattle.decode.specs.Encoding.{extension_width, extension_offset, swap_imm, loaded}
use Rattle.assemble.specs.Number.{numeral, number, with_sign}

-- ---- words

-- the word of an operation
abbrev pub alu_word : AluOp → List ℕ
alu_word alu.Add = codes "add"
alu_word alu.Sub = codes "sub"
alu_word alu.Mul = codes "mul"
alu_word alu.Div = codes "div"
alu_word alu.Sdiv = codes "sdiv"
alu_word alu.Or = codes "or"
alu_word alu.And = codes "and"
alu_word alu.Lsh = codes "lsh"
alu_word alu.Rsh = codes "rsh"
alu_word alu.Mod = codes "mod"
alu_word alu.Smod = codes "smod"
alu_word alu.Xor = codes "xor"
alu_word alu.Mov = codes "mov"
alu_word alu.Arsh = codes "arsh"

-- the suffix of the word in 32 bits
abbrev pub suffix : Width → List ℕ
suffix W32 = codes "32"
suffix W64 = []

-- the word of a move that extends a sign
abbrev pub extension_word : Extension → List ℕ
extension_word x = codes "mov" ++ suffix (extension_width x) ++ codes "sx" ++ numeral (extension_offset x)

-- the word of a byte swap
abbrev pub order_word : ByteOrder → List ℕ
order_word Little = codes "le"
order_word Big = codes "be"
order_word Swap = codes "swap"

-- the word of a conditional jump
abbrev pub condition_word : Condition → List ℕ
condition_word condition.Equal = codes "jeq"
condition_word condition.Greater = codes "jgt"
condition_word condition.GreaterEqual = codes "jge"
condition_word condition.Set = codes "jset"
condition_word condition.NotEqual = codes "jne"
condition_word condition.SignedGreater = codes "jsgt"
condition_word condition.SignedGreaterEqual = codes "jsge"
condition_word condition.Less = codes "jlt"
condition_word condition.LessEqual = codes "jle"
condition_word condition.SignedLess = codes "jslt"
condition_word condition.SignedLessEqual = codes "jsle"

-- the end of a load's or a store's word
abbrev pub size_letters : Size → List ℕ
size_letters size.Byte = codes "b"
size_letters size.Half = codes "h"
size_letters size.Word = codes "w"
size_letters size.Double = codes "dw"

-- ---- operands

-- r0 to r10
abbrev pub register : Reg → List ℕ
register r = codes "r" ++ numeral r.number

-- a number or a register
abbrev pub source : Operand → List ℕ
source (operand.Imm n) = number n
source (operand.Reg r) = register r

-- a register and an offset in brackets
abbrev pub address : Reg → ℤ → List ℕ
address r offset = codes "[" ++ (register r ++ (with_sign offset ++ codes "]"))

-- ---- the table

-- the word of an instruction, and its operands in order
abbrev pub parts_of : Insn → List ℕ × List (List ℕ)
parts_of (Alu op w dst src) = (alu_word op ++ suffix w, register dst ∷ source src ∷ [])
parts_of (MovSx x dst src) = (extension_word x, register dst ∷ register src ∷ [])
parts_of (Neg w dst) = (codes "neg" ++ suffix w, register dst ∷ [])
parts_of (End order bits dst) = (order_word order ++ numeral (swap_imm bits), register dst ∷ [])
parts_of (Jump o) = (codes "ja", with_sign o ∷ [])
parts_of (JumpLong n) = (codes "jal", with_sign n ∷ [])
parts_of (JumpIf c w dst src o) = (condition_word c ++ suffix w, register dst ∷ source src ∷ with_sign o ∷ [])
parts_of (Call helper) = (codes "call", number helper ∷ [])
parts_of Exit = (codes "exit", [])
parts_of (Load size dst src o) = (codes "ldx" ++ size_letters size, register dst ∷ address src o ∷ [])
parts_of (LoadSx size dst src o) = (codes "ldxs" ++ size_letters (loaded size), register dst ∷ address src o ∷ [])
parts_of (StoreReg size dst src o) = (codes "stx" ++ size_letters size, address dst o ∷ register src ∷ [])
parts_of (StoreImm size dst o n) = (codes "st" ++ size_letters size, address dst o ∷ number n ∷ [])
parts_of (Wide dst value) = (codes "lddw", register dst ∷ numeral value ∷ [])

-- ---- lines

-- the one line of an instruction, without its line feed: its word, then its operands, each after a space, with commas
-- between them
abbrev pub line_of : Insn → List ℕ
line_of i = (parts_of i).0 ++ join_with_byte 44 (map (λ o. codes " " ++ o) (parts_of i).1)

-- ---- texts

-- an empty line, or a comment
abbrev pub is_silent : List ℕ → Bool
is_silent [] = true
is_silent (c ∷ cs) = c == 35

-- the lines that are neither
abbrev pub spoken : List (List ℕ) → List (List ℕ)
spoken lines = filter (λ l. not (is_silent l)) lines

-- the lines, without their line feeds; the text after the last line feed is one too
abbrev pub lines_of : List ℕ → List (List ℕ)
lines_of text = slice_split (λ c. c == 10) text

-- the text is one of these instructions
abbrev pub IsText : List ℕ → List Insn → Type 0
IsText text is = spoken (lines_of text) ≡ map line_of is

-- what is written: each line ended
abbrev pub text_of : List Insn → List ℕ
text_of is = flat_map (λ i. line_of i ++ codes "\n") is
