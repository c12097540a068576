-- Instructions without their operands, and their words.
use Rattle.std.specs.Prelude.{◌≡◌, ℕ, ◌++◌, ◌∷◌, [], List, codes, Option, Some, None}
use Rattle.std.specs.Borrow.{Bor}
use Rattle.decode.specs.declared.insn.Insn.{Insn}
use Rattle.decode.specs.declared.insn.Insn.TheVariants as insn
use Rattle.assemble.specs.declared.mnemonic.Mnemonic.{Mnemonic}
use Rattle.assemble.specs.declared.mnemonic.Mnemonic.TheVariants.{Alu, MovSx, Neg, End, Jump, JumpLong, JumpIf, Call, Exit, Load, LoadSx}
use Rattle.assemble.specs.declared.mnemonic.Mnemonic.TheVariants.{StoreReg, StoreImm, Wide}
use Rattle.decode.specs.Encoding.{loaded}
use Rattle.assemble.specs.Inside.Words.{bits, extension_name, operands_of, tail}
use Rattle.assemble.specs.Text.{alu_word, condition_word, order_word, size_letters, suffix}

-- the word of a mnemonic
abbrev pub word : Mnemonic → List ℕ
word (Alu op width) = alu_word op ++ suffix width
word (MovSx extension) = extension_name extension
word (Neg width) = codes "neg" ++ suffix width
word (End order b) = order_word order ++ bits b
word Jump = codes "ja"
word JumpLong = codes "jal"
word (JumpIf c width) = condition_word c ++ suffix width
word Call = codes "call"
word Exit = codes "exit"
word (Load s) = codes "ldx" ++ size_letters s
word (LoadSx s) = codes "ldxs" ++ size_letters (loaded s)
word (StoreReg s) = codes "stx" ++ size_letters s
word (StoreImm s) = codes "st" ++ size_letters s
word Wide = codes "lddw"

-- an instruction without its operands
abbrev pub mnemonic_of : Insn → Mnemonic
mnemonic_of (insn.Alu op width dst src) = Alu op width
mnemonic_of (insn.MovSx extension dst src) = MovSx extension
mnemonic_of (insn.Neg width dst) = Neg width
mnemonic_of (insn.End order b dst) = End order b
mnemonic_of (insn.Jump offset) = Jump
mnemonic_of (insn.JumpLong distance) = JumpLong
mnemonic_of (insn.JumpIf c width dst src offset) = JumpIf c width
mnemonic_of (insn.Call helper) = Call
mnemonic_of insn.Exit = Exit
mnemonic_of (insn.Load s dst src offset) = Load s
mnemonic_of (insn.LoadSx s dst src offset) = LoadSx s
mnemonic_of (insn.StoreReg s dst src offset) = StoreReg s
mnemonic_of (insn.StoreImm s dst offset imm) = StoreImm s
mnemonic_of (insn.Wide dst value) = Wide

-- the instruction of this mnemonic, with these operands
abbrev pub IsInsn : Mnemonic → List ℕ → Insn → Type 0
IsInsn m rest i = (mnemonic_of i ≡ m) × (rest ≡ tail (operands_of i))

-- the text after the word
abbrev pub behind : Option (Bor (List ℕ)) → List ℕ
behind None = []
behind (Some x) = 32 ∷ x.now
