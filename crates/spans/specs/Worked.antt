-- A typed handler that keeps a place in a word of the stack.
use Rattle.std.specs.Prelude.{◌≡◌, Some, pos, negsuc}
use Rattle.decode.specs.declared.insn.Reg.{Reg}
use Rattle.decode.specs.declared.insn.Size.TheVariants.{Byte, Double}
use Rattle.decode.specs.declared.insn.AluOp.TheVariants.{Add}
use Rattle.decode.specs.declared.insn.Width.TheVariants.{W64}
use Rattle.decode.specs.declared.insn.Operand.TheVariants as operand
use Rattle.decode.specs.declared.insn.Insn.TheVariants.{Alu, Load, StoreReg, Exit}
use Rattle.spans.specs.Typing.{Code, Table, IsTyping}

-- six instructions: the state's place is stored in the last word of the stack and loaded again, the message's first
-- byte is added to it, and the byte is stored there
pub record IsSpilling (code : Code) : Type 0 where
  pub r0 : Reg
  pub r1 : Reg
  pub r2 : Reg
  pub r4 : Reg
  pub r10 : Reg
  pub numbers : (r0.number ≡ 0) × (r1.number ≡ 1) × (r2.number ≡ 2) × (r4.number ≡ 4) × (r10.number ≡ 10)
  pub spills : code 0 ≡ Some (StoreReg Double r10 r2 (negsuc 7))
  pub reads : code 1 ≡ Some (Load Byte r0 r1 (pos 0))
  pub takes_back : code 2 ≡ Some (Load Double r4 r10 (negsuc 7))
  pub adds : code 3 ≡ Some (Alu Add W64 r4 (operand.Reg r0))
  pub stores : code 4 ≡ Some (StoreReg Byte r4 r0 (pos 0))
  pub ends : code 5 ≡ Some Exit

-- with a state of 256 bytes it has a typing: the state's place plus any number of one byte is in the state
abbrev pub IsSpillingTyped : Type 0
IsSpillingTyped = (code : Code) × (IsSpilling code × ((table : Table) × IsTyping 256 6 code table))
