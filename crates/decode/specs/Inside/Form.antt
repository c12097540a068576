-- Forms by opcode, and the instruction of a form: what decoding looks up.
use Rattle.std.specs.Prelude.{ℕ, ℤ, ◌+◌, ◌*◌, ◌/◌, ◌%◌, ◌^◌, ◌==◌, if◌then◌else◌, Option, Some, None}
use Rattle.std.specs.Option.{option_map, option_map_or}
use Rattle.std.specs.Int.{w16, w32, cast_signed}
use Rattle.decode.specs.declared.insn.AluOp.{AluOp}
use Rattle.decode.specs.declared.insn.AluOp.TheVariants as alu
use Rattle.decode.specs.declared.insn.Width.{Width}
use Rattle.decode.specs.declared.insn.Width.TheVariants.{W32, W64}
use Rattle.decode.specs.declared.insn.Extension.{Extension}
use Rattle.decode.specs.declared.insn.Extension.TheVariants.{W32From8, W32From16, W64From8, W64From16, W64From32}
use Rattle.decode.specs.declared.insn.ByteOrder.TheVariants.{Little, Big, Swap}
use Rattle.decode.specs.declared.insn.SwapBits.{SwapBits}
use Rattle.decode.specs.declared.insn.SwapBits.TheVariants.{Bits16, Bits32, Bits64}
use Rattle.decode.specs.declared.insn.Condition.{Condition}
use Rattle.decode.specs.declared.insn.Condition.TheVariants as condition
use Rattle.decode.specs.declared.insn.Size.TheVariants as size
use Rattle.decode.specs.declared.insn.SignedSize.TheVariants as signed
use Rattle.decode.specs.declared.insn.Operand.{Operand}
use Rattle.decode.specs.declared.insn.Operand.TheVariants as operand
use Rattle.decode.specs.declared.insn.Insn.{Insn}
use Rattle.decode.specs.declared.insn.Insn.TheVariants as insn
use Rattle.decode.specs.declared.insn.Reg.{Reg}
use Rattle.decode.specs.declared.word.Word.{Word}
use Rattle.decode.specs.declared.form.Source.{Source}
use Rattle.decode.specs.declared.form.Source.TheVariants.{Imm, Register}
use Rattle.decode.specs.declared.form.OpcodeForm.{OpcodeForm}
use Rattle.decode.specs.declared.form.OpcodeForm.TheVariants.{Alu, Neg, End, Jump, JumpLong, JumpIf, Call, Exit, Load, LoadSx, StoreReg}
use Rattle.decode.specs.declared.form.OpcodeForm.TheVariants.{StoreImm, Wide}

-- the operation of a code; of two divisions the unsigned one
abbrev pub alu_at : ℕ → Option AluOp
alu_at n =
    if n == 0x0 then Some alu.Add
    else if n == 0x1 then Some alu.Sub
    else if n == 0x2 then Some alu.Mul
    else if n == 0x3 then Some alu.Div
    else if n == 0x4 then Some alu.Or
    else if n == 0x5 then Some alu.And
    else if n == 0x6 then Some alu.Lsh
    else if n == 0x7 then Some alu.Rsh
    else if n == 0x9 then Some alu.Mod
    else if n == 0xa then Some alu.Xor
    else if n == 0xb then Some alu.Mov
    else if n == 0xc then Some alu.Arsh
    else None

-- the condition of a code
abbrev pub condition_at : ℕ → Option Condition
condition_at n =
    if n == 0x1 then Some condition.Equal
    else if n == 0x2 then Some condition.Greater
    else if n == 0x3 then Some condition.GreaterEqual
    else if n == 0x4 then Some condition.Set
    else if n == 0x5 then Some condition.NotEqual
    else if n == 0x6 then Some condition.SignedGreater
    else if n == 0x7 then Some condition.SignedGreaterEqual
    else if n == 0xa then Some condition.Less
    else if n == 0xb then Some condition.LessEqual
    else if n == 0xc then Some condition.SignedLess
    else if n == 0xd then Some condition.SignedLessEqual
    else None

-- whether an opcode takes a number or a register, by its source bit
abbrev pub source_at : ℕ → Source
source_at n = if n / 8 % 2 == 0 then Imm else Register

-- arithmetic by code and source bit
abbrev alu_form : Width → ℕ → Option OpcodeForm
alu_form width n = option_map (λ op. Alu op width (source_at n)) (alu_at (n / 16))

-- a conditional jump by code and source bit
abbrev jump_form : Width → ℕ → Option OpcodeForm
jump_form width n = option_map (λ c. JumpIf c width (source_at n)) (condition_at (n / 16))

-- arithmetic and conditional jumps by class
abbrev by_class : ℕ → Option OpcodeForm
by_class n =
    if n % 8 == 4 then alu_form W32 n
    else if n % 8 == 7 then alu_form W64 n
    else if n % 8 == 5 then jump_form W64 n
    else if n % 8 == 6 then jump_form W32 n
    else None

-- the form of an opcode
abbrev pub form_at : ℕ → Option OpcodeForm
form_at n =
    if n == 0x05 then Some Jump
    else if n == 0x06 then Some JumpLong
    else if n == 0x18 then Some Wide
    else if n == 0x61 then Some (Load size.Word)
    else if n == 0x69 then Some (Load size.Half)
    else if n == 0x71 then Some (Load size.Byte)
    else if n == 0x79 then Some (Load size.Double)
    else if n == 0x62 then Some (StoreImm size.Word)
    else if n == 0x6a then Some (StoreImm size.Half)
    else if n == 0x72 then Some (StoreImm size.Byte)
    else if n == 0x7a then Some (StoreImm size.Double)
    else if n == 0x63 then Some (StoreReg size.Word)
    else if n == 0x6b then Some (StoreReg size.Half)
    else if n == 0x73 then Some (StoreReg size.Byte)
    else if n == 0x7b then Some (StoreReg size.Double)
    else if n == 0x81 then Some (LoadSx signed.Word)
    else if n == 0x89 then Some (LoadSx signed.Half)
    else if n == 0x91 then Some (LoadSx signed.Byte)
    else if n == 0x84 then Some (Neg W32)
    else if n == 0x87 then Some (Neg W64)
    else if n == 0x85 then Some Call
    else if n == 0x95 then Some Exit
    else if n == 0xd4 then Some (End Little)
    else if n == 0xdc then Some (End Big)
    else if n == 0xd7 then Some (End Swap)
    else by_class n

-- a division is signed if the offset is 1
abbrev pub signed_at : AluOp → ℕ → AluOp
signed_at alu.Div offset = if offset == 1 then alu.Sdiv else alu.Div
signed_at alu.Mod offset = if offset == 1 then alu.Smod else alu.Mod
signed_at op offset = op

-- a move between registers with an offset extends a sign
abbrev pub extension_at : AluOp → Width → ℕ → Option Extension
extension_at alu.Mov W32 offset = if offset == 8 then Some W32From8 else if offset == 16 then Some W32From16 else None
extension_at alu.Mov W64 offset =
    if offset == 8 then Some W64From8 else if offset == 16 then Some W64From16 else if offset == 32 then Some W64From32 else None
extension_at op width offset = None

-- the width that the immediate value of a byte swap names
abbrev pub bits_at : ℕ → SwapBits
bits_at imm = if imm == 16 then Bits16 else if imm == 32 then Bits32 else Bits64

-- the operand by the source bit
abbrev pub operand_at : Source → Reg → ℤ → Operand
operand_at Imm src imm = operand.Imm imm
operand_at Register src imm = operand.Reg src

-- the upper half of a wide value
abbrev high_of : Option Word → ℕ
high_of None = 0
high_of (Some s) = s.imm

-- the instruction of a form, from the fields that it uses
abbrev pub insn_from : OpcodeForm → Reg → Reg → Word → Option Word → Insn
insn_from (Alu op width Imm) dst src w next = insn.Alu (signed_at op w.offset) width dst (operand.Imm (cast_signed w32 w.imm))
insn_from (Alu op width Register) dst src w next = option_map_or (λ x. insn.MovSx x dst src)
    (extension_at op width w.offset) (insn.Alu (signed_at op w.offset) width dst (operand.Reg src))
insn_from (Neg width) dst src w next = insn.Neg width dst
insn_from (End order) dst src w next = insn.End order (bits_at w.imm) dst
insn_from Jump dst src w next = insn.Jump (cast_signed w16 w.offset)
insn_from JumpLong dst src w next = insn.JumpLong (cast_signed w32 w.imm)
insn_from (JumpIf c width source) dst src w next =
    insn.JumpIf c width dst (operand_at source src (cast_signed w32 w.imm)) (cast_signed w16 w.offset)
insn_from Call dst src w next = insn.Call (cast_signed w32 w.imm)
insn_from Exit dst src w next = insn.Exit
insn_from (Load size) dst src w next = insn.Load size dst src (cast_signed w16 w.offset)
insn_from (LoadSx size) dst src w next = insn.LoadSx size dst src (cast_signed w16 w.offset)
insn_from (StoreReg size) dst src w next = insn.StoreReg size dst src (cast_signed w16 w.offset)
insn_from (StoreImm size) dst src w next = insn.StoreImm size dst (cast_signed w16 w.offset) (cast_signed w32 w.imm)
insn_from Wide dst src w next = insn.Wide dst (w.imm + high_of next * 2 ^ 32)
