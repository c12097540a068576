-- What an instruction reads, writes and reaches (RFC 9669 sections 4 and 5).
use Rattle.std.specs.Prelude.{ℕ, true, false, Option, Some, None, ℤ}
use Rattle.decode.specs.declared.insn.Reg.{Reg}
use Rattle.decode.specs.declared.insn.Operand.{Operand}
use Rattle.decode.specs.declared.insn.Operand.TheVariants as operand
use Rattle.decode.specs.declared.insn.Insn.{Insn}
use Rattle.decode.specs.declared.insn.Insn.TheVariants.{Alu, MovSx, Neg, End, Jump, JumpLong, JumpIf, Call, Exit, Load, LoadSx, StoreReg}
use Rattle.decode.specs.declared.insn.Insn.TheVariants.{StoreImm, Wide}
use Rattle.decode.specs.Encoding.{bytes_in, loaded}
use Rattle.decode.specs.declared.alu_form.Form.{Form}
use Rattle.decode.specs.declared.alu_form.Form.TheVariants.{Copies, Moves, Sets, Computes}
use Rattle.decode.specs.declared.attributes.Attributes.{Attributes}
use Rattle.decode.specs.AluForm.{form_of}

-- the register that an operand reads; None for an immediate
abbrev pub register_of : Operand → Option Reg
register_of (operand.Imm n) = None
register_of (operand.Reg r) = Some r

-- ---- rows: `number` and `operand` are read as numbers; `copied` is read, whatever it holds; `moved` is moved by so
-- many bytes if it is a place

-- no register is read or written, and no bytes are reached
abbrev pub nothing : Attributes
nothing = record { number = None; operand = None; copied = None; moved = None; access = None; written = None }

-- dst gets a number; the registers from which it is computed, if any, are read as numbers
abbrev pub computes : Option Reg → Option Reg → Reg → Attributes
computes number o dst = record nothing { number = number; operand = o; written = Some dst }

-- dst gets n bytes as a number; they begin `at` bytes after the place in base
abbrev pub loads : ℕ → Reg → Reg → ℤ → Attributes
loads n dst base at =
    record nothing { written = Some dst; access = Some (record { base = base; offset = at; bytes = n; stores = false }) }

-- n bytes are written `offset` bytes after the place in base; o is the stored register, None for an immediate
abbrev pub stores : ℕ → Reg → ℤ → Option Reg → Attributes
stores n base offset o =
    record nothing { operand = o; access = Some (record { base = base; offset = offset; bytes = n; stores = true }) }

-- arithmetic writes dst; by its form it copies a register, moves dst, or computes a number
abbrev pub alu_attributes : Form → Reg → Operand → Attributes
alu_attributes (Copies src) dst o = record nothing { copied = Some src; written = Some dst }
alu_attributes (Moves z) dst o = record nothing { moved = Some (dst, z); written = Some dst }
alu_attributes Sets dst o = computes None (register_of o) dst
alu_attributes Computes dst o = computes (Some dst) (register_of o) dst

-- the attributes of an instruction, without the arguments of a helper and without r0 at the end
abbrev pub attributes_of : Insn → Attributes
attributes_of (Alu op width dst o) = alu_attributes (form_of op width o) dst o
attributes_of (MovSx extension dst src) = computes None (Some src) dst
attributes_of (Neg width dst) = computes None (Some dst) dst
attributes_of (End order bits dst) = computes None (Some dst) dst
attributes_of (Jump offset) = nothing
attributes_of (JumpLong distance) = nothing
attributes_of (JumpIf condition width dst o offset) = record nothing { number = Some dst; operand = register_of o }
attributes_of (Call helper) = nothing
attributes_of Exit = nothing
attributes_of (Load size dst src offset) = loads (bytes_in size) dst src offset
attributes_of (LoadSx size dst src offset) = loads (bytes_in (loaded size)) dst src offset
attributes_of (StoreReg size dst src offset) = stores (bytes_in size) dst offset (Some src)
attributes_of (StoreImm size dst offset imm) = stores (bytes_in size) dst offset None
attributes_of (Wide dst value) = computes None None dst
