-- The flags that instructions left on a processor.
use Rattle.std.specs.Prelude.{◌-◌, ◌^◌, List, [], ◌∷◌, true, false}
use Rattle.decode.specs.declared.insn.Width.TheVariants.{W32, W64}
use Rattle.x86.specs.Machine.{Word, Known}
use Rattle.x86.specs.Worked.{Row, Reg, Sets, octets}
use Rattle.x86.specs.declared.instruction.Alu.TheVariants as alu
use Rattle.x86.specs.declared.instruction.Instr.TheVariants as instr

-- what a conditional jump reads: carry, zero, sign and overflow
abbrev pub comparisons : List Row
comparisons =
    -- cmp r9, r8
    (instr.Alu alu.Cmp W64 9 8 ∷ [], octets 3 0x4d39c1, Reg 9 (Word 0x5) ∷ Reg 8 (Word 0x7) ∷ [], Sets (Known true false true false) ∷ []) ∷
    -- cmp ecx, edi
    (instr.Alu alu.Cmp W32 1 7 ∷ [], octets 2 0x39f9, Reg 1 (Word 0x5) ∷ Reg 7 (Word 0x7) ∷ [], Sets (Known true false true false) ∷ []) ∷
    -- cmp r9, r8
    (
      instr.Alu alu.Cmp W64 9 8 ∷ [],
      octets 3 0x4d39c1,
      Reg 9 (Word 0x7) ∷ Reg 8 (Word 0x5) ∷ [],
      Sets (Known false false false false) ∷ [],
    ) ∷
    -- cmp ecx, edi
    (instr.Alu alu.Cmp W32 1 7 ∷ [], octets 2 0x39f9, Reg 1 (Word 0x7) ∷ Reg 7 (Word 0x5) ∷ [], Sets (Known false false false false) ∷ []) ∷
    -- cmp r9, r8
    (
      instr.Alu alu.Cmp W64 9 8 ∷ [],
      octets 3 0x4d39c1,
      Reg 9 (Word 0x6) ∷ Reg 8 (Word 0x6) ∷ [],
      Sets (Known false true false false) ∷ [],
    ) ∷
    -- cmp ecx, edi
    (instr.Alu alu.Cmp W32 1 7 ∷ [], octets 2 0x39f9, Reg 1 (Word 0x6) ∷ Reg 7 (Word 0x6) ∷ [], Sets (Known false true false false) ∷ []) ∷
    -- cmp r9, r8
    (
      instr.Alu alu.Cmp W64 9 8 ∷ [],
      octets 3 0x4d39c1,
      Reg 9 (Word 0x8000000000000000) ∷ Reg 8 (Word 0x1) ∷ [],
      Sets (Known false false false true) ∷ [],
    ) ∷
    -- cmp ecx, edi
    (
      instr.Alu alu.Cmp W32 1 7 ∷ [],
      octets 2 0x39f9,
      Reg 1 (Word 0x8000000000000000) ∷ Reg 7 (Word 0x1) ∷ [],
      Sets (Known true false true false) ∷ [],
    ) ∷
    -- cmp r9, r8
    (
      instr.Alu alu.Cmp W64 9 8 ∷ [],
      octets 3 0x4d39c1,
      Reg 9 (Word 0x1) ∷ Reg 8 (Word 0x8000000000000000) ∷ [],
      Sets (Known true false true true) ∷ [],
    ) ∷
    -- cmp ecx, edi
    (
      instr.Alu alu.Cmp W32 1 7 ∷ [],
      octets 2 0x39f9,
      Reg 1 (Word 0x1) ∷ Reg 7 (Word 0x8000000000000000) ∷ [],
      Sets (Known false false false false) ∷ [],
    ) ∷
    -- cmp r9, r8
    (
      instr.Alu alu.Cmp W64 9 8 ∷ [],
      octets 3 0x4d39c1,
      Reg 9 (Word 0xffffffffffffffff) ∷ Reg 8 (Word 0x1) ∷ [],
      Sets (Known false false true false) ∷ [],
    ) ∷
    -- cmp ecx, edi
    (
      instr.Alu alu.Cmp W32 1 7 ∷ [],
      octets 2 0x39f9,
      Reg 1 (Word 0xffffffffffffffff) ∷ Reg 7 (Word 0x1) ∷ [],
      Sets (Known false false true false) ∷ [],
    ) ∷
    -- cmp r9, r8
    (
      instr.Alu alu.Cmp W64 9 8 ∷ [],
      octets 3 0x4d39c1,
      Reg 9 (Word 0x100000005) ∷ Reg 8 (Word 0x6) ∷ [],
      Sets (Known false false false false) ∷ [],
    ) ∷
    -- cmp ecx, edi
    (
      instr.Alu alu.Cmp W32 1 7 ∷ [],
      octets 2 0x39f9,
      Reg 1 (Word 0x100000005) ∷ Reg 7 (Word 0x6) ∷ [],
      Sets (Known true false true false) ∷ [],
    ) ∷
    -- cmp r9, r8
    (
      instr.Alu alu.Cmp W64 9 8 ∷ [],
      octets 3 0x4d39c1,
      Reg 9 (Word 0x80000000) ∷ Reg 8 (Word 0x7fffffff) ∷ [],
      Sets (Known false false false false) ∷ [],
    ) ∷
    -- cmp ecx, edi
    (
      instr.Alu alu.Cmp W32 1 7 ∷ [],
      octets 2 0x39f9,
      Reg 1 (Word 0x80000000) ∷ Reg 7 (Word 0x7fffffff) ∷ [],
      Sets (Known false false false true) ∷ [],
    ) ∷
    -- cmp r9, r8
    (
      instr.Alu alu.Cmp W64 9 8 ∷ [],
      octets 3 0x4d39c1,
      Reg 9 (Word 0x0) ∷ Reg 8 (Word 0x80000000) ∷ [],
      Sets (Known true false true false) ∷ [],
    ) ∷
    -- cmp ecx, edi
    (
      instr.Alu alu.Cmp W32 1 7 ∷ [],
      octets 2 0x39f9,
      Reg 1 (Word 0x0) ∷ Reg 7 (Word 0x80000000) ∷ [],
      Sets (Known true false true true) ∷ [],
    ) ∷
    -- cmp r9, r8
    (
      instr.Alu alu.Cmp W64 9 8 ∷ [],
      octets 3 0x4d39c1,
      Reg 9 (Word 0x8000000000000000) ∷ Reg 8 (Word 0x0) ∷ [],
      Sets (Known false false true false) ∷ [],
    ) ∷
    -- cmp ecx, edi
    (
      instr.Alu alu.Cmp W32 1 7 ∷ [],
      octets 2 0x39f9,
      Reg 1 (Word 0x8000000000000000) ∷ Reg 7 (Word 0x0) ∷ [],
      Sets (Known false true false false) ∷ [],
    ) ∷
    -- cmp r9, r8
    (
      instr.Alu alu.Cmp W64 9 8 ∷ [],
      octets 3 0x4d39c1,
      Reg 9 (Word 0x80000000) ∷ Reg 8 (Word 0x0) ∷ [],
      Sets (Known false false false false) ∷ [],
    ) ∷
    -- cmp ecx, edi
    (
      instr.Alu alu.Cmp W32 1 7 ∷ [],
      octets 2 0x39f9,
      Reg 1 (Word 0x80000000) ∷ Reg 7 (Word 0x0) ∷ [],
      Sets (Known false false true false) ∷ [],
    ) ∷
    -- cmp rcx, -1
    (instr.AluImm alu.Cmp W64 1 (2 ^ 64 - 1) ∷ [], octets 4 0x4883f9ff, Reg 1 (Word 0x0) ∷ [], Sets (Known true false false false) ∷ []) ∷
    -- cmp r12d, -1
    (instr.AluImm alu.Cmp W32 12 (2 ^ 64 - 1) ∷ [], octets 4 0x4183fcff, Reg 12 (Word 0x0) ∷ [], Sets (Known true false false false) ∷ []) ∷
    -- cmp rdi, 1
    (instr.AluImm alu.Cmp W64 7 1 ∷ [], octets 4 0x4883ff01, Reg 7 (Word 0x0) ∷ [], Sets (Known true false true false) ∷ []) ∷
    -- cmp rcx, -1
    (instr.AluImm alu.Cmp W64 1 (2 ^ 64 - 1) ∷ [], octets 4 0x4883f9ff, Reg 1 (Word 0x1) ∷ [], Sets (Known true false false false) ∷ []) ∷
    -- cmp r12d, -1
    (instr.AluImm alu.Cmp W32 12 (2 ^ 64 - 1) ∷ [], octets 4 0x4183fcff, Reg 12 (Word 0x1) ∷ [], Sets (Known true false false false) ∷ []) ∷
    -- cmp rdi, 1
    (instr.AluImm alu.Cmp W64 7 1 ∷ [], octets 4 0x4883ff01, Reg 7 (Word 0x1) ∷ [], Sets (Known false true false false) ∷ []) ∷
    -- cmp rcx, -1
    (
      instr.AluImm alu.Cmp W64 1 (2 ^ 64 - 1) ∷ [],
      octets 4 0x4883f9ff,
      Reg 1 (Word 0xffffffffffffffff) ∷ [],
      Sets (Known false true false false) ∷ [],
    ) ∷
    -- cmp r12d, -1
    (
      instr.AluImm alu.Cmp W32 12 (2 ^ 64 - 1) ∷ [],
      octets 4 0x4183fcff,
      Reg 12 (Word 0xffffffffffffffff) ∷ [],
      Sets (Known false true false false) ∷ [],
    ) ∷
    -- cmp rdi, 1
    (
      instr.AluImm alu.Cmp W64 7 1 ∷ [],
      octets 4 0x4883ff01,
      Reg 7 (Word 0xffffffffffffffff) ∷ [],
      Sets (Known false false true false) ∷ [],
    ) ∷
    -- cmp rcx, -1
    (
      instr.AluImm alu.Cmp W64 1 (2 ^ 64 - 1) ∷ [],
      octets 4 0x4883f9ff,
      Reg 1 (Word 0xffffffff) ∷ [],
      Sets (Known true false false false) ∷ [],
    ) ∷
    -- cmp r12d, -1
    (
      instr.AluImm alu.Cmp W32 12 (2 ^ 64 - 1) ∷ [],
      octets 4 0x4183fcff,
      Reg 12 (Word 0xffffffff) ∷ [],
      Sets (Known false true false false) ∷ [],
    ) ∷
    -- cmp rdi, 1
    (instr.AluImm alu.Cmp W64 7 1 ∷ [], octets 4 0x4883ff01, Reg 7 (Word 0xffffffff) ∷ [], Sets (Known false false false false) ∷ []) ∷
    -- cmp rcx, -1
    (
      instr.AluImm alu.Cmp W64 1 (2 ^ 64 - 1) ∷ [],
      octets 4 0x4883f9ff,
      Reg 1 (Word 0x8000000000000000) ∷ [],
      Sets (Known true false true false) ∷ [],
    ) ∷
    -- cmp r12d, -1
    (
      instr.AluImm alu.Cmp W32 12 (2 ^ 64 - 1) ∷ [],
      octets 4 0x4183fcff,
      Reg 12 (Word 0x8000000000000000) ∷ [],
      Sets (Known true false false false) ∷ [],
    ) ∷
    -- cmp rdi, 1
    (
      instr.AluImm alu.Cmp W64 7 1 ∷ [],
      octets 4 0x4883ff01,
      Reg 7 (Word 0x8000000000000000) ∷ [],
      Sets (Known false false false true) ∷ [],
    ) ∷
    -- cmp r8, 256
    (instr.AluImm alu.Cmp W64 8 256 ∷ [], octets 7 0x4981f800010000, Reg 8 (Word 0xff) ∷ [], Sets (Known true false true false) ∷ []) ∷
    -- cmp r8, -2147483648
    (
      instr.AluImm alu.Cmp W64 8 (2 ^ 64 - 2 ^ 31) ∷ [],
      octets 7 0x4981f800000080,
      Reg 8 (Word 0x80000000) ∷ [],
      Sets (Known true false false false) ∷ [],
    ) ∷
    -- test rbx, r14
    (
      instr.Test W64 3 14 ∷ [],
      octets 3 0x4c85f3,
      Reg 3 (Word 0x8000000000000001) ∷ Reg 14 (Word 0x8000000000000002) ∷ [],
      Sets (Known false false true false) ∷ [],
    ) ∷
    -- test r9, rax
    (instr.Test W64 9 0 ∷ [], octets 3 0x4985c1, Reg 9 (Word 0xc) ∷ Reg 0 (Word 0x3) ∷ [], Sets (Known false true false false) ∷ []) ∷
    -- test ecx, esi
    (
      instr.Test W32 1 6 ∷ [],
      octets 2 0x85f1,
      Reg 1 (Word 0x8000000080000000) ∷ Reg 6 (Word 0xffffffffffffffff) ∷ [],
      Sets (Known false false true false) ∷ [],
    ) ∷
    -- test ecx, esi
    (
      instr.Test W32 1 6 ∷ [],
      octets 2 0x85f1,
      Reg 1 (Word 0x8000000000000000) ∷ Reg 6 (Word 0xffffffffffffffff) ∷ [],
      Sets (Known false true false false) ∷ [],
    ) ∷
    -- test r10, -2147483648
    (
      instr.TestImm W64 10 (2 ^ 64 - 2 ^ 31) ∷ [],
      octets 7 0x49f7c200000080,
      Reg 10 (Word 0x8000000000000000) ∷ [],
      Sets (Known false false true false) ∷ [],
    ) ∷
    -- test rbx, 6
    (instr.TestImm W64 3 6 ∷ [], octets 7 0x48f7c306000000, Reg 3 (Word 0x9) ∷ [], Sets (Known false true false false) ∷ []) ∷
    -- test ebx, 0x80000000
    (
      instr.TestImm W32 3 (2 ^ 64 - 2 ^ 31) ∷ [],
      octets 6 0xf7c300000080,
      Reg 3 (Word 0x8000000080000000) ∷ [],
      Sets (Known false false true false) ∷ [],
    ) ∷
    -- test r15d, 6
    (
      instr.TestImm W32 15 6 ∷ [],
      octets 7 0x41f7c706000000,
      Reg 15 (Word 0x8000000000000004) ∷ [],
      Sets (Known false false false false) ∷ [],
    ) ∷
    []
