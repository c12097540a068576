-- What instructions left on a processor, and their bytes as GNU as writes them from the text above: made by
-- examples/native/forms, as the three files after this one.
use Rattle.std.specs.Prelude.{◌-◌, ◌^◌, List, [], ◌∷◌, true, false}
use Rattle.decode.specs.declared.insn.Width.TheVariants.{W32, W64}
use Rattle.x86.specs.Machine.{State, Word, At, Array, Record, Known, Unknown}
use Rattle.x86.specs.Worked.{Row, Reg, Pushed, Sets, octets}
use Rattle.decode.specs.declared.insn.Extension.TheVariants as extension
use Rattle.x86.specs.declared.instruction.Alu.TheVariants as alu
use Rattle.x86.specs.declared.instruction.Instr.TheVariants as instr

-- where each row begins
abbrev pub begin : State
begin = record {
  regs = Word 0x9e3779b97f4a7c15 ∷ Word 0x3c6ef372fe94f82a ∷ Word 0xdaa66d2c7ddf743f ∷ Word 0x78dde6e5fd29f054 ∷ Word 0x0 ∷
      Word 0xb54cda58fbbee87e ∷ Word 0x538454127b096493 ∷ Word 0xf1bbcdcbfa53e0a8 ∷ Word 0x8ff34785799e5cbd ∷ Word 0x2e2ac13ef8e8d8d2 ∷
      Word 0xcc623af8783354e7 ∷ Word 0x6a99b4b1f77dd0fc ∷ Word 0x8d12e6b76c84d11 ∷ Word 0xa708a824f612c926 ∷ Word 0x454021de755d453b ∷
      Word 0xe3779b97f4a7c150 ∷ [];
  long = octets 16 0xc8e5021f3c597693b0cdea0724415e7b;
  flags = Known true false true true;
  array = octets 48 0x81a6cbf0153a5f84a9cef3183d6287acd1f61b40658aafd4f91e43688db2d7fc21466b90b5daff24496e93b8dd02274c;
  record_ = octets 48 0x073c71a6db10457aafe4194e83b8ed22578cc1f62b6095caff34699ed3083d72a7dc11467bb0e51a4f84b9ee23588dc2;
  pushed = [];
}

-- copies, numbers, byte orders, addresses and the stack; the flags stay
abbrev pub moves : List Row
moves =
    -- mov r15, rsi
    (instr.Mov W64 15 6 ∷ [], octets 3 0x4989f7, [], Reg 15 (Word 0x538454127b096493) ∷ []) ∷
    -- mov r8, r12
    (instr.Mov W64 8 12 ∷ [], octets 3 0x4d89e0, Reg 12 (At Record 3) ∷ [], Reg 8 (At Record 3) ∷ []) ∷
    -- mov ecx, r9d
    (instr.Mov W32 1 9 ∷ [], octets 3 0x4489c9, [], Reg 1 (Word 0xf8e8d8d2) ∷ []) ∷
    -- mov ebx, ebx
    (instr.Mov W32 3 3 ∷ [], octets 2 0x89db, [], Reg 3 (Word 0xfd29f054) ∷ []) ∷
    -- mov eax, 0xfffffffe
    (instr.MovImm 0 0xfffffffe ∷ [], octets 5 0xb8feffffff, [], Reg 0 (Word 0xfffffffe) ∷ []) ∷
    -- mov r11d, 7
    (instr.MovImm 11 7 ∷ [], octets 6 0x41bb07000000, [], Reg 11 (Word 0x7) ∷ []) ∷
    -- mov rcx, -5
    (instr.MovSigned 1 (2 ^ 64 - 5) ∷ [], octets 7 0x48c7c1fbffffff, [], Reg 1 (Word 0xfffffffffffffffb) ∷ []) ∷
    -- mov r12, 0x7fffffff
    (instr.MovSigned 12 0x7fffffff ∷ [], octets 7 0x49c7c4ffffff7f, [], Reg 12 (Word 0x7fffffff) ∷ []) ∷
    -- movabs r14, 0x8123456789abcdef
    (instr.MovWide 14 0x8123456789abcdef ∷ [], octets 10 0x49beefcdab8967452381, [], Reg 14 (Word 0x8123456789abcdef) ∷ []) ∷
    -- movabs rsi, 5
    (instr.MovWide 6 5 ∷ [], octets 10 0x48be0500000000000000, [], Reg 6 (Word 0x5) ∷ []) ∷
    -- movsx ecx, sil
    (instr.MovSx extension.W32From8 1 6 ∷ [], octets 4 0x400fbece, Reg 6 (Word 0x1122334455667780) ∷ [], Reg 1 (Word 0xffffff80) ∷ []) ∷
    -- movsx ecx, bpl
    (instr.MovSx extension.W32From8 1 5 ∷ [], octets 4 0x400fbecd, Reg 5 (Word 0xffffffffffffff7f) ∷ [], Reg 1 (Word 0x7f) ∷ []) ∷
    -- movsx esi, bl
    (instr.MovSx extension.W32From8 6 3 ∷ [], octets 3 0x0fbef3, Reg 3 (Word 0xffffffffffffff80) ∷ [], Reg 6 (Word 0xffffff80) ∷ []) ∷
    -- movsx r9d, bx
    (instr.MovSx extension.W32From16 9 3 ∷ [], octets 4 0x440fbfcb, Reg 3 (Word 0x112233445566f788) ∷ [], Reg 9 (Word 0xfffff788) ∷ []) ∷
    -- movsx rbx, r14b
    (
      instr.MovSx extension.W64From8 3 14 ∷ [],
      octets 4 0x490fbede,
      Reg 14 (Word 0x11223344556677ff) ∷ [],
      Reg 3 (Word 0xffffffffffffffff) ∷ [],
    ) ∷
    -- movsx r8, di
    (
      instr.MovSx extension.W64From16 8 7 ∷ [],
      octets 4 0x4c0fbfc7,
      Reg 7 (Word 0x1122334455668000) ∷ [],
      Reg 8 (Word 0xffffffffffff8000) ∷ [],
    ) ∷
    -- movsxd r10, eax
    (
      instr.MovSx extension.W64From32 10 0 ∷ [],
      octets 3 0x4c63d0,
      Reg 0 (Word 0x1122334480000001) ∷ [],
      Reg 10 (Word 0xffffffff80000001) ∷ [],
    ) ∷
    -- movsxd rax, r10d
    (instr.MovSx extension.W64From32 0 10 ∷ [], octets 3 0x4963c2, Reg 10 (Word 0xffffffff7fffffff) ∷ [], Reg 0 (Word 0x7fffffff) ∷ []) ∷
    -- movzx r13d, r10w
    (instr.MovZx 13 10 ∷ [], octets 4 0x450fb7ea, Reg 10 (Word 0xffffffffffff8001) ∷ [], Reg 13 (Word 0x8001) ∷ []) ∷
    -- movzx eax, ax
    (instr.MovZx 0 0 ∷ [], octets 3 0x0fb7c0, [], Reg 0 (Word 0x7c15) ∷ []) ∷
    -- bswap esi
    (instr.Swap W32 6 ∷ [], octets 2 0x0fce, [], Reg 6 (Word 0x9364097b) ∷ []) ∷
    -- bswap r9
    (instr.Swap W64 9 ∷ [], octets 3 0x490fc9, [], Reg 9 (Word 0xd2d8e8f83ec12a2e) ∷ []) ∷
    -- lea rbp, [rdi + 384]
    (instr.Lea 5 7 384 ∷ [], octets 7 0x488daf80010000, Reg 7 (At Array 0) ∷ [], Reg 5 (At Array 384) ∷ []) ∷
    -- lea rsi, [rbp - 384]
    (instr.Lea 6 5 (2 ^ 32 - 384) ∷ [], octets 7 0x488db580feffff, Reg 5 (At Array 384) ∷ [], Reg 6 (At Array 0) ∷ []) ∷
    -- lea r11, [r11 + 5]
    (instr.Lea 11 11 5 ∷ [], octets 4 0x4d8d5b05, Reg 11 (Word 0xfffffffffffffffe) ∷ [], Reg 11 (Word 0x3) ∷ []) ∷
    -- lea rax, [r12 + 8]
    (instr.Lea 0 12 8 ∷ [], octets 5 0x498d442408, Reg 12 (At Record 1) ∷ [], Reg 0 (At Record 9) ∷ []) ∷
    -- lea rdx, [r15 + rdx + 2240]
    (
      instr.LeaBy 2 15 2 2240 ∷ [],
      octets 8 0x498d9417c0080000,
      Reg 15 (At Record 0) ∷ Reg 2 (Word 0x110) ∷ [],
      Reg 2 (At Record 2512) ∷ [],
    ) ∷
    -- lea r10, [r12 + r9 - 8]
    (
      instr.LeaBy 10 12 9 (2 ^ 32 - 8) ∷ [],
      octets 5 0x4f8d540cf8,
      Reg 12 (At Array 4) ∷ Reg 9 (Word 0xffffffffffffffff) ∷ [],
      Reg 10 (At Array 18446744073709551611) ∷ [],
    ) ∷
    -- lea rbx, [rax + rcx + 127]
    (instr.LeaBy 3 0 1 127 ∷ [], octets 5 0x488d5c087f, [], Reg 3 (Word 0xdaa66d2c7ddf74be) ∷ []) ∷
    -- push rbx; push r12; pop rax; pop r13
    (
      instr.Push 3 ∷ instr.Push 12 ∷ instr.Pop 0 ∷ instr.Pop 13 ∷ [],
      octets 6 0x53415458415d,
      Reg 12 (At Array 9) ∷ [],
      Reg 0 (At Array 9) ∷
          Reg 13 (Word 0x78dde6e5fd29f054) ∷ [],
    ) ∷
    -- push r15; push rcx
    (instr.Push 15 ∷ instr.Push 1 ∷ [], octets 3 0x415751, [], Pushed ((Word 0x3c6ef372fe94f82a) ∷ (Word 0xe3779b97f4a7c150) ∷ []) ∷ []) ∷
    []

-- sums, bits, products and negations; nothing is said of the flags
abbrev pub arithmetic : List Row
arithmetic =
    -- add r9, r8
    (instr.Alu alu.Add W64 9 8 ∷ [], octets 3 0x4d01c1, [], Reg 9 (Word 0xbe1e08c47287358f) ∷ Sets (Unknown) ∷ []) ∷
    -- add eax, ecx
    (instr.Alu alu.Add W32 0 1 ∷ [], octets 2 0x01c8, [], Reg 0 (Word 0x7ddf743f) ∷ Sets (Unknown) ∷ []) ∷
    -- add rdx, r14
    (
      instr.Alu alu.Add W64 2 14 ∷ [],
      octets 3 0x4c01f2,
      Reg 2 (Word 0x0) ∷ Reg 14 (Word 0xffffffffffffffff) ∷ [],
      Reg 2 (Word 0xffffffffffffffff) ∷ Sets (Unknown) ∷ [],
    ) ∷
    -- add rbx, -1
    (instr.AluImm alu.Add W64 3 0xffffffffffffffff ∷ [], octets 4 0x4883c3ff, [], Reg 3 (Word 0x78dde6e5fd29f053) ∷ Sets (Unknown) ∷ []) ∷
    -- add r13d, -1
    (instr.AluImm alu.Add W32 13 0xffffffffffffffff ∷ [], octets 4 0x4183c5ff, [], Reg 13 (Word 0xf612c925) ∷ Sets (Unknown) ∷ []) ∷
    -- add r10, 305419896
    (instr.AluImm alu.Add W64 10 0x12345678 ∷ [], octets 7 0x4981c278563412, [], Reg 10 (Word 0xcc623af88a67ab5f) ∷ Sets (Unknown) ∷ []) ∷
    -- add esi, 305419896
    (instr.AluImm alu.Add W32 6 0x12345678 ∷ [], octets 6 0x81c678563412, [], Reg 6 (Word 0x8d3dbb0b) ∷ Sets (Unknown) ∷ []) ∷
    -- or r9, r8
    (instr.Alu alu.Or W64 9 8 ∷ [], octets 3 0x4d09c1, [], Reg 9 (Word 0xaffbc7bff9fedcff) ∷ Sets (Unknown) ∷ []) ∷
    -- or eax, ecx
    (instr.Alu alu.Or W32 0 1 ∷ [], octets 2 0x09c8, [], Reg 0 (Word 0xffdefc3f) ∷ Sets (Unknown) ∷ []) ∷
    -- or rdx, r14
    (
      instr.Alu alu.Or W64 2 14 ∷ [],
      octets 3 0x4c09f2,
      Reg 2 (Word 0x0) ∷ Reg 14 (Word 0xffffffffffffffff) ∷ [],
      Reg 2 (Word 0xffffffffffffffff) ∷ Sets (Unknown) ∷ [],
    ) ∷
    -- or rbx, 85
    (instr.AluImm alu.Or W64 3 0x55 ∷ [], octets 4 0x4883cb55, [], Reg 3 (Word 0x78dde6e5fd29f055) ∷ Sets (Unknown) ∷ []) ∷
    -- or r13d, 85
    (instr.AluImm alu.Or W32 13 0x55 ∷ [], octets 4 0x4183cd55, [], Reg 13 (Word 0xf612c977) ∷ Sets (Unknown) ∷ []) ∷
    -- or r10, -2147483648
    (
      instr.AluImm alu.Or W64 10 0xffffffff80000000 ∷ [],
      octets 7 0x4981ca00000080,
      [],
      Reg 10 (Word 0xfffffffff83354e7) ∷
          Sets (Unknown) ∷ [],
    ) ∷
    -- or esi, -2147483648
    (instr.AluImm alu.Or W32 6 0xffffffff80000000 ∷ [], octets 6 0x81ce00000080, [], Reg 6 (Word 0xfb096493) ∷ Sets (Unknown) ∷ []) ∷
    -- and r9, r8
    (instr.Alu alu.And W64 9 8 ∷ [], octets 3 0x4d21c1, [], Reg 9 (Word 0xe22410478885890) ∷ Sets (Unknown) ∷ []) ∷
    -- and eax, ecx
    (instr.Alu alu.And W32 0 1 ∷ [], octets 2 0x21c8, [], Reg 0 (Word 0x7e007800) ∷ Sets (Unknown) ∷ []) ∷
    -- and rdx, r14
    (instr.Alu alu.And W64 2 14 ∷ [], octets 3 0x4c21f2, Reg 2 (Word 0x0) ∷ Reg 14 (Word 0xffffffffffffffff) ∷ [], Sets (Unknown) ∷ []) ∷
    -- and rbx, -16
    (instr.AluImm alu.And W64 3 0xfffffffffffffff0 ∷ [], octets 4 0x4883e3f0, [], Reg 3 (Word 0x78dde6e5fd29f050) ∷ Sets (Unknown) ∷ []) ∷
    -- and r13d, -16
    (instr.AluImm alu.And W32 13 0xfffffffffffffff0 ∷ [], octets 4 0x4183e5f0, [], Reg 13 (Word 0xf612c920) ∷ Sets (Unknown) ∷ []) ∷
    -- and r10, 2131693327
    (instr.AluImm alu.And W64 10 0x7f0f0f0f ∷ [], octets 7 0x4981e20f0f0f7f, [], Reg 10 (Word 0x78030407) ∷ Sets (Unknown) ∷ []) ∷
    -- and esi, 2131693327
    (instr.AluImm alu.And W32 6 0x7f0f0f0f ∷ [], octets 6 0x81e60f0f0f7f, [], Reg 6 (Word 0x7b090403) ∷ Sets (Unknown) ∷ []) ∷
    -- sub r9, r8
    (instr.Alu alu.Sub W64 9 8 ∷ [], octets 3 0x4d29c1, [], Reg 9 (Word 0x9e3779b97f4a7c15) ∷ Sets (Unknown) ∷ []) ∷
    -- sub eax, ecx
    (instr.Alu alu.Sub W32 0 1 ∷ [], octets 2 0x29c8, [], Reg 0 (Word 0x80b583eb) ∷ Sets (Unknown) ∷ []) ∷
    -- sub rdx, r14
    (
      instr.Alu alu.Sub W64 2 14 ∷ [],
      octets 3 0x4c29f2,
      Reg 2 (Word 0x0) ∷ Reg 14 (Word 0xffffffffffffffff) ∷ [],
      Reg 2 (Word 0x1) ∷
          Sets (Unknown) ∷ [],
    ) ∷
    -- sub rbx, 127
    (instr.AluImm alu.Sub W64 3 0x7f ∷ [], octets 4 0x4883eb7f, [], Reg 3 (Word 0x78dde6e5fd29efd5) ∷ Sets (Unknown) ∷ []) ∷
    -- sub r13d, 127
    (instr.AluImm alu.Sub W32 13 0x7f ∷ [], octets 4 0x4183ed7f, [], Reg 13 (Word 0xf612c8a7) ∷ Sets (Unknown) ∷ []) ∷
    -- sub r10, 128
    (instr.AluImm alu.Sub W64 10 0x80 ∷ [], octets 7 0x4981ea80000000, [], Reg 10 (Word 0xcc623af878335467) ∷ Sets (Unknown) ∷ []) ∷
    -- sub esi, 128
    (instr.AluImm alu.Sub W32 6 0x80 ∷ [], octets 6 0x81ee80000000, [], Reg 6 (Word 0x7b096413) ∷ Sets (Unknown) ∷ []) ∷
    -- xor r9, r8
    (instr.Alu alu.Xor W64 9 8 ∷ [], octets 3 0x4d31c1, [], Reg 9 (Word 0xa1d986bb8176846f) ∷ Sets (Unknown) ∷ []) ∷
    -- xor eax, ecx
    (instr.Alu alu.Xor W32 0 1 ∷ [], octets 2 0x31c8, [], Reg 0 (Word 0x81de843f) ∷ Sets (Unknown) ∷ []) ∷
    -- xor rdx, r14
    (
      instr.Alu alu.Xor W64 2 14 ∷ [],
      octets 3 0x4c31f2,
      Reg 2 (Word 0x0) ∷ Reg 14 (Word 0xffffffffffffffff) ∷ [],
      Reg 2 (Word 0xffffffffffffffff) ∷ Sets (Unknown) ∷ [],
    ) ∷
    -- xor rbx, -128
    (instr.AluImm alu.Xor W64 3 0xffffffffffffff80 ∷ [], octets 4 0x4883f380, [], Reg 3 (Word 0x8722191a02d60fd4) ∷ Sets (Unknown) ∷ []) ∷
    -- xor r13d, -128
    (instr.AluImm alu.Xor W32 13 0xffffffffffffff80 ∷ [], octets 4 0x4183f580, [], Reg 13 (Word 0x9ed36a6) ∷ Sets (Unknown) ∷ []) ∷
    -- xor r10, 2147483647
    (instr.AluImm alu.Xor W64 10 0x7fffffff ∷ [], octets 7 0x4981f2ffffff7f, [], Reg 10 (Word 0xcc623af807ccab18) ∷ Sets (Unknown) ∷ []) ∷
    -- xor esi, 2147483647
    (instr.AluImm alu.Xor W32 6 0x7fffffff ∷ [], octets 6 0x81f6ffffff7f, [], Reg 6 (Word 0x4f69b6c) ∷ Sets (Unknown) ∷ []) ∷
    -- xor eax, eax
    (instr.Alu alu.Xor W32 0 0 ∷ [], octets 2 0x31c0, [], Reg 0 (Word 0x0) ∷ Sets (Unknown) ∷ []) ∷
    -- xor r11d, r11d
    (instr.Alu alu.Xor W32 11 11 ∷ [], octets 3 0x4531db, [], Reg 11 (Word 0x0) ∷ Sets (Unknown) ∷ []) ∷
    -- imul rax, r11
    (instr.Mul W64 0 11 ∷ [], octets 4 0x490fafc3, [], Reg 0 (Word 0x77321da1ab6434ac) ∷ Sets (Unknown) ∷ []) ∷
    -- imul r9d, ebx
    (instr.Mul W32 9 3 ∷ [], octets 4 0x440fafcb, [], Reg 9 (Word 0x3b4e04e8) ∷ Sets (Unknown) ∷ []) ∷
    -- imul rdx, rcx, 272
    (instr.MulImm W64 2 1 272 ∷ [], octets 7 0x4869d110010000, [], Reg 2 (Word 0x35e2aa2e7e47aca0) ∷ Sets (Unknown) ∷ []) ∷
    -- imul r12, r12, -1000
    (instr.MulImm W64 12 12 (2 ^ 64 - 1000) ∷ [], octets 7 0x4d69e418fcffff, [], Reg 12 (Word 0x8ee2ac380192f598) ∷ Sets (Unknown) ∷ []) ∷
    -- imul esi, r8d, -1000
    (instr.MulImm W32 6 8 (2 ^ 64 - 1000) ∷ [], octets 7 0x4169f018fcffff, [], Reg 6 (Word 0xed65bdb8) ∷ Sets (Unknown) ∷ []) ∷
    -- neg rdi
    (instr.Neg W64 7 ∷ [], octets 3 0x48f7df, [], Reg 7 (Word 0xe44323405ac1f58) ∷ Sets (Unknown) ∷ []) ∷
    -- neg r13d
    (instr.Neg W32 13 ∷ [], octets 3 0x41f7dd, [], Reg 13 (Word 0x9ed36da) ∷ Sets (Unknown) ∷ []) ∷
    -- neg ecx
    (instr.Neg W32 1 ∷ [], octets 2 0xf7d9, Reg 1 (Word 0x8000000000000000) ∷ [], Reg 1 (Word 0x0) ∷ Sets (Unknown) ∷ []) ∷
    []
