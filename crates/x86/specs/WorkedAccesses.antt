-- Instructions that reach memory, and jumps.
use Rattle.std.specs.Prelude.{◌-◌, ◌^◌, ℕ, List, [], ◌∷◌}
use Rattle.x86.specs.Machine.{Word, At, Array, Record}
use Rattle.x86.specs.Worked.{Row, Asked, Reg, ArrayAt, RecordAt, Long, octets}
use Rattle.decode.specs.declared.insn.Size.TheVariants as size
use Rattle.decode.specs.declared.insn.SignedSize.TheVariants as signed
use Rattle.x86.specs.declared.instruction.ConditionCode.TheVariants as condition
use Rattle.x86.specs.declared.instruction.Instr.TheVariants as instr

-- loads, stores and the copy of bytes; the flags stay
abbrev pub memory : List Row
memory =
    -- movzx eax, byte ptr [rbp - 384]
    (instr.Load size.Byte 0 5 (2 ^ 32 - 384) ∷ [], octets 7 0x0fb68580feffff, Reg 5 (At Array 400) ∷ [], Reg 0 (Word 0xd1) ∷ []) ∷
    -- movzx r9d, word ptr [rbp - 384]
    (instr.Load size.Half 9 5 (2 ^ 32 - 384) ∷ [], octets 8 0x440fb78d80feffff, Reg 5 (At Array 400) ∷ [], Reg 9 (Word 0xf6d1) ∷ []) ∷
    -- mov ebx, [rbp - 384]
    (instr.Load size.Word 3 5 (2 ^ 32 - 384) ∷ [], octets 6 0x8b9d80feffff, Reg 5 (At Array 400) ∷ [], Reg 3 (Word 0x401bf6d1) ∷ []) ∷
    -- mov r14, [rbp - 384]
    (
      instr.Load size.Double 14 5 (2 ^ 32 - 384) ∷ [],
      octets 7 0x4c8bb580feffff,
      Reg 5 (At Array 400) ∷ [],
      Reg 14 (Word 0xd4af8a65401bf6d1) ∷ [],
    ) ∷
    -- movsx rsi, byte ptr [rbp - 384]
    (
      instr.LoadSx signed.Byte 6 5 (2 ^ 32 - 384) ∷ [],
      octets 8 0x480fbeb580feffff,
      Reg 5 (At Array 400) ∷ [],
      Reg 6 (Word 0xffffffffffffffd1) ∷ [],
    ) ∷
    -- movsx r10, word ptr [rbp - 384]
    (
      instr.LoadSx signed.Half 10 5 (2 ^ 32 - 384) ∷ [],
      octets 8 0x4c0fbf9580feffff,
      Reg 5 (At Array 400) ∷ [],
      Reg 10 (Word 0xfffffffffffff6d1) ∷ [],
    ) ∷
    -- movsxd rcx, dword ptr [rbp - 384]
    (instr.LoadSx signed.Word 1 5 (2 ^ 32 - 384) ∷ [], octets 7 0x48638d80feffff, Reg 5 (At Array 400) ∷ [], Reg 1 (Word 0x401bf6d1) ∷ []) ∷
    -- mov [rbp - 384], dil
    (instr.Store size.Byte 5 (2 ^ 32 - 384) 7 ∷ [], octets 7 0x4088bd80feffff, Reg 5 (At Array 400) ∷ [], ArrayAt 16 (octets 1 0xa8) ∷ []) ∷
    -- mov [rbp - 384], bl
    (instr.Store size.Byte 5 (2 ^ 32 - 384) 3 ∷ [], octets 6 0x889d80feffff, Reg 5 (At Array 400) ∷ [], ArrayAt 16 (octets 1 0x54) ∷ []) ∷
    -- mov [rbp - 384], bx
    (
      instr.Store size.Half 5 (2 ^ 32 - 384) 3 ∷ [],
      octets 7 0x66899d80feffff,
      Reg 5 (At Array 400) ∷ [],
      ArrayAt 16 (octets 2 0x54f0) ∷ [],
    ) ∷
    -- mov [rbp - 384], r8d
    (
      instr.Store size.Word 5 (2 ^ 32 - 384) 8 ∷ [],
      octets 7 0x44898580feffff,
      Reg 5 (At Array 400) ∷ [],
      ArrayAt 16 (octets 4 0xbd5c9e79) ∷ [],
    ) ∷
    -- mov [rbp - 384], rcx
    (
      instr.Store size.Double 5 (2 ^ 32 - 384) 1 ∷ [],
      octets 7 0x48898d80feffff,
      Reg 5 (At Array 400) ∷ [],
      ArrayAt 16 (octets 8 0x2af894fe72f36e3c) ∷ [],
    ) ∷
    -- mov byte ptr [rbp - 384], -2
    (
      instr.StoreImm size.Byte 5 (2 ^ 32 - 384) (2 ^ 64 - 2) ∷ [],
      octets 7 0xc68580fefffffe,
      Reg 5 (At Array 400) ∷ [],
      ArrayAt 16 (octets 1 0xfe) ∷ [],
    ) ∷
    -- mov word ptr [rbp - 384], -2
    (
      instr.StoreImm size.Half 5 (2 ^ 32 - 384) (2 ^ 64 - 2) ∷ [],
      octets 9 0x66c78580fefffffeff,
      Reg 5 (At Array 400) ∷ [],
      ArrayAt 16 (octets 2 0xfeff) ∷ [],
    ) ∷
    -- mov dword ptr [rbp - 384], 0x12345678
    (
      instr.StoreImm size.Word 5 (2 ^ 32 - 384) 0x12345678 ∷ [],
      octets 10 0xc78580feffff78563412,
      Reg 5 (At Array 400) ∷ [],
      ArrayAt 16 (octets 4 0x78563412) ∷ [],
    ) ∷
    -- mov qword ptr [rbp - 384], -2
    (
      instr.StoreImm size.Double 5 (2 ^ 32 - 384) (2 ^ 64 - 2) ∷ [],
      octets 11 0x48c78580fefffffeffffff,
      Reg 5 (At Array 400) ∷ [],
      ArrayAt 16 (octets 8 0xfeffffffffffffff) ∷ [],
    ) ∷
    -- movups xmm0, [rbp - 384]
    (
      instr.LoadLong 5 (2 ^ 32 - 384) ∷ [],
      octets 7 0x0f108580feffff,
      Reg 5 (At Array 400) ∷ [],
      Long (octets 16 0xd1f61b40658aafd4f91e43688db2d7fc) ∷ [],
    ) ∷
    -- movups [rbp - 384], xmm0
    (
      instr.StoreLong 5 (2 ^ 32 - 384) ∷ [],
      octets 7 0x0f118580feffff,
      Reg 5 (At Array 400) ∷ [],
      ArrayAt 16 (octets 16 0xc8e5021f3c597693b0cdea0724415e7b) ∷ [],
    ) ∷
    -- movzx eax, byte ptr [r12 + 2]
    (instr.Load size.Byte 0 12 2 ∷ [], octets 6 0x410fb6442402, Reg 12 (At Array 1) ∷ [], Reg 0 (Word 0xf0) ∷ []) ∷
    -- movzx r9d, word ptr [r12 + 2]
    (instr.Load size.Half 9 12 2 ∷ [], octets 6 0x450fb74c2402, Reg 12 (At Array 1) ∷ [], Reg 9 (Word 0x15f0) ∷ []) ∷
    -- mov ebx, [r12 + 2]
    (instr.Load size.Word 3 12 2 ∷ [], octets 5 0x418b5c2402, Reg 12 (At Array 1) ∷ [], Reg 3 (Word 0x5f3a15f0) ∷ []) ∷
    -- mov r14, [r12 + 2]
    (instr.Load size.Double 14 12 2 ∷ [], octets 5 0x4d8b742402, Reg 12 (At Array 1) ∷ [], Reg 14 (Word 0xf3cea9845f3a15f0) ∷ []) ∷
    -- movsx rsi, byte ptr [r12 + 2]
    (instr.LoadSx signed.Byte 6 12 2 ∷ [], octets 6 0x490fbe742402, Reg 12 (At Array 1) ∷ [], Reg 6 (Word 0xfffffffffffffff0) ∷ []) ∷
    -- movsx r10, word ptr [r12 + 2]
    (instr.LoadSx signed.Half 10 12 2 ∷ [], octets 6 0x4d0fbf542402, Reg 12 (At Array 1) ∷ [], Reg 10 (Word 0x15f0) ∷ []) ∷
    -- movsxd rcx, dword ptr [r12 + 2]
    (instr.LoadSx signed.Word 1 12 2 ∷ [], octets 5 0x49634c2402, Reg 12 (At Array 1) ∷ [], Reg 1 (Word 0x5f3a15f0) ∷ []) ∷
    -- mov [r12 + 2], dil
    (instr.Store size.Byte 12 2 7 ∷ [], octets 5 0x41887c2402, Reg 12 (At Array 1) ∷ [], ArrayAt 3 (octets 1 0xa8) ∷ []) ∷
    -- mov [r12 + 2], bl
    (instr.Store size.Byte 12 2 3 ∷ [], octets 5 0x41885c2402, Reg 12 (At Array 1) ∷ [], ArrayAt 3 (octets 1 0x54) ∷ []) ∷
    -- mov [r12 + 2], bx
    (instr.Store size.Half 12 2 3 ∷ [], octets 6 0x6641895c2402, Reg 12 (At Array 1) ∷ [], ArrayAt 3 (octets 2 0x54f0) ∷ []) ∷
    -- mov [r12 + 2], r8d
    (instr.Store size.Word 12 2 8 ∷ [], octets 5 0x4589442402, Reg 12 (At Array 1) ∷ [], ArrayAt 3 (octets 4 0xbd5c9e79) ∷ []) ∷
    -- mov [r12 + 2], rcx
    (instr.Store size.Double 12 2 1 ∷ [], octets 5 0x49894c2402, Reg 12 (At Array 1) ∷ [], ArrayAt 3 (octets 8 0x2af894fe72f36e3c) ∷ []) ∷
    -- mov byte ptr [r12 + 2], -2
    (instr.StoreImm size.Byte 12 2 (2 ^ 64 - 2) ∷ [], octets 6 0x41c6442402fe, Reg 12 (At Array 1) ∷ [], ArrayAt 3 (octets 1 0xfe) ∷ []) ∷
    -- mov word ptr [r12 + 2], -2
    (
      instr.StoreImm size.Half 12 2 (2 ^ 64 - 2) ∷ [],
      octets 8 0x6641c7442402feff,
      Reg 12 (At Array 1) ∷ [],
      ArrayAt 3 (octets 2 0xfeff) ∷ [],
    ) ∷
    -- mov dword ptr [r12 + 2], 0x12345678
    (
      instr.StoreImm size.Word 12 2 0x12345678 ∷ [],
      octets 9 0x41c744240278563412,
      Reg 12 (At Array 1) ∷ [],
      ArrayAt 3 (octets 4 0x78563412) ∷ [],
    ) ∷
    -- mov qword ptr [r12 + 2], -2
    (
      instr.StoreImm size.Double 12 2 (2 ^ 64 - 2) ∷ [],
      octets 9 0x49c7442402feffffff,
      Reg 12 (At Array 1) ∷ [],
      ArrayAt 3 (octets 8 0xfeffffffffffffff) ∷ [],
    ) ∷
    -- movups xmm0, [r12 + 2]
    (
      instr.LoadLong 12 2 ∷ [],
      octets 6 0x410f10442402,
      Reg 12 (At Array 1) ∷ [],
      Long (octets 16 0xf0153a5f84a9cef3183d6287acd1f61b) ∷ [],
    ) ∷
    -- movups [r12 + 2], xmm0
    (
      instr.StoreLong 12 2 ∷ [],
      octets 6 0x410f11442402,
      Reg 12 (At Array 1) ∷ [],
      ArrayAt 3 (octets 16 0xc8e5021f3c597693b0cdea0724415e7b) ∷ [],
    ) ∷
    -- {disp8} movzx eax, byte ptr [r15 + 0]
    (instr.Load size.Byte 0 15 0 ∷ [], octets 5 0x410fb64700, Reg 15 (At Record 9) ∷ [], Reg 0 (Word 0xe4) ∷ []) ∷
    -- {disp8} movzx r9d, word ptr [r15 + 0]
    (instr.Load size.Half 9 15 0 ∷ [], octets 5 0x450fb74f00, Reg 15 (At Record 9) ∷ [], Reg 9 (Word 0x19e4) ∷ []) ∷
    -- {disp8} mov ebx, [r15 + 0]
    (instr.Load size.Word 3 15 0 ∷ [], octets 4 0x418b5f00, Reg 15 (At Record 9) ∷ [], Reg 3 (Word 0x834e19e4) ∷ []) ∷
    -- {disp8} mov r14, [r15 + 0]
    (instr.Load size.Double 14 15 0 ∷ [], octets 4 0x4d8b7700, Reg 15 (At Record 9) ∷ [], Reg 14 (Word 0x5722edb8834e19e4) ∷ []) ∷
    -- {disp8} movsx rsi, byte ptr [r15 + 0]
    (instr.LoadSx signed.Byte 6 15 0 ∷ [], octets 5 0x490fbe7700, Reg 15 (At Record 9) ∷ [], Reg 6 (Word 0xffffffffffffffe4) ∷ []) ∷
    -- {disp8} movsx r10, word ptr [r15 + 0]
    (instr.LoadSx signed.Half 10 15 0 ∷ [], octets 5 0x4d0fbf5700, Reg 15 (At Record 9) ∷ [], Reg 10 (Word 0x19e4) ∷ []) ∷
    -- {disp8} movsxd rcx, dword ptr [r15 + 0]
    (instr.LoadSx signed.Word 1 15 0 ∷ [], octets 4 0x49634f00, Reg 15 (At Record 9) ∷ [], Reg 1 (Word 0xffffffff834e19e4) ∷ []) ∷
    -- {disp8} mov [r15 + 0], dil
    (instr.Store size.Byte 15 0 7 ∷ [], octets 4 0x41887f00, Reg 15 (At Record 9) ∷ [], RecordAt 9 (octets 1 0xa8) ∷ []) ∷
    -- {disp8} mov [r15 + 0], bl
    (instr.Store size.Byte 15 0 3 ∷ [], octets 4 0x41885f00, Reg 15 (At Record 9) ∷ [], RecordAt 9 (octets 1 0x54) ∷ []) ∷
    -- {disp8} mov [r15 + 0], bx
    (instr.Store size.Half 15 0 3 ∷ [], octets 5 0x6641895f00, Reg 15 (At Record 9) ∷ [], RecordAt 9 (octets 2 0x54f0) ∷ []) ∷
    -- {disp8} mov [r15 + 0], r8d
    (instr.Store size.Word 15 0 8 ∷ [], octets 4 0x45894700, Reg 15 (At Record 9) ∷ [], RecordAt 9 (octets 4 0xbd5c9e79) ∷ []) ∷
    -- {disp8} mov [r15 + 0], rcx
    (instr.Store size.Double 15 0 1 ∷ [], octets 4 0x49894f00, Reg 15 (At Record 9) ∷ [], RecordAt 9 (octets 8 0x2af894fe72f36e3c) ∷ []) ∷
    -- {disp8} mov byte ptr [r15 + 0], -2
    (instr.StoreImm size.Byte 15 0 (2 ^ 64 - 2) ∷ [], octets 5 0x41c64700fe, Reg 15 (At Record 9) ∷ [], RecordAt 9 (octets 1 0xfe) ∷ []) ∷
    -- {disp8} mov word ptr [r15 + 0], -2
    (
      instr.StoreImm size.Half 15 0 (2 ^ 64 - 2) ∷ [],
      octets 7 0x6641c74700feff,
      Reg 15 (At Record 9) ∷ [],
      RecordAt 9 (octets 2 0xfeff) ∷ [],
    ) ∷
    -- {disp8} mov dword ptr [r15 + 0], 0x12345678
    (
      instr.StoreImm size.Word 15 0 0x12345678 ∷ [],
      octets 8 0x41c7470078563412,
      Reg 15 (At Record 9) ∷ [],
      RecordAt 9 (octets 4 0x78563412) ∷ [],
    ) ∷
    -- {disp8} mov qword ptr [r15 + 0], -2
    (
      instr.StoreImm size.Double 15 0 (2 ^ 64 - 2) ∷ [],
      octets 8 0x49c74700feffffff,
      Reg 15 (At Record 9) ∷ [],
      RecordAt 9 (octets 8 0xfeffffffffffffff) ∷ [],
    ) ∷
    -- {disp8} movups xmm0, [r15 + 0]
    (instr.LoadLong 15 0 ∷ [], octets 5 0x410f104700, Reg 15 (At Record 9) ∷ [], Long (octets 16 0xe4194e83b8ed22578cc1f62b6095caff) ∷ []) ∷
    -- {disp8} movups [r15 + 0], xmm0
    (
      instr.StoreLong 15 0 ∷ [],
      octets 5 0x410f114700,
      Reg 15 (At Record 9) ∷ [],
      RecordAt 9 (octets 16 0xc8e5021f3c597693b0cdea0724415e7b) ∷ [],
    ) ∷
    -- movzx eax, byte ptr [r13 + 24]
    (instr.Load size.Byte 0 13 24 ∷ [], octets 5 0x410fb64518, Reg 13 (At Record 0) ∷ [], Reg 0 (Word 0xff) ∷ []) ∷
    -- movzx r9d, word ptr [r13 + 24]
    (instr.Load size.Half 9 13 24 ∷ [], octets 5 0x450fb74d18, Reg 13 (At Record 0) ∷ [], Reg 9 (Word 0x34ff) ∷ []) ∷
    -- mov ebx, [r13 + 24]
    (instr.Load size.Word 3 13 24 ∷ [], octets 4 0x418b5d18, Reg 13 (At Record 0) ∷ [], Reg 3 (Word 0x9e6934ff) ∷ []) ∷
    -- mov r14, [r13 + 24]
    (instr.Load size.Double 14 13 24 ∷ [], octets 4 0x4d8b7518, Reg 13 (At Record 0) ∷ [], Reg 14 (Word 0x723d08d39e6934ff) ∷ []) ∷
    -- movsx rsi, byte ptr [r13 + 24]
    (instr.LoadSx signed.Byte 6 13 24 ∷ [], octets 5 0x490fbe7518, Reg 13 (At Record 0) ∷ [], Reg 6 (Word 0xffffffffffffffff) ∷ []) ∷
    -- movsx r10, word ptr [r13 + 24]
    (instr.LoadSx signed.Half 10 13 24 ∷ [], octets 5 0x4d0fbf5518, Reg 13 (At Record 0) ∷ [], Reg 10 (Word 0x34ff) ∷ []) ∷
    -- movsxd rcx, dword ptr [r13 + 24]
    (instr.LoadSx signed.Word 1 13 24 ∷ [], octets 4 0x49634d18, Reg 13 (At Record 0) ∷ [], Reg 1 (Word 0xffffffff9e6934ff) ∷ []) ∷
    -- mov [r13 + 24], dil
    (instr.Store size.Byte 13 24 7 ∷ [], octets 4 0x41887d18, Reg 13 (At Record 0) ∷ [], RecordAt 24 (octets 1 0xa8) ∷ []) ∷
    -- mov [r13 + 24], bl
    (instr.Store size.Byte 13 24 3 ∷ [], octets 4 0x41885d18, Reg 13 (At Record 0) ∷ [], RecordAt 24 (octets 1 0x54) ∷ []) ∷
    -- mov [r13 + 24], bx
    (instr.Store size.Half 13 24 3 ∷ [], octets 5 0x6641895d18, Reg 13 (At Record 0) ∷ [], RecordAt 24 (octets 2 0x54f0) ∷ []) ∷
    -- mov [r13 + 24], r8d
    (instr.Store size.Word 13 24 8 ∷ [], octets 4 0x45894518, Reg 13 (At Record 0) ∷ [], RecordAt 24 (octets 4 0xbd5c9e79) ∷ []) ∷
    -- mov [r13 + 24], rcx
    (instr.Store size.Double 13 24 1 ∷ [], octets 4 0x49894d18, Reg 13 (At Record 0) ∷ [], RecordAt 24 (octets 8 0x2af894fe72f36e3c) ∷ []) ∷
    -- mov byte ptr [r13 + 24], -2
    (instr.StoreImm size.Byte 13 24 (2 ^ 64 - 2) ∷ [], octets 5 0x41c64518fe, Reg 13 (At Record 0) ∷ [], RecordAt 24 (octets 1 0xfe) ∷ []) ∷
    -- mov word ptr [r13 + 24], -2
    (
      instr.StoreImm size.Half 13 24 (2 ^ 64 - 2) ∷ [],
      octets 7 0x6641c74518feff,
      Reg 13 (At Record 0) ∷ [],
      RecordAt 24 (octets 2 0xfeff) ∷ [],
    ) ∷
    -- mov dword ptr [r13 + 24], 0x12345678
    (
      instr.StoreImm size.Word 13 24 0x12345678 ∷ [],
      octets 8 0x41c7451878563412,
      Reg 13 (At Record 0) ∷ [],
      RecordAt 24 (octets 4 0x78563412) ∷ [],
    ) ∷
    -- mov qword ptr [r13 + 24], -2
    (
      instr.StoreImm size.Double 13 24 (2 ^ 64 - 2) ∷ [],
      octets 8 0x49c74518feffffff,
      Reg 13 (At Record 0) ∷ [],
      RecordAt 24 (octets 8 0xfeffffffffffffff) ∷ [],
    ) ∷
    -- movups xmm0, [r13 + 24]
    (
      instr.LoadLong 13 24 ∷ [],
      octets 5 0x410f104518,
      Reg 13 (At Record 0) ∷ [],
      Long (octets 16 0xff34699ed3083d72a7dc11467bb0e51a) ∷ [],
    ) ∷
    -- movups [r13 + 24], xmm0
    (
      instr.StoreLong 13 24 ∷ [],
      octets 5 0x410f114518,
      Reg 13 (At Record 0) ∷ [],
      RecordAt 24 (octets 16 0xc8e5021f3c597693b0cdea0724415e7b) ∷ [],
    ) ∷
    -- {disp8} mov rcx, [rdi + 0]
    (instr.Load size.Double 1 7 0 ∷ [], octets 4 0x488b4f00, Reg 7 (At Array 40) ∷ [], Reg 1 (Word 0x4c2702ddb8936e49) ∷ []) ∷
    -- {disp8} mov [rdi + 0], r9w
    (instr.Store size.Half 7 0 9 ∷ [], octets 5 0x6644894f00, Reg 7 (At Record 46) ∷ [], RecordAt 46 (octets 2 0xd2d8) ∷ []) ∷
    -- movups xmm0, [rdi + 16]; movups [rsi + 32], xmm0
    (
      instr.LoadLong 7 16 ∷ instr.StoreLong 6 32 ∷ [],
      octets 8 0x0f1047100f114620,
      Reg 7 (At Array 16) ∷ Reg 6 (At Record 0) ∷ [],
      RecordAt 32 (octets 16 0x21466b90b5daff24496e93b8dd02274c) ∷ Long (octets 16 0x21466b90b5daff24496e93b8dd02274c) ∷ [],
    ) ∷
    -- rep movsb
    (
      instr.CopyBytes ∷ [],
      octets 2 0xf3a4,
      Reg 1 (Word 0x5) ∷ Reg 6 (At Array 3) ∷ Reg 7 (At Record 20) ∷ [],
      Reg 1 (Word 0x0) ∷
          Reg 6 (At Array 8) ∷ Reg 7 (At Record 25) ∷ RecordAt 20 (octets 5 0xf0153a5f84) ∷ [],
    ) ∷
    -- rep movsb
    (instr.CopyBytes ∷ [], octets 2 0xf3a4, Reg 1 (Word 0x0) ∷ Reg 6 (At Array 3) ∷ Reg 7 (At Record 20) ∷ [], []) ∷
    []

-- conditional jumps over 7 bytes, by carry, zero, sign and overflow
abbrev pub jumps : List Asked
jumps =
    -- jb
    (condition.Below, octets 6 0x0f8207000000, 0xaaaa) ∷
    -- jae
    (condition.AboveEqual, octets 6 0x0f8307000000, 0x5555) ∷
    -- je
    (condition.Equal, octets 6 0x0f8407000000, 0xcccc) ∷
    -- jne
    (condition.NotEqual, octets 6 0x0f8507000000, 0x3333) ∷
    -- jbe
    (condition.BelowEqual, octets 6 0x0f8607000000, 0xeeee) ∷
    -- ja
    (condition.Above, octets 6 0x0f8707000000, 0x1111) ∷
    -- jl
    (condition.Less, octets 6 0x0f8c07000000, 0x0ff0) ∷
    -- jge
    (condition.GreaterEqual, octets 6 0x0f8d07000000, 0xf00f) ∷
    -- jle
    (condition.LessEqual, octets 6 0x0f8e07000000, 0xcffc) ∷
    -- jg
    (condition.Greater, octets 6 0x0f8f07000000, 0x3003) ∷
    []

-- the same by short jumps
abbrev pub short_jumps : List Asked
short_jumps =
    -- jb
    (condition.Below, octets 2 0x7207, 0xaaaa) ∷
    -- jae
    (condition.AboveEqual, octets 2 0x7307, 0x5555) ∷
    -- je
    (condition.Equal, octets 2 0x7407, 0xcccc) ∷
    -- jne
    (condition.NotEqual, octets 2 0x7507, 0x3333) ∷
    -- jbe
    (condition.BelowEqual, octets 2 0x7607, 0xeeee) ∷
    -- ja
    (condition.Above, octets 2 0x7707, 0x1111) ∷
    -- jl
    (condition.Less, octets 2 0x7c07, 0x0ff0) ∷
    -- jge
    (condition.GreaterEqual, octets 2 0x7d07, 0xf00f) ∷
    -- jle
    (condition.LessEqual, octets 2 0x7e07, 0xcffc) ∷
    -- jg
    (condition.Greater, octets 2 0x7f07, 0x3003) ∷
    []

-- {disp32} jmp 1f; 2: mov eax, 5; ret; 1: {disp32} jmp 2b
abbrev pub program : List ℕ
program = octets 16 0xe906000000b805000000c3e9f5ffffff

-- the rax with which it returns
abbrev pub program_answer : ℕ
program_answer = 0x5

-- jmp 1f; 2: mov eax, 6; ret; 1: jmp 2b
abbrev pub short_program : List ℕ
short_program = octets 10 0xeb06b806000000c3ebf8

-- the rax with which it returns
abbrev pub short_program_answer : ℕ
short_program_answer = 0x6
