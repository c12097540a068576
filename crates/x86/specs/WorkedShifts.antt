-- Shifts and divisions.
use Rattle.std.specs.Prelude.{List, [], ◌∷◌}
use Rattle.decode.specs.declared.insn.Width.TheVariants.{W32, W64}
use Rattle.x86.specs.Machine.{Word, Unknown}
use Rattle.x86.specs.Worked.{Row, Reg, Sets, octets}
use Rattle.x86.specs.declared.instruction.Shift.TheVariants as shift
use Rattle.x86.specs.declared.instruction.Instr.TheVariants as instr

-- shifts by a number and by cl; nothing is said of the flags
abbrev pub shifts : List Row
shifts =
    -- rol bx, 8
    (instr.SwapLow 3 ∷ [], octets 4 0x66c1c308, [], Reg 3 (Word 0x78dde6e5fd2954f0) ∷ Sets (Unknown) ∷ []) ∷
    -- rol r12w, 8
    (instr.SwapLow 12 ∷ [], octets 5 0x6641c1c408, [], Reg 12 (Word 0x8d12e6b76c8114d) ∷ Sets (Unknown) ∷ []) ∷
    -- shl rbx, 5
    (instr.Shift shift.Left W64 3 5 ∷ [], octets 4 0x48c1e305, [], Reg 3 (Word 0x1bbcdcbfa53e0a80) ∷ Sets (Unknown) ∷ []) ∷
    -- shl r12, 63
    (
      instr.Shift shift.Left W64 12 63 ∷ [],
      octets 4 0x49c1e43f,
      Reg 12 (Word 0x8000000000000003) ∷ [],
      Reg 12 (Word 0x8000000000000000) ∷
          Sets (Unknown) ∷ [],
    ) ∷
    -- shl rax, 0
    (instr.Shift shift.Left W64 0 0 ∷ [], octets 4 0x48c1e000, [], Sets (Unknown) ∷ []) ∷
    -- shl r10d, 31
    (
      instr.Shift shift.Left W32 10 31 ∷ [],
      octets 4 0x41c1e21f,
      Reg 10 (Word 0x8000000080000001) ∷ [],
      Reg 10 (Word 0x80000000) ∷
          Sets (Unknown) ∷ [],
    ) ∷
    -- shl esi, 4
    (instr.Shift shift.Left W32 6 4 ∷ [], octets 3 0xc1e604, [], Reg 6 (Word 0xb0964930) ∷ Sets (Unknown) ∷ []) ∷
    -- shl r9, cl
    (
      instr.ShiftBy shift.Left W64 9 ∷ [],
      octets 3 0x49d3e1,
      Reg 1 (Word 0x10000000143) ∷ [],
      Reg 9 (Word 0x715609f7c746c690) ∷
          Sets (Unknown) ∷ [],
    ) ∷
    -- shl rdi, cl
    (instr.ShiftBy shift.Left W64 7 ∷ [], octets 3 0x48d3e7, Reg 1 (Word 0x40) ∷ [], Sets (Unknown) ∷ []) ∷
    -- shl r8d, cl
    (
      instr.ShiftBy shift.Left W32 8 ∷ [],
      octets 3 0x41d3e0,
      Reg 1 (Word 0x10000000125) ∷ [],
      Reg 8 (Word 0x33cb97a0) ∷
          Sets (Unknown) ∷ [],
    ) ∷
    -- shl edx, cl
    (instr.ShiftBy shift.Left W32 2 ∷ [], octets 2 0xd3e2, Reg 1 (Word 0x20) ∷ Reg 2 (Word 0xffffffff) ∷ [], Sets (Unknown) ∷ []) ∷
    -- shr rbx, 5
    (instr.Shift shift.Right W64 3 5 ∷ [], octets 4 0x48c1eb05, [], Reg 3 (Word 0x3c6ef372fe94f82) ∷ Sets (Unknown) ∷ []) ∷
    -- shr r12, 63
    (
      instr.Shift shift.Right W64 12 63 ∷ [],
      octets 4 0x49c1ec3f,
      Reg 12 (Word 0x8000000000000003) ∷ [],
      Reg 12 (Word 0x1) ∷
          Sets (Unknown) ∷ [],
    ) ∷
    -- shr rax, 0
    (instr.Shift shift.Right W64 0 0 ∷ [], octets 4 0x48c1e800, [], Sets (Unknown) ∷ []) ∷
    -- shr r10d, 31
    (
      instr.Shift shift.Right W32 10 31 ∷ [],
      octets 4 0x41c1ea1f,
      Reg 10 (Word 0x8000000080000001) ∷ [],
      Reg 10 (Word 0x1) ∷
          Sets (Unknown) ∷ [],
    ) ∷
    -- shr esi, 4
    (instr.Shift shift.Right W32 6 4 ∷ [], octets 3 0xc1ee04, [], Reg 6 (Word 0x7b09649) ∷ Sets (Unknown) ∷ []) ∷
    -- shr r9, cl
    (
      instr.ShiftBy shift.Right W64 9 ∷ [],
      octets 3 0x49d3e9,
      Reg 1 (Word 0x10000000143) ∷ [],
      Reg 9 (Word 0x5c55827df1d1b1a) ∷
          Sets (Unknown) ∷ [],
    ) ∷
    -- shr rdi, cl
    (instr.ShiftBy shift.Right W64 7 ∷ [], octets 3 0x48d3ef, Reg 1 (Word 0x40) ∷ [], Sets (Unknown) ∷ []) ∷
    -- shr r8d, cl
    (
      instr.ShiftBy shift.Right W32 8 ∷ [],
      octets 3 0x41d3e8,
      Reg 1 (Word 0x10000000125) ∷ [],
      Reg 8 (Word 0x3ccf2e5) ∷
          Sets (Unknown) ∷ [],
    ) ∷
    -- shr edx, cl
    (instr.ShiftBy shift.Right W32 2 ∷ [], octets 2 0xd3ea, Reg 1 (Word 0x20) ∷ Reg 2 (Word 0xffffffff) ∷ [], Sets (Unknown) ∷ []) ∷
    -- sar rbx, 5
    (instr.Shift shift.RightSigned W64 3 5 ∷ [], octets 4 0x48c1fb05, [], Reg 3 (Word 0x3c6ef372fe94f82) ∷ Sets (Unknown) ∷ []) ∷
    -- sar r12, 63
    (
      instr.Shift shift.RightSigned W64 12 63 ∷ [],
      octets 4 0x49c1fc3f,
      Reg 12 (Word 0x8000000000000003) ∷ [],
      Reg 12 (Word 0xffffffffffffffff) ∷ Sets (Unknown) ∷ [],
    ) ∷
    -- sar rax, 0
    (instr.Shift shift.RightSigned W64 0 0 ∷ [], octets 4 0x48c1f800, [], Sets (Unknown) ∷ []) ∷
    -- sar r10d, 31
    (
      instr.Shift shift.RightSigned W32 10 31 ∷ [],
      octets 4 0x41c1fa1f,
      Reg 10 (Word 0x8000000080000001) ∷ [],
      Reg 10 (Word 0xffffffff) ∷
          Sets (Unknown) ∷ [],
    ) ∷
    -- sar esi, 4
    (instr.Shift shift.RightSigned W32 6 4 ∷ [], octets 3 0xc1fe04, [], Reg 6 (Word 0x7b09649) ∷ Sets (Unknown) ∷ []) ∷
    -- sar r9, cl
    (
      instr.ShiftBy shift.RightSigned W64 9 ∷ [],
      octets 3 0x49d3f9,
      Reg 1 (Word 0x10000000143) ∷ [],
      Reg 9 (Word 0x5c55827df1d1b1a) ∷
          Sets (Unknown) ∷ [],
    ) ∷
    -- sar rdi, cl
    (instr.ShiftBy shift.RightSigned W64 7 ∷ [], octets 3 0x48d3ff, Reg 1 (Word 0x40) ∷ [], Sets (Unknown) ∷ []) ∷
    -- sar r8d, cl
    (
      instr.ShiftBy shift.RightSigned W32 8 ∷ [],
      octets 3 0x41d3f8,
      Reg 1 (Word 0x10000000125) ∷ [],
      Reg 8 (Word 0x3ccf2e5) ∷
          Sets (Unknown) ∷ [],
    ) ∷
    -- sar edx, cl
    (instr.ShiftBy shift.RightSigned W32 2 ∷ [], octets 2 0xd3fa, Reg 1 (Word 0x20) ∷ Reg 2 (Word 0xffffffff) ∷ [], Sets (Unknown) ∷ []) ∷
    []

-- quotients to rax, remainders to rdx; nothing is said of the flags
abbrev pub quotients : List Row
quotients =
    -- div rcx
    (
      instr.Div W64 1 ∷ [],
      octets 3 0x48f7f1,
      Reg 0 (Word 0xfffffffffffffffd) ∷ Reg 2 (Word 0x0) ∷ Reg 1 (Word 0xa) ∷ [],
      Reg 0 (Word 0x1999999999999999) ∷ Reg 2 (Word 0x3) ∷ Sets (Unknown) ∷ [],
    ) ∷
    -- div r9
    (
      instr.Div W64 9 ∷ [],
      octets 3 0x49f7f1,
      Reg 0 (Word 0x5) ∷ Reg 2 (Word 0x0) ∷ Reg 9 (Word 0x8000000000000000) ∷ [],
      Reg 0 (Word 0x0) ∷
          Reg 2 (Word 0x5) ∷ Sets (Unknown) ∷ [],
    ) ∷
    -- div ecx
    (
      instr.Div W32 1 ∷ [],
      octets 2 0xf7f1,
      Reg 0 (Word 0x100000003e8) ∷ Reg 2 (Word 0x100000000) ∷ Reg 1 (Word 0x200000007) ∷ [],
      Reg 0 (Word 0x8e) ∷ Reg 2 (Word 0x6) ∷ Sets (Unknown) ∷ [],
    ) ∷
    -- div rax
    (instr.Div W64 0 ∷ [], octets 3 0x48f7f0, Reg 0 (Word 0x9) ∷ Reg 2 (Word 0x0) ∷ [], Reg 0 (Word 0x1) ∷ Sets (Unknown) ∷ []) ∷
    -- idiv rcx
    (
      instr.SignedDiv W64 1 ∷ [],
      octets 3 0x48f7f9,
      Reg 0 (Word 0xfffffffffffffff9) ∷ Reg 2 (Word 0xffffffffffffffff) ∷
          Reg 1 (Word 0x2) ∷ [],
      Reg 0 (Word 0xfffffffffffffffd) ∷ Sets (Unknown) ∷ [],
    ) ∷
    -- idiv rcx
    (
      instr.SignedDiv W64 1 ∷ [],
      octets 3 0x48f7f9,
      Reg 0 (Word 0x7) ∷ Reg 2 (Word 0x0) ∷ Reg 1 (Word 0xfffffffffffffffe) ∷ [],
      Reg 0 (Word 0xfffffffffffffffd) ∷ Reg 2 (Word 0x1) ∷ Sets (Unknown) ∷ [],
    ) ∷
    -- idiv r12
    (
      instr.SignedDiv W64 12 ∷ [],
      octets 3 0x49f7fc,
      Reg 0 (Word 0xfffffffffffffff9) ∷ Reg 2 (Word 0xffffffffffffffff) ∷
          Reg 12 (Word 0xfffffffffffffffe) ∷ [],
      Reg 0 (Word 0x3) ∷ Sets (Unknown) ∷ [],
    ) ∷
    -- idiv r8
    (
      instr.SignedDiv W64 8 ∷ [],
      octets 3 0x49f7f8,
      Reg 0 (Word 0x8000000000000000) ∷ Reg 2 (Word 0xffffffffffffffff) ∷
          Reg 8 (Word 0x8000000000000000) ∷ [],
      Reg 0 (Word 0x1) ∷ Reg 2 (Word 0x0) ∷ Sets (Unknown) ∷ [],
    ) ∷
    -- idiv ecx
    (
      instr.SignedDiv W32 1 ∷ [],
      octets 2 0xf7f9,
      Reg 0 (Word 0x100fffffff9) ∷ Reg 2 (Word 0xffffffff) ∷ Reg 1 (Word 0x200000002) ∷ [],
      Reg 0 (Word 0xfffffffd) ∷ Sets (Unknown) ∷ [],
    ) ∷
    -- idiv r11d
    (
      instr.SignedDiv W32 11 ∷ [],
      octets 3 0x41f7fb,
      Reg 0 (Word 0x10000000007) ∷ Reg 2 (Word 0x4000000000000) ∷
          Reg 11 (Word 0xfffffffe) ∷ [],
      Reg 0 (Word 0xfffffffd) ∷ Reg 2 (Word 0x1) ∷ Sets (Unknown) ∷ [],
    ) ∷
    []

-- the sign of rax to rdx; the flags stay
abbrev pub signs : List Row
signs =
    -- cqo
    (instr.Spread W64 ∷ [], octets 2 0x4899, Reg 0 (Word 0x8000000000000000) ∷ [], Reg 2 (Word 0xffffffffffffffff) ∷ []) ∷
    -- cqo
    (instr.Spread W64 ∷ [], octets 2 0x4899, Reg 0 (Word 0x7fffffffffffffff) ∷ [], Reg 2 (Word 0x0) ∷ []) ∷
    -- cdq
    (instr.Spread W32 ∷ [], octets 1 0x99, Reg 0 (Word 0x80000000) ∷ [], Reg 2 (Word 0xffffffff) ∷ []) ∷
    -- cdq
    (instr.Spread W32 ∷ [], octets 1 0x99, Reg 0 (Word 0x800000007fffffff) ∷ [], Reg 2 (Word 0x0) ∷ []) ∷
    []
