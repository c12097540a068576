-- The instructions of helpers that emit: tests, effects and answers.
use Rattle.std.specs.Prelude.{◌≡◌, ℕ, ◌+◌, List, [], ◌∷◌, ◌++◌, Option, Some, None, length}
use Rattle.decode.specs.declared.insn.Width.TheVariants.{W64}
use Rattle.decode.specs.declared.insn.Size.TheVariants as size
use Rattle.x86.specs.declared.instruction.Alu.TheVariants as alu
use Rattle.x86.specs.declared.instruction.ConditionCode.TheVariants as met
use Rattle.x86.specs.declared.instruction.Instr.{Instr}
use Rattle.x86.specs.declared.instruction.Instr.TheVariants as instr
use Rattle.native.specs.declared.emission.Helper.{Helper}
use Rattle.native.specs.declared.emission.Helper.TheVariants as helper
use Rattle.native.specs.Code.{codes, seen, clear}

-- rcx gets the count; if it is eight, jumps by `none`
abbrev pub room_test : ℕ → ℕ → List Instr
room_test count_at none = instr.Load size.Double 1 6 count_at ∷ instr.AluImm alu.Cmp W64 1 8 ∷ instr.JumpIfShort met.AboveEqual none ∷ []

-- dst, which is in r8, is at least 1, else jumps by `none`
abbrev pub least_test : ℕ → List Instr
least_test none = instr.AluImm alu.Cmp W64 8 1 ∷ instr.JumpIfShort met.Below none ∷ []

-- dst is at most `count`, else jumps by `none`
abbrev pub most_test : ℕ → List Instr
most_test none = instr.Load size.Double 1 6 40 ∷ instr.Alu alu.Cmp W64 1 8 ∷ instr.JumpIfShort met.Below none ∷ []

-- dst is not `me`, else jumps by `none`
abbrev pub other_test : ℕ → List Instr
other_test none = instr.Load size.Double 1 6 24 ∷ instr.Alu alu.Cmp W64 8 1 ∷ instr.JumpIfShort met.Equal none ∷ []

-- dst is a peer; each test has its own distance to jump by
abbrev pub peer_tests : ℕ → ℕ → ℕ → List Instr
peer_tests none beyond own = least_test none ++ (most_test beyond ++ other_test own)

-- a length in a register is at most 256
abbrev pub length_test : ℕ → ℕ → List Instr
length_test len long = instr.AluImm alu.Cmp W64 len 256 ∷ instr.JumpIfShort met.Above long ∷ []

-- rdx gets the address of the next free place, with the count in rcx; rcx is increased by one
abbrev pub place_code : ℕ → List Instr
place_code base = instr.MulImm W64 2 1 272 ∷ instr.LeaBy 2 6 2 base ∷ instr.Lea 1 1 1 ∷ []

-- stores the destination
abbrev pub aim_code : List Instr
aim_code = instr.Store size.Double 2 0 8 ∷ []

-- stores the length, and copies 64 bytes from a position of the array
abbrev pub copy_code : ℕ → List Instr
copy_code at =
    instr.StoreImm size.Double 2 8 64
    ∷ instr.LoadLong 7 (seen at) ∷ instr.StoreLong 2 16 ∷ instr.LoadLong 7 (seen (at + 16)) ∷ instr.StoreLong 2 32
    ∷ instr.LoadLong 7 (seen (at + 32)) ∷ instr.StoreLong 2 48 ∷ instr.LoadLong 7 (seen (at + 48)) ∷ instr.StoreLong 2 64 ∷ []

-- stores the length, moves it to rcx and an address in the array to rsi, and copies the bytes to the place
abbrev pub moved_code : Instr → Instr → Instr → List Instr
moved_code writes counts finds =
    writes
    ∷ instr.Push 1 ∷ instr.Push 6 ∷ instr.Push 7
    ∷ counts ∷ finds ∷ instr.Lea 7 2 16 ∷ instr.CopyBytes
    ∷ instr.Pop 7 ∷ instr.Pop 6 ∷ instr.Pop 1 ∷ []

-- stores a length in a register, and copies that many bytes from a position of the array
abbrev pub sized_code : ℕ → ℕ → List Instr
sized_code at len = moved_code (instr.Store size.Double 2 8 len) (instr.Mov W64 1 len) (instr.Lea 6 7 (seen at))

-- the same from a position in a register
abbrev pub sized_by_code : ℕ → ℕ → List Instr
sized_by_code at len = moved_code (instr.Store size.Double 2 8 len) (instr.Mov W64 1 len) (instr.LeaBy 6 7 at (seen 0))

-- stores the length, and copies 64 bytes from a position in a register
abbrev pub copy_by_code : ℕ → List Instr
copy_by_code at = moved_code (instr.StoreImm size.Double 2 8 64) (instr.MovImm 1 64) (instr.LeaBy 6 7 at (seen 0))

-- stores the new count, sets r0 to 0, and jumps over the other answers
abbrev pub good_end : ℕ → ℕ → List Instr
good_end count_at past = instr.Store size.Double 6 count_at 1 ∷ clear 0 ∷ instr.JumpShort past ∷ []

-- each test that fails jumps over the effect, of g bytes, to its answer
abbrev pub send_tests : ℕ → List Instr
send_tests g = peer_tests (g + 28) (g + 19) (g + 10) ++ room_test 0 (g + 7)

-- the effect of a message of 64 bytes from a constant position
abbrev pub send_good : ℕ → List Instr
send_good at = place_code 64 ++ (aim_code ++ (copy_code at ++ good_end 0 12))

-- the answers: dst is no peer; there is no room
abbrev pub send_end : List Instr
send_end = instr.MovImm 0 1 ∷ instr.JumpShort 5 ∷ instr.MovImm 0 2 ∷ []

-- an output needs room alone
abbrev pub output_tests : ℕ → List Instr
output_tests g = room_test 8 g

-- the effect of an output of 64 bytes from a constant position
abbrev pub output_good : ℕ → List Instr
output_good at = place_code 2240 ++ (copy_code at ++ good_end 8 5)

-- the answer: there is no room
abbrev pub output_end : List Instr
output_end = instr.MovImm 0 2 ∷ []

-- the tests of a message with a length
abbrev pub send_sized_tests : ℕ → List Instr
send_sized_tests g = peer_tests (g + 44) (g + 35) (g + 26) ++ (room_test 0 (g + 23) ++ length_test 9 g)

-- the effect of a message with a length, from a constant position
abbrev pub send_sized_good : ℕ → List Instr
send_sized_good at = place_code 64 ++ (aim_code ++ (sized_code at 9 ++ good_end 0 19))

-- the answers: the payload is too long; dst is no peer; there is no room
abbrev pub send_sized_end : List Instr
send_sized_end = instr.MovImm 0 3 ∷ instr.JumpShort 12 ∷ send_end

-- the tests of an output with a length
abbrev pub output_sized_tests : ℕ → List Instr
output_sized_tests g = room_test 8 (g + 16) ++ length_test 12 g

-- the effect of an output with a length, from a constant position
abbrev pub output_sized_good : ℕ → List Instr
output_sized_good at = place_code 2240 ++ (sized_code at 12 ++ good_end 8 12)

-- the answers: the payload is too long; there is no room
abbrev pub output_sized_end : List Instr
output_sized_end = instr.MovImm 0 3 ∷ instr.JumpShort 5 ∷ output_end

-- the same from positions in registers: r2 for a message, r1 for an output
abbrev pub send_by_good : List Instr
send_by_good = place_code 64 ++ (aim_code ++ (copy_by_code 12 ++ good_end 0 12))

-- an output of 64 bytes, from a position in r1
abbrev pub output_by_good : List Instr
output_by_good = place_code 2240 ++ (copy_by_code 8 ++ good_end 8 5)

-- a message with a length, from a position in r2
abbrev pub send_sized_by_good : List Instr
send_sized_by_good = place_code 64 ++ (aim_code ++ (sized_by_code 12 9 ++ good_end 0 19))

-- an output with a length, from a position in r1
abbrev pub output_sized_by_good : List Instr
output_sized_by_good = place_code 2240 ++ (sized_by_code 8 12 ++ good_end 8 12)

-- the tests, the effect over which they jump, and the answers
abbrev pub IsCall : (ℕ → List Instr) → List Instr → List Instr → List Instr → Type 0
IsCall tests good rest is = is ≡ tests (length (codes good)) ++ (good ++ rest)

-- the tests of a helper, before an effect of g bytes
abbrev pub tests_of : Helper → ℕ → List Instr
tests_of helper.Send g = send_tests g
tests_of helper.Output g = output_tests g
tests_of helper.SendSized g = send_sized_tests g
tests_of helper.OutputSized g = output_sized_tests g

-- from a constant position, or from one in a register
abbrev pub good_of : Helper → Option ℕ → List Instr
good_of helper.Send (Some at) = send_good at
good_of helper.Output (Some at) = output_good at
good_of helper.SendSized (Some at) = send_sized_good at
good_of helper.OutputSized (Some at) = output_sized_good at
good_of helper.Send None = send_by_good
good_of helper.Output None = output_by_good
good_of helper.SendSized None = send_sized_by_good
good_of helper.OutputSized None = output_sized_by_good

-- the answers of a helper if a test fails
abbrev pub end_of : Helper → List Instr
end_of helper.Send = send_end
end_of helper.Output = output_end
end_of helper.SendSized = send_sized_end
end_of helper.OutputSized = output_sized_end
