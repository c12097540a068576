-- How long code is.
use Rattle.std.proofs.Common.{◌≡◌, ℕ, ◌+◌, ◌*◌, ◌%◌, ◌<◌, ◌≤◌, Bool, true, false, cond, lit≤, List, [], ◌∷◌, ◌++◌, Option, Some, None, length, refl, sym, ap, ◌∙◌, arith, length-append}
use Rattle.std.specs.Prelude.{◌==◌, ◌&&◌, ◌/◌, nat_lt}
use Rattle.std.proofs.lemmas.Bool.Decides.{nat_tests}
use Rattle.decode.specs.declared.insn.AluOp.TheVariants as op
use Rattle.decode.specs.declared.insn.Width.{Width}
use Rattle.decode.specs.declared.insn.Width.TheVariants.{W32, W64}
use Rattle.decode.specs.declared.insn.Extension.{Extension}
use Rattle.decode.specs.declared.insn.Extension.TheVariants as extension
use Rattle.decode.specs.declared.insn.Size.TheVariants as size
use Rattle.decode.specs.declared.insn.SignedSize.TheVariants as signed
use Rattle.operations.specs.Bytes.{le_bytes}
use Rattle.x86.specs.declared.instruction.Instr.{Instr}
use Rattle.x86.specs.declared.instruction.Instr.TheVariants as instr
use Rattle.x86.specs.Encoding.{rex, rex_by, prefix, prefix_by, byte_prefix, two, is_small, number, memory, memory_by, with_two, with_two_0f, with_memory, with_memory_0f, op_number, shift_number, movsx, bytes_of}
use Rattle.native.specs.declared.body.Body.{Body}
use Rattle.native.specs.declared.body.Body.TheVariants.{Empty, One, Two, Three}
use Rattle.native.specs.declared.emission.Helper.{Helper}
use Rattle.native.specs.declared.emission.Helper.TheVariants as helper
use Rattle.native.specs.declared.task.SlotTask.{SlotTask}
use Rattle.native.specs.declared.task.SlotTask.TheVariants as task
use Rattle.native.specs.declared.saved_registers.SavedRegisters.{SavedRegisters}
use Rattle.native.specs.Openings.{pop_if, restoring, ending, leaving}
use Rattle.native.specs.SlotTasks.{task_at}
use Rattle.native.specs.Laid.{Fuses, ServesBy}
use Rattle.native.specs.Code.{seen, codes, body_of, IsBody}
use Rattle.native.specs.Quotient.{two_size}
use Rattle.native.specs.Emission.{copy_code, sized_code, good_end, send_good, output_good, send_sized_good, output_sized_good, good_of}
use Rattle.native.specs.SlotCode.{IsDone, jump_code, jump_if_code, flushed, skipped, Plain, Serves}
use Rattle.native.specs.Comparison.{condition_of, compare_code}

number_short : (v : ℕ) → length (number v) ≤ 4
number_short v = by_test (is_small v)
  where
    by_test : (b : Bool) → length (cond b (v % 256 ∷ []) (le_bytes 4 v)) ≤ 4
    by_test true = omega arith
    by_test false = omega arith

memory_short : (reg base disp : ℕ) → length (memory reg base disp) ≤ 6
memory_short reg base disp = by_test (base % 8 == 4)
  where
    by_test : (b : Bool) → length (0 ∷ (cond b (36 ∷ []) [] ++ number disp)) ≤ 6
    by_test true = omega (arith, number_short disp)
    by_test false = omega (arith, number_short disp)

memory_by_short : (reg base index disp : ℕ) → length (memory_by reg base index disp) ≤ 6
memory_by_short reg base index disp = omega (arith, number_short disp)

prefix_short : (w : Width) (reg index rm : ℕ) → length (prefix_by w reg index rm) ≤ 1
prefix_short W64 reg index rm = omega arith
prefix_short W32 reg index rm = by_test (rex_by W32 reg index rm == 64)
  where
    by_test : (b : Bool) → length (cond b [] (rex_by W32 reg index rm ∷ [])) ≤ 1
    by_test true = omega arith
    by_test false = omega arith

byte_prefix_short : (byte reg rm : ℕ) → length (byte_prefix byte reg rm) ≤ 1
byte_prefix_short byte reg rm = by_test (nat_lt byte 4 && rex W32 reg rm == 64)
  where
    by_test : (b : Bool) → length (cond b [] (rex W32 reg rm ∷ [])) ≤ 1
    by_test true = omega arith
    by_test false = omega arith

two_short : (w : Width) (opcode reg rm : ℕ) → length (with_two w opcode reg rm) ≤ 3
two_short w opcode reg rm =
    let a = length-append (prefix w reg rm) (opcode ∷ two reg rm ∷ []) in
    let p = prefix_short w reg 0 rm in
    omega arith

two_0f_short : (w : Width) (opcode reg rm : ℕ) → length (with_two_0f w opcode reg rm) ≤ 4
two_0f_short w opcode reg rm =
    let a = length-append (prefix w reg rm) (15 ∷ opcode ∷ two reg rm ∷ []) in
    let p = prefix_short w reg 0 rm in
    omega arith

in_memory_short : (w : Width) (opcode reg base disp : ℕ) → length (with_memory w opcode reg base disp) ≤ 8
in_memory_short w opcode reg base disp =
    let a = length-append (prefix w reg base) (opcode ∷ memory reg base disp) in
    let p = prefix_short w reg 0 base in
    let m = memory_short reg base disp in
    omega arith

in_memory_0f_short : (w : Width) (opcode reg base disp : ℕ) → length (with_memory_0f w opcode reg base disp) ≤ 9
in_memory_0f_short w opcode reg base disp =
    let a = length-append (prefix w reg base) (15 ∷ opcode ∷ memory reg base disp) in
    let p = prefix_short w reg 0 base in
    let m = memory_short reg base disp in
    omega arith

-- and then more
then_short : (xs ys : List ℕ) (m n : ℕ) → length xs ≤ m → length ys ≤ n → length (xs ++ ys) ≤ m + n
then_short xs ys m n h k = let a = length-append xs ys in omega arith

movsx_short : (x : Extension) (to from : ℕ) → length (movsx x to from) ≤ 15
movsx_short extension.W32From8 to from =
    let a = then_short (byte_prefix from to from) (15 ∷ 190 ∷ two to from ∷ []) 1 3 (byte_prefix_short from to from) (omega arith) in omega arith
movsx_short extension.W32From16 to from = let a = two_0f_short W32 191 to from in omega arith
movsx_short extension.W64From8 to from = omega arith
movsx_short extension.W64From16 to from = omega arith
movsx_short extension.W64From32 to from = omega arith

alu_short : (o : _) (w : Width) (to imm : ℕ) → length (bytes_of (instr.AluImm o w to imm)) ≤ 15
alu_short o w to imm = by_test (is_small imm)
  where
    by_test : (b : Bool) → length (cond b (with_two w 131 (op_number o) to ++ imm % 256 ∷ []) (with_two w 129 (op_number o) to ++ le_bytes 4 imm)) ≤ 15
    by_test true = let a = then_short (with_two w 131 (op_number o) to) (imm % 256 ∷ []) 3 1 (two_short w 131 (op_number o) to) (omega arith) in omega arith
    by_test false = let a = then_short (with_two w 129 (op_number o) to) (le_bytes 4 imm) 3 4 (two_short w 129 (op_number o) to) (omega arith) in omega arith

store_imm_short : (w : Width) (opcode base disp n imm : ℕ) → n ≤ 4 → length (le_bytes n imm) ≤ 4 → length (with_memory w opcode 0 base disp ++ le_bytes n imm) ≤ 12
store_imm_short w opcode base disp n imm h k = then_short (with_memory w opcode 0 base disp) (le_bytes n imm) 8 4 (in_memory_short w opcode 0 base disp) k

-- no instruction has more than 15 bytes, as no processor takes a longer one (volume 2, 2.3.11)
instr_short : (i : Instr) → length (bytes_of i) ≤ 15
instr_short (instr.Mov w to from) = let a = two_short w 137 from to in omega arith
instr_short (instr.MovImm to imm) = let a = then_short (prefix W32 0 to) ((184 + to % 8) ∷ le_bytes 4 imm) 1 5 (prefix_short W32 0 0 to) (omega arith) in omega arith
instr_short (instr.MovSigned to imm) = omega arith
instr_short (instr.MovWide to imm) = omega arith
instr_short (instr.MovSx x to from) = movsx_short x to from
instr_short (instr.MovZx to from) = let a = two_0f_short W32 183 to from in omega arith
instr_short (instr.Alu o w to from) = let a = two_short w (8 * op_number o + 1) from to in omega arith
instr_short (instr.AluImm o w to imm) = alu_short o w to imm
instr_short (instr.Test w a b) = let c = two_short w 133 b a in omega arith
instr_short (instr.TestImm w a imm) = let c = then_short (with_two w 247 0 a) (le_bytes 4 imm) 3 4 (two_short w 247 0 a) (omega arith) in omega arith
instr_short (instr.Mul w to from) = let a = two_0f_short w 175 to from in omega arith
instr_short (instr.MulImm w to from imm) = let c = then_short (with_two w 105 to from) (le_bytes 4 imm) 3 4 (two_short w 105 to from) (omega arith) in omega arith
instr_short (instr.Neg w to) = let a = two_short w 247 3 to in omega arith
instr_short (instr.Shift o w to count) = let c = then_short (with_two w 193 (shift_number o) to) (count % 256 ∷ []) 3 1 (two_short w 193 (shift_number o) to) (omega arith) in omega arith
instr_short (instr.ShiftBy o w to) = let a = two_short w 211 (shift_number o) to in omega arith
instr_short (instr.SwapLow to) = let c = then_short (with_two W32 193 0 to) (8 ∷ []) 3 1 (two_short W32 193 0 to) (omega arith) in omega arith
instr_short (instr.Swap w to) = let c = then_short (prefix w 0 to) (15 ∷ (200 + to % 8) ∷ []) 1 2 (prefix_short w 0 0 to) (omega arith) in omega arith
instr_short (instr.Div w by) = let a = two_short w 247 6 by in omega arith
instr_short (instr.SignedDiv w by) = let a = two_short w 247 7 by in omega arith
instr_short (instr.Spread w) = let c = then_short (prefix w 0 0) (153 ∷ []) 1 1 (prefix_short w 0 0 0) (omega arith) in omega arith
instr_short (instr.Load size.Byte to base disp) = let a = in_memory_0f_short W32 182 to base disp in omega arith
instr_short (instr.Load size.Half to base disp) = let a = in_memory_0f_short W32 183 to base disp in omega arith
instr_short (instr.Load size.Word to base disp) = let a = in_memory_short W32 139 to base disp in omega arith
instr_short (instr.Load size.Double to base disp) = let a = in_memory_short W64 139 to base disp in omega arith
instr_short (instr.LoadSx signed.Byte to base disp) = let a = in_memory_0f_short W64 190 to base disp in omega arith
instr_short (instr.LoadSx signed.Half to base disp) = let a = in_memory_0f_short W64 191 to base disp in omega arith
instr_short (instr.LoadSx signed.Word to base disp) = let a = in_memory_short W64 99 to base disp in omega arith
instr_short (instr.Store size.Byte base disp from) =
    let m = memory_short from base disp in
    let c = then_short (byte_prefix from from base) (136 ∷ memory from base disp) 1 7 (byte_prefix_short from from base) (omega arith) in omega arith
instr_short (instr.Store size.Half base disp from) = let a = in_memory_short W32 137 from base disp in omega arith
instr_short (instr.Store size.Word base disp from) = let a = in_memory_short W32 137 from base disp in omega arith
instr_short (instr.Store size.Double base disp from) = let a = in_memory_short W64 137 from base disp in omega arith
instr_short (instr.StoreImm size.Byte base disp imm) = let a = store_imm_short W32 198 base disp 1 imm (omega arith) (omega arith) in omega arith
instr_short (instr.StoreImm size.Half base disp imm) = let a = store_imm_short W32 199 base disp 2 imm (omega arith) (omega arith) in omega arith
instr_short (instr.StoreImm size.Word base disp imm) = let a = store_imm_short W32 199 base disp 4 imm (omega arith) (omega arith) in omega arith
instr_short (instr.StoreImm size.Double base disp imm) = let a = store_imm_short W64 199 base disp 4 imm (omega arith) (omega arith) in omega arith
instr_short (instr.LoadLong base disp) = let a = in_memory_0f_short W32 16 0 base disp in omega arith
instr_short (instr.StoreLong base disp) = let a = in_memory_0f_short W32 17 0 base disp in omega arith
instr_short (instr.Lea to base disp) = let a = in_memory_short W64 141 to base disp in omega arith
instr_short (instr.LeaBy to base index disp) = let m = memory_by_short to base index disp in omega arith
instr_short (instr.Jump distance) = omega arith
instr_short (instr.JumpIf x distance) = omega arith
instr_short (instr.JumpShort distance) = omega arith
instr_short (instr.JumpIfShort x distance) = omega arith
instr_short (instr.Push reg) = let c = then_short (prefix W32 0 reg) ((80 + reg % 8) ∷ []) 1 1 (prefix_short W32 0 0 reg) (omega arith) in omega arith
instr_short (instr.Pop reg) = let c = then_short (prefix W32 0 reg) ((88 + reg % 8) ∷ []) 1 1 (prefix_short W32 0 0 reg) (omega arith) in omega arith
instr_short instr.CopyBytes = omega arith
instr_short instr.Return = omega arith

-- ---- instructions of one register

-- their REX says as much
rex_same : (d : ℕ) (b : Bool) → (d / 8 % 2 == 0) ≡ b → (rex W32 d d == 64) ≡ b
rex_same d true e = let z : d / 8 % 2 ≡ 0 = grind (arith, nat_tests) in grind (arith, nat_tests)
rex_same d false e = let z : d / 8 % 2 ≡ 1 = grind (arith, nat_tests) in grind (arith, nat_tests)

rex_one : (n d : ℕ) (b : Bool) → n < 8 → (d / 8 % 2 == 0) ≡ b → (rex W32 n d == 64) ≡ b
rex_one n d true h e = let z : d / 8 % 2 ≡ 0 = grind (arith, nat_tests) in let y : n / 8 % 2 ≡ 0 = omega arith in grind (arith, nat_tests)
rex_one n d false h e = let z : d / 8 % 2 ≡ 1 = grind (arith, nat_tests) in let y : n / 8 % 2 ≡ 0 = omega arith in grind (arith, nat_tests)

sized : (p d opcode m : ℕ) (b : Bool) → (p == 64) ≡ b → (d / 8 % 2 == 0) ≡ b → length ((cond (p == 64) [] (p ∷ [])) ++ opcode ∷ m ∷ []) ≡ cond (d / 8 % 2 == 0) 2 3
sized p d opcode m true e f = ap (λ t. length ((cond t [] (p ∷ [])) ++ opcode ∷ m ∷ [])) e ∙ ap (λ t. cond t 2 3) (sym f)
sized p d opcode m false e f = ap (λ t. length ((cond t [] (p ∷ [])) ++ opcode ∷ m ∷ [])) e ∙ ap (λ t. cond t 2 3) (sym f)

pub same_size : (w : Width) (opcode d : ℕ) → length (with_two w opcode d d) ≡ two_size w d
same_size W64 opcode d = refl
same_size W32 opcode d = sized (rex W32 d d) d opcode (two d d) (d / 8 % 2 == 0) (rex_same d (d / 8 % 2 == 0) refl) refl

pub one_size : (w : Width) (opcode n d : ℕ) → n < 8 → length (with_two w opcode n d) ≡ two_size w d
one_size W64 opcode n d h = refl
one_size W32 opcode n d h = sized (rex W32 n d) d opcode (two n d) (d / 8 % 2 == 0) (rex_one n d (d / 8 % 2 == 0) h refl) refl

pub two_size_few : (w : Width) (d : ℕ) → two_size w d ≤ 3
two_size_few W64 d = omega arith
two_size_few W32 d = by_test (d / 8 % 2 == 0)
  where
    by_test : (b : Bool) → cond b 2 3 ≤ 3
    by_test true = omega arith
    by_test false = omega arith

-- so code is at most so long
codes_short : (is : List Instr) → length (codes is) ≤ 15 * length is
codes_short [] = omega arith
codes_short (i ∷ is) = omega (arith, instr_short i, codes_short is, length-append (bytes_of i) (codes is))

-- ---- helpers, where their tests pass

-- rdi is no register that asks for a SIB
seen_short : (k : ℕ) → length (bytes_of (instr.LoadLong 7 k)) ≤ 7
seen_short k = omega (arith, number_short k)

lea_short : (k : ℕ) → length (bytes_of (instr.Lea 6 7 k)) ≤ 7
lea_short k = omega (arith, number_short k)

-- an instruction of so many bytes at most, and others
more_codes : (i : Instr) (is : List Instr) (m n : ℕ) → length (bytes_of i) ≤ m → length (codes is) ≤ n → length (codes (i ∷ is)) ≤ m + n
more_codes i is m n h k = then_short (bytes_of i) (codes is) m n h k

-- 64 bytes are copied
copied_short : (at : ℕ) (rest : List Instr) (n : ℕ) → length (codes rest) ≤ n → length (codes (copy_code at ++ rest)) ≤ 52 + n
copied_short at rest n h =
    let d = instr.LoadLong 7 (seen (at + 48)) in
    let s4 = more_codes d (instr.StoreLong 2 64 ∷ rest) 7 (4 + n) (seen_short (seen (at + 48))) (more_codes (instr.StoreLong 2 64) rest 4 n (omega arith) h) in
    let c = instr.LoadLong 7 (seen (at + 32)) in
    let s3 = more_codes c (instr.StoreLong 2 48 ∷ d ∷ instr.StoreLong 2 64 ∷ rest) 7 (4 + (7 + (4 + n))) (seen_short (seen (at + 32))) (more_codes (instr.StoreLong 2 48) (d ∷ instr.StoreLong 2 64 ∷ rest) 4 (7 + (4 + n)) (omega arith) s4) in
    let b = instr.LoadLong 7 (seen (at + 16)) in
    let l3 = c ∷ instr.StoreLong 2 48 ∷ d ∷ instr.StoreLong 2 64 ∷ rest in
    let s2 = more_codes b (instr.StoreLong 2 32 ∷ l3) 7 (4 + (7 + (4 + (7 + (4 + n))))) (seen_short (seen (at + 16))) (more_codes (instr.StoreLong 2 32) l3 4 (7 + (4 + (7 + (4 + n)))) (omega arith) s3) in
    let a = instr.LoadLong 7 (seen at) in
    let l2 = b ∷ instr.StoreLong 2 32 ∷ l3 in
    let s1 = more_codes a (instr.StoreLong 2 16 ∷ l2) 7 (4 + (7 + (4 + (7 + (4 + (7 + (4 + n))))))) (seen_short (seen at)) (more_codes (instr.StoreLong 2 16) l2 4 (7 + (4 + (7 + (4 + (7 + (4 + n)))))) (omega arith) s2) in
    let s0 = more_codes (instr.StoreImm size.Double 2 8 64) (a ∷ instr.StoreLong 2 16 ∷ l2) 8 (7 + (4 + (7 + (4 + (7 + (4 + (7 + (4 + n)))))))) (omega arith) s1 in
    omega arith

-- as many as a register says
sized_short : (at len : ℕ) (rest : List Instr) (n : ℕ) → length (bytes_of (instr.Store size.Double 2 8 len)) ≤ 4 → length (bytes_of (instr.Mov W64 1 len)) ≤ 3 → length (codes rest) ≤ n → length (codes (sized_code at len ++ rest)) ≤ 26 + n
sized_short at len rest n h k l =
    let behind = instr.Lea 7 2 16 ∷ instr.CopyBytes ∷ instr.Pop 7 ∷ instr.Pop 6 ∷ instr.Pop 1 ∷ rest in
    let b : length (codes behind) ≤ 9 + n = omega arith in
    let s6 = more_codes (instr.Lea 6 7 (seen at)) behind 7 (9 + n) (lea_short (seen at)) b in
    let s5 = more_codes (instr.Mov W64 1 len) (instr.Lea 6 7 (seen at) ∷ behind) 3 (7 + (9 + n)) k s6 in
    let pushed = instr.Push 1 ∷ instr.Push 6 ∷ instr.Push 7 ∷ instr.Mov W64 1 len ∷ instr.Lea 6 7 (seen at) ∷ behind in
    let s2 : length (codes pushed) ≤ 3 + (3 + (7 + (9 + n))) = omega arith in
    let s1 = more_codes (instr.Store size.Double 2 8 len) pushed 4 (3 + (3 + (7 + (9 + n)))) h s2 in
    omega arith

pub send_few : (at : ℕ) → length (codes (send_good at)) ≤ 80
send_few at =
    let e = good_end 0 12 in
    let c = copied_short at e 8 (omega arith) in
    omega arith

pub output_few : (at : ℕ) → length (codes (output_good at)) ≤ 80
output_few at =
    let e = good_end 8 5 in
    let c = copied_short at e 8 (omega arith) in
    omega arith

pub send_sized_few : (at : ℕ) → length (codes (send_sized_good at)) ≤ 80
send_sized_few at =
    let e = good_end 0 19 in
    let c = sized_short at 9 e 8 (omega arith) (omega arith) (omega arith) in
    omega arith

pub output_sized_few : (at : ℕ) → length (codes (output_sized_good at)) ≤ 80
output_sized_few at =
    let e = good_end 8 12 in
    let c = sized_short at 12 e 8 (omega arith) (omega arith) (omega arith) in
    omega arith

pub good_few : (h : Helper) (at : Option ℕ) → length (codes (good_of h at)) ≤ 80
good_few helper.Send (Some at) = send_few at
good_few helper.Output (Some at) = output_few at
good_few helper.SendSized (Some at) = send_sized_few at
good_few helper.OutputSized (Some at) = output_sized_few at
good_few helper.Send None = lit≤ tt
good_few helper.Output None = lit≤ tt
good_few helper.SendSized None = lit≤ tt
good_few helper.OutputSized None = lit≤ tt

-- ---- what a slot has

-- at most so many instructions
abbrev Few : List Instr → Type 0
Few is = length is ≤ 60

few_codes : (is : List Instr) → Few is → length (codes is) ≤ 1000
few_codes is h = omega (arith, codes_short is)

body_few : (b : Body) (is : List Instr) → IsBody b is → length is ≤ 3
body_few Empty is h = omega (arith, ap length h)
body_few (One i) is h = omega (arith, ap length h)
body_few (Two i j) is h = omega (arith, ap length h)
body_few (Three i j k) is h = omega (arith, ap length h)

done_few : (t : SlotTask) (is : List Instr) → IsDone t is → length is ≤ 50
done_few (task.Send at) is h = omega (arith, ap length h)
done_few (task.Output at) is h = omega (arith, ap length h)
done_few (task.SendSized at) is h = omega (arith, ap length h)
done_few (task.OutputSized at) is h = omega (arith, ap length h)
done_few task.SendBy is h = omega (arith, ap length h)
done_few task.OutputBy is h = omega (arith, ap length h)
done_few task.SendSizedBy is h = omega (arith, ap length h)
done_few task.OutputSizedBy is h = omega (arith, ap length h)
done_few (task.Compute op.Div w dst o) is h = omega (arith, ap length h)
done_few (task.Compute op.Mod w dst o) is h = omega (arith, ap length h)
done_few (task.Compute op.Sdiv w dst o) is h = omega (arith, ap length h)
done_few (task.Compute op.Smod w dst o) is h = omega (arith, ap length h)
done_few t is h = let k = body_few (body_of t) is h in omega (arith, k)

flushed_few : (k : ℕ) → length (flushed k) ≤ 1
flushed_few k = by_test (k == 0)
  where
    by_test : (b : Bool) → length (cond b [] (instr.Lea 11 11 k ∷ [])) ≤ 1
    by_test true = omega arith
    by_test false = omega arith

skipped_few : (d : ℕ) → length (skipped d) ≤ 1
skipped_few d = by_test (d == 0)
  where
    by_test : (b : Bool) → length (cond b [] (jump_code d ∷ [])) ≤ 1
    by_test true = omega arith
    by_test false = omega arith

pop_few : (b : Bool) (r : ℕ) → length (pop_if b r) ≤ 1
pop_few true r = omega arith
pop_few false r = omega arith

restoring_few : (s : SavedRegisters) → length (restoring s) ≤ 6
restoring_few s =
    let b3 = pop_if s.rbx 3 in
    let b5 = pop_if s.rbp 5 ++ b3 in
    let b12 = pop_if s.r12 12 ++ b5 in
    let b13 = pop_if s.r13 13 ++ b12 in
    let b14 = pop_if s.r14 14 ++ b13 in
    let n5 = length-append (pop_if s.rbp 5) b3 in
    let n12 = length-append (pop_if s.r12 12) b5 in
    let n13 = length-append (pop_if s.r13 13) b12 in
    let n14 = length-append (pop_if s.r14 14) b13 in
    let n15 = length-append (pop_if s.r15 15) b14 in
    omega (arith, pop_few s.rbx 3, pop_few s.rbp 5, pop_few s.r12 12, pop_few s.r13 13, pop_few s.r14 14, pop_few s.r15 15)

plain_few : (pending tails : List ℕ) (slot : ℕ) (t : SlotTask) (is : List Instr) → Plain pending tails slot t is → Few is
plain_few pending tails slot t is s =
    let e = ap length s.is_are in
    let a = length-append s.bs (flushed s.k ++ skipped s.d) in
    let b = length-append (flushed s.k) (skipped s.d) in
    let c = done_few t s.bs s.done in
    omega (arith, flushed_few s.k, skipped_few s.d)

-- the code of a slot's task is at most so long
pub serves_short : (pending tails : List ℕ) (saved : SavedRegisters) (slot : ℕ) (t : SlotTask) (is : List Instr) → Serves pending tails saved slot t is → length (codes is) ≤ 1000
serves_short pending tails saved slot (task.Branch x w dst o to) is s =
    few_codes is (let e = ap length s.is_are in let a = length-append (flushed s.k) (compare_code x w dst.number o ∷ jump_if_code (condition_of x) s.d ∷ []) in omega (arith, flushed_few s.k))
serves_short pending tails saved slot (task.Leap to) is s =
    few_codes is (let e = ap length s.is_are in let a = length-append (flushed s.k) (jump_code s.d ∷ []) in omega (arith, flushed_few s.k))
serves_short pending tails saved slot task.Exit is s =
    few_codes is (let e = ap length s.is_are in let a = length-append (flushed s.k) (leaving saved) in let b = length-append (ending ∷ restoring saved) (instr.Return ∷ []) in omega (arith, flushed_few s.k, restoring_few saved))
serves_short pending tails saved slot task.Dead is s = few_codes is (omega (arith, ap length s))
serves_short pending tails saved slot t is s = few_codes is (plain_few pending tails slot t is s)

-- that of two slots too
pub fused_short : (pending tails : List ℕ) (slot : ℕ) (i : Instr) (u : SlotTask) (is : List Instr) → Fuses pending tails slot i u is → length (codes is) ≤ 1000
fused_short pending tails slot i u is s =
    few_codes is (let e = ap length s.is_are in let a = length-append (flushed s.k) (skipped s.d) in omega (arith, flushed_few s.k, skipped_few s.d))

pub slot_short : (o : Option Instr) (tasks : List SlotTask) (pending tails : List ℕ) (saved : SavedRegisters) (slot : ℕ) (t : SlotTask) (is : List Instr) → ServesBy o tasks pending tails saved slot t is → length (codes is) ≤ 1000
slot_short None tasks pending tails saved slot t is s = serves_short pending tails saved slot t is s
slot_short (Some i) tasks pending tails saved slot t is s = fused_short pending tails slot i (task_at tasks (slot + 1)) is s
