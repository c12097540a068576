-- A reader of the bytes that `bytes_of` writes (Intel SDM volume 2, chapter 2).
use Rattle.std.specs.Prelude.{◌≡◌, ◌≢◌, Bool, ℕ, ◌+◌, ◌-◌, ◌*◌, ◌/◌, ◌%◌, ◌^◌, ◌<◌, ◌==◌, nat_lt, List, [], ◌∷◌, ◌++◌, Option, Some, None}
use Rattle.std.specs.Prelude.{if◌then◌else◌}
use Rattle.decode.specs.declared.insn.Width.{Width}
use Rattle.decode.specs.declared.insn.Width.TheVariants.{W32, W64}
use Rattle.decode.specs.declared.insn.Extension.TheVariants as extension
use Rattle.decode.specs.declared.insn.Size.{Size}
use Rattle.decode.specs.declared.insn.Size.TheVariants as size
use Rattle.decode.specs.declared.insn.SignedSize.TheVariants as signed
use Rattle.x86.specs.declared.instruction.Alu.{Alu}
use Rattle.x86.specs.declared.instruction.Alu.TheVariants as alu
use Rattle.x86.specs.declared.instruction.Shift.{Shift}
use Rattle.x86.specs.declared.instruction.Shift.TheVariants as shift
use Rattle.x86.specs.declared.instruction.ConditionCode.{ConditionCode}
use Rattle.x86.specs.declared.instruction.ConditionCode.TheVariants as condition
use Rattle.x86.specs.declared.instruction.Instr.{Instr}
use Rattle.x86.specs.declared.instruction.Instr.TheVariants as instr
use Rattle.x86.specs.Encoding.{bytes_of}

-- what is read, and the bytes after it
abbrev pub Reading : Type 0 → Type 0
Reading A = Option (A × List ℕ)

-- goes on reading after what was read
abbrev pub behind : {A B : Type 0} → Reading A → (A → List ℕ → Reading B) → Reading B
behind None f = None
behind (Some (a, bs)) f = f a bs

-- ---- numbers

-- a byte
abbrev pub one : List ℕ → Reading ℕ
one [] = None
one (b ∷ bs) = Some (b, bs)

-- a number of twice as many bytes, the lower half first; `values` is how many values a half has
abbrev pub twice : ℕ → (List ℕ → Reading ℕ) → List ℕ → Reading ℕ
twice values half bs = behind (half bs) (λ low bs. behind (half bs) (λ high bs. Some (low + values * high, bs)))

-- a number of two bytes
abbrev pub two_bytes : List ℕ → Reading ℕ
two_bytes = twice (2 ^ 8) one

-- a number of four bytes
abbrev pub four_bytes : List ℕ → Reading ℕ
four_bytes = twice (2 ^ 16) two_bytes

-- a number of eight bytes
abbrev pub eight_bytes : List ℕ → Reading ℕ
eight_bytes = twice (2 ^ 32) four_bytes

-- a byte, sign-extended to 32 bits
abbrev pub spread : ℕ → ℕ
spread b = if nat_lt b 128 then b else b + (2 ^ 32 - 2 ^ 8)

-- a byte, sign-extended to 32 bits, with the bytes after it
abbrev pub signed_byte : List ℕ → Reading ℕ
signed_byte bs = behind (one bs) (λ b bs. Some (spread b, bs))

-- ---- ModR/M

-- REX is 0100WRXB
abbrev pub is_rex : ℕ → Bool
is_rex p = p / 16 == 4

-- REX's bit W: 64 bits, or 32
abbrev pub width_of : ℕ → Width
width_of p = if p / 8 % 2 == 1 then W64 else W32

-- REX's bit R comes before bits 3 to 5 of a ModR/M, X before those of a SIB, B before bits 0 to 2 of either
abbrev pub reg_of : ℕ → ℕ → ℕ
reg_of p m = 8 * (p / 4 % 2) + m / 8 % 8

-- the index of a SIB
abbrev pub index_of : ℕ → ℕ → ℕ
index_of p s = 8 * (p / 2 % 2) + s / 8 % 8

-- the base of a SIB, or the r/m of a ModR/M
abbrev pub base_of : ℕ → ℕ → ℕ
base_of p m = 8 * (p % 2) + m % 8

-- a register; memory at a base; memory at a base and an index
pub data Place : Type 0 where
  Register : ℕ → Place
  Memory : ℕ → ℕ → Place
  MemoryBy : ℕ → ℕ → ℕ → Place

-- a displacement of 8 bits if the mode is 01, else of 32
abbrev pub displacement : ℕ → List ℕ → Reading ℕ
displacement mode bs = if mode == 1 then signed_byte bs else four_bytes bs

-- memory by a SIB; index 100 is none
abbrev pub by_sib : ℕ → ℕ → List ℕ → Reading Place
by_sib p mode bs =
    behind (one bs) (λ s bs. behind (displacement mode bs) (λ d bs.
    Some (if index_of p s == 4 then Memory (base_of p s) d else MemoryBy (base_of p s) (index_of p s) d, bs)))

-- what the mode and r/m of a ModR/M say: 11 a register; r/m 100 a SIB
abbrev pub place_of : ℕ → ℕ → List ℕ → Reading Place
place_of p m bs =
    if m / 64 == 3 then Some (Register (base_of p m), bs)
    else if m % 8 == 4 then by_sib p (m / 64) bs
    else behind (displacement (m / 64) bs) (λ d bs. Some (Memory (base_of p m) d, bs))

-- the reg and the place of a ModR/M
abbrev pub modrm : ℕ → List ℕ → Reading (ℕ × Place)
modrm p bs = behind (one bs) (λ m bs. behind (place_of p m bs) (λ place bs. Some ((reg_of p m, place), bs)))

-- ---- forms

-- an instruction, with nothing more to read
abbrev pub whole : Instr → List ℕ → Reading Instr
whole i bs = Some (i, bs)

-- the operation /n of 81 and 83
abbrev pub alu_of : ℕ → Option Alu
alu_of n =
    if n == 0 then Some alu.Add else if n == 1 then Some alu.Or else if n == 4 then Some alu.And
    else if n == 5 then Some alu.Sub else if n == 6 then Some alu.Xor else if n == 7 then Some alu.Cmp else None

-- the shift /n of C1 and d3
abbrev pub shift_of : ℕ → Option Shift
shift_of n = if n == 4 then Some shift.Left else if n == 5 then Some shift.Right else if n == 7 then Some shift.RightSigned else None

-- the condition n of 0F 80 + n and 70 + n
abbrev pub condition_of : ℕ → Option ConditionCode
condition_of n =
    if n == 2 then Some condition.Below else if n == 3 then Some condition.AboveEqual else if n == 4 then Some condition.Equal
    else if n == 5 then Some condition.NotEqual else if n == 6 then Some condition.BelowEqual else if n == 7 then Some condition.Above
    else if n == 12 then Some condition.Less else if n == 13 then Some condition.GreaterEqual else if n == 14 then Some condition.LessEqual
    else if n == 15 then Some condition.Greater else None

-- an operation, if there is one
abbrev pub with_op : {A : Type 0} → Option A → (A → Reading Instr) → Reading Instr
with_op None f = None
with_op (Some op) f = f op

-- F7 /n
abbrev pub group_f7 : Width → ℕ → ℕ → List ℕ → Reading Instr
group_f7 w n r bs =
    if n == 0 then behind (four_bytes bs) (λ imm. whole (instr.TestImm w r imm))
    else if n == 3 then whole (instr.Neg w r) bs else if n == 6 then whole (instr.Div w r) bs
    else if n == 7 then whole (instr.SignedDiv w r) bs else None

-- an opcode of one byte, with the reg of a ModR/M and a register
abbrev pub on_register : ℕ → Width → ℕ → ℕ → List ℕ → Reading Instr
on_register op w n r bs =
    if op == 137 then whole (instr.Mov w r n) bs  -- 89 /r
    else if op == 199 then behind (four_bytes bs) (λ imm. whole (instr.MovSigned r imm))  -- C7 /0 id
    else if op == 99 then whole (instr.MovSx extension.W64From32 n r) bs  -- 63 /r
    else if op == 131 then with_op (alu_of n) (λ a. behind (signed_byte bs) (λ imm. whole (instr.AluImm a w r imm)))  -- 83 /n ib
    else if op == 129 then with_op (alu_of n) (λ a. behind (four_bytes bs) (λ imm. whole (instr.AluImm a w r imm)))  -- 81 /n id
    else if op == 133 then whole (instr.Test w r n) bs  -- 85 /r
    else if op == 247 then group_f7 w n r bs
    else if op == 105 then behind (four_bytes bs) (λ imm. whole (instr.MulImm w n r imm))  -- 69 /r id
    else if op == 193 then with_op (shift_of n) (λ s. behind (one bs) (λ count. whole (instr.Shift s w r count)))  -- C1 /n ib
    else if op == 211 then with_op (shift_of n) (λ s. whole (instr.ShiftBy s w r) bs)  -- d3 /n
    else if op % 8 == 1 then with_op (alu_of (op / 8)) (λ a. whole (instr.Alu a w r n) bs)  -- 8n + 1 /r
    else None

-- of 32 bits or 64
abbrev pub sized : Width → Size
sized W32 = size.Word
sized W64 = size.Double

-- the same with memory
abbrev pub on_memory : ℕ → Width → ℕ → ℕ → ℕ → List ℕ → Reading Instr
on_memory op w n base d bs =
    if op == 139 then whole (instr.Load (sized w) n base d) bs  -- 8B /r
    else if op == 137 then whole (instr.Store (sized w) base d n) bs  -- 89 /r
    else if op == 136 then whole (instr.Store size.Byte base d n) bs  -- 88 /r
    else if op == 99 then whole (instr.LoadSx signed.Word n base d) bs  -- 63 /r
    else if op == 198 then behind (one bs) (λ imm. whole (instr.StoreImm size.Byte base d imm))  -- C6 /0 ib
    else if op == 199 then behind (four_bytes bs) (λ imm. whole (instr.StoreImm (sized w) base d imm))  -- C7 /0 id
    else if op == 141 then whole (instr.Lea n base d) bs  -- 8D /r
    else None

-- an opcode of one byte, on a register or memory
abbrev pub by_place : ℕ → Width → ℕ → Place → List ℕ → Reading Instr
by_place op w n (Register r) bs = on_register op w n r bs
by_place op w n (Memory base d) bs = on_memory op w n base d bs
by_place op w n (MemoryBy base index d) bs = if op == 141 then whole (instr.LeaBy n base index d) bs else None

-- an opcode after 0F
abbrev pub by_place_0f : ℕ → Width → ℕ → Place → List ℕ → Reading Instr
by_place_0f op W32 n (Register r) bs =
    if op == 183 then whole (instr.MovZx n r) bs  -- 0F B7 /r
    else if op == 190 then whole (instr.MovSx extension.W32From8 n r) bs  -- 0F BE /r
    else if op == 191 then whole (instr.MovSx extension.W32From16 n r) bs  -- 0F BF /r
    else if op == 175 then whole (instr.Mul W32 n r) bs  -- 0F AF /r
    else None
by_place_0f op W64 n (Register r) bs =
    if op == 190 then whole (instr.MovSx extension.W64From8 n r) bs
    else if op == 191 then whole (instr.MovSx extension.W64From16 n r) bs
    else if op == 175 then whole (instr.Mul W64 n r) bs
    else None
by_place_0f op w n (Memory base d) bs =
    if op == 182 then whole (instr.Load size.Byte n base d) bs  -- 0F B6 /r
    else if op == 183 then whole (instr.Load size.Half n base d) bs  -- 0F B7 /r
    else if op == 190 then whole (instr.LoadSx signed.Byte n base d) bs  -- REX.W 0F BE /r
    else if op == 191 then whole (instr.LoadSx signed.Half n base d) bs  -- REX.W 0F BF /r
    else if op == 16 then whole (instr.LoadLong base d) bs  -- 0F 10 /r
    else if op == 17 then whole (instr.StoreLong base d) bs  -- 0F 11 /r
    else None
by_place_0f op w n (MemoryBy base index d) bs = None

-- an opcode after 66
abbrev pub by_place_66 : ℕ → ℕ → Place → List ℕ → Reading Instr
by_place_66 op n (Register r) bs = if op == 193 then behind (one bs) (λ count. whole (instr.SwapLow r)) else None  -- 66 C1 /0 ib
by_place_66 op n (Memory base d) bs =
    if op == 137 then whole (instr.Store size.Half base d n) bs  -- 66 89 /r
    else if op == 199 then behind (two_bytes bs) (λ imm. whole (instr.StoreImm size.Half base d imm))  -- 66 C7 /0 iw
    else None
by_place_66 op n (MemoryBy base index d) bs = None

-- a number into a register, of 32 bits or 64
abbrev pub move_number : ℕ → ℕ → List ℕ → Reading Instr
move_number p r bs = elim (width_of p) as (λ w. Reading Instr) [
  | W32 ↦ behind (four_bytes bs)
      (λ imm. whole (instr.MovImm r imm))
  | W64 ↦ behind (eight_bytes bs) (λ imm. whole (instr.MovWide r imm))
]

-- an opcode of one byte, with its REX; the low three bits of 50, 58 and B8 are a register
abbrev pub by_opcode : ℕ → ℕ → List ℕ → Reading Instr
by_opcode p op bs =
    if op / 8 == 10 then whole (instr.Push (base_of p op)) bs  -- 50+r
    else if op / 8 == 11 then whole (instr.Pop (base_of p op)) bs  -- 58+r
    else if op / 8 == 23 then move_number p (base_of p op) bs  -- B8+r id, REX.W B8+r io
    else if op == 153 then whole (instr.Spread (width_of p)) bs  -- 99
    else behind (modrm p bs) (λ (n, place). by_place op (width_of p) n place)

-- an opcode after 0F, with its REX; the low three bits of C8 are a register
abbrev pub by_opcode_0f : ℕ → ℕ → List ℕ → Reading Instr
by_opcode_0f p op bs =
    if op / 8 == 25 then whole (instr.Swap (width_of p) (base_of p op)) bs  -- 0F C8+r
    else behind (modrm p bs) (λ (n, place). by_place_0f op (width_of p) n place)

-- after a REX
abbrev pub behind_rex : ℕ → List ℕ → Reading Instr
behind_rex p bs =
    behind (one bs) (λ op bs. if op == 15 then behind (one bs) (by_opcode_0f p) else by_opcode p op bs)

-- no REX means the same as a REX that says nothing
abbrev pub no_rex : ℕ
no_rex = 64

-- after 66
abbrev pub by_opcode_66 : ℕ → ℕ → List ℕ → Reading Instr
by_opcode_66 p op bs = behind (modrm p bs) (λ (n, place). by_place_66 op n place)

-- after 66: a REX, if there is one, and an opcode
abbrev pub behind_66 : List ℕ → Reading Instr
behind_66 bs =
    behind (one bs) (λ b bs. if is_rex b then behind (one bs) (by_opcode_66 b) else by_opcode_66 no_rex b bs)

-- after 0F without a REX, which jumps have too
abbrev pub behind_0f : ℕ → List ℕ → Reading Instr
behind_0f b bs =
    if b / 16 == 8 then with_op (condition_of (b - 128))
    (λ x. behind (four_bytes bs) (λ distance. whole (instr.JumpIf x distance)))  -- 0F 80+cc cd
    else by_opcode_0f no_rex b bs

-- instructions without a REX
abbrev pub without_rex : ℕ → List ℕ → Reading Instr
without_rex b bs =
    if b == 102 then behind_66 bs
    else if b == 233 then behind (four_bytes bs) (λ distance. whole (instr.Jump distance))  -- E9 cd
    else if b == 235 then behind (one bs) (λ distance. whole (instr.JumpShort distance))  -- EB cb
    else if b / 16 == 7 then with_op (condition_of (b - 112))
    (λ x. behind (one bs) (λ distance. whole (instr.JumpIfShort x distance)))  -- 70+cc cb
    else if b == 15 then behind (one bs) behind_0f
    else if b == 243 then behind (one bs) (λ op bs. if op == 164 then whole instr.CopyBytes bs else None)  -- F3 A4
    else if b == 195 then whole instr.Return bs  -- C3
    else by_opcode no_rex b bs

-- the first instruction, and the bytes after it
abbrev pub read : List ℕ → Reading Instr
read bs = behind (one bs) (λ b bs. if is_rex b then behind_rex b bs else without_rex b bs)

-- ---- what can be read back

-- a register's number
abbrev pub IsReg : ℕ → Type 0
IsReg r = r < 16

-- 32 bits
abbrev pub IsNumber : ℕ → Type 0
IsNumber v = v < 2 ^ 32

-- a mov of a number to memory writes as many bits as the size, at most 32
abbrev pub IsNumberOf : Size → ℕ → Type 0
IsNumberOf size.Byte v = v < 2 ^ 8
IsNumberOf size.Half v = v < 2 ^ 16
IsNumberOf size.Word v = v < 2 ^ 32
IsNumberOf size.Double v = v < 2 ^ 32

-- registers have the numbers of registers, each number fits the bytes that hold it, and rsp is no index
abbrev pub IsPlain : Instr → Type 0
IsPlain (instr.Mov width to from) = IsReg to × IsReg from
IsPlain (instr.MovImm to imm) = IsReg to × IsNumber imm
IsPlain (instr.MovSigned to imm) = IsReg to × IsNumber imm
IsPlain (instr.MovWide to imm) = IsReg to × (imm < 2 ^ 64)
IsPlain (instr.MovSx x to from) = IsReg to × IsReg from
IsPlain (instr.MovZx to from) = IsReg to × IsReg from
IsPlain (instr.Alu op width to from) = IsReg to × IsReg from
IsPlain (instr.AluImm op width to imm) = IsReg to × IsNumber imm
IsPlain (instr.Test width a b) = IsReg a × IsReg b
IsPlain (instr.TestImm width a imm) = IsReg a × IsNumber imm
IsPlain (instr.Mul width to from) = IsReg to × IsReg from
IsPlain (instr.MulImm width to from imm) = IsReg to × IsReg from × IsNumber imm
IsPlain (instr.Neg width to) = IsReg to
IsPlain (instr.Shift op width to count) = IsReg to × (count < 2 ^ 8)
IsPlain (instr.ShiftBy op width to) = IsReg to
IsPlain (instr.SwapLow to) = IsReg to
IsPlain (instr.Swap width to) = IsReg to
IsPlain (instr.Div width by) = IsReg by
IsPlain (instr.SignedDiv width by) = IsReg by
IsPlain (instr.Spread width) = Unit {0}
IsPlain (instr.Load size to base disp) = IsReg to × IsReg base × IsNumber disp
IsPlain (instr.LoadSx size to base disp) = IsReg to × IsReg base × IsNumber disp
IsPlain (instr.Store size base disp from) = IsReg base × IsNumber disp × IsReg from
IsPlain (instr.StoreImm size base disp imm) = IsReg base × IsNumber disp × IsNumberOf size imm
IsPlain (instr.LoadLong base disp) = IsReg base × IsNumber disp
IsPlain (instr.StoreLong base disp) = IsReg base × IsNumber disp
IsPlain (instr.Lea to base disp) = IsReg to × IsReg base × IsNumber disp
IsPlain (instr.LeaBy to base index disp) = IsReg to × IsReg base × IsReg index × (index ≢ 4) × IsNumber disp
IsPlain (instr.Jump distance) = IsNumber distance
IsPlain (instr.JumpIf x distance) = IsNumber distance
IsPlain (instr.JumpShort distance) = distance < 2 ^ 8
IsPlain (instr.JumpIfShort x distance) = distance < 2 ^ 8
IsPlain (instr.Push reg) = IsReg reg
IsPlain (instr.Pop reg) = IsReg reg
IsPlain instr.CopyBytes = Unit {0}
IsPlain instr.Return = Unit {0}

-- ---- laws

-- from the bytes of an instruction, followed by any bytes, the instruction is read, and those bytes are left
abbrev pub ReadsBack : Type 0
ReadsBack = (i : Instr) (rest : List ℕ) → IsPlain i → read (bytes_of i ++ rest) ≡ Some (i, rest)

-- no bytes begin with those of two instructions
abbrev pub TellOne : Type 0
TellOne = (i j : Instr) (r s : List ℕ) → IsPlain i → IsPlain j → bytes_of i ++ r ≡ bytes_of j ++ s → (i ≡ j) × (r ≡ s)
