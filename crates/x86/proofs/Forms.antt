-- Each form read back.
use Rattle.std.proofs.Common.{◌≡◌, ℕ, zero, suc, ◌+◌, ◌/◌, ◌%◌, ◌^◌, ◌<◌, Bool, true, false, List, [], ◌∷◌, ◌++◌, Some, None, refl, sym, ap, ◌∙◌, arith, append_assoc}
use Rattle.std.specs.Prelude.{if◌then◌else◌, ◌==◌, ◌&&◌, ◌≢◌, nat_lt}
use Rattle.std.proofs.lemmas.Bool.Decides.{Decides-eqb}
use Rattle.decode.specs.declared.insn.Width.{Width}
use Rattle.decode.specs.declared.insn.Width.TheVariants.{W32, W64}
use Rattle.decode.specs.declared.insn.Extension.{Extension}
use Rattle.decode.specs.declared.insn.Extension.TheVariants as extension
use Rattle.decode.specs.declared.insn.Size.{Size}
use Rattle.decode.specs.declared.insn.Size.TheVariants as size
use Rattle.decode.specs.declared.insn.SignedSize.{SignedSize}
use Rattle.decode.specs.declared.insn.SignedSize.TheVariants as signed
use Rattle.operations.specs.Bytes.{le_bytes}
use Rattle.x86.specs.declared.instruction.Alu.{Alu}
use Rattle.x86.specs.declared.instruction.Alu.TheVariants as alu
use Rattle.x86.specs.declared.instruction.Shift.{Shift}
use Rattle.x86.specs.declared.instruction.Shift.TheVariants as shift
use Rattle.x86.specs.declared.instruction.ConditionCode.{ConditionCode}
use Rattle.x86.specs.declared.instruction.ConditionCode.TheVariants as condition
use Rattle.x86.specs.declared.instruction.Instr.{Instr}
use Rattle.x86.specs.declared.instruction.Instr.TheVariants as instr
use Rattle.x86.specs.Encoding.{rex, rex_by, prefix, prefix_by, byte_prefix, two, with_two, with_two_0f, with_memory, with_memory_0f, memory, memory_by, op_number, shift_number, is_small, bytes_of}
use Rattle.x86.specs.Readings.{Reading, behind, one, width_of, alu_of, shift_of, with_op, whole, four_bytes, eight_bytes, signed_byte, Place, Register, Memory, MemoryBy, modrm, on_register, on_memory, by_place, by_place_0f, by_place_66, behind_rex, behind_66, by_opcode_66, no_rex, without_rex, read, IsNumberOf, ReadsBack, TellOne}
use Rattle.x86.proofs.Numbers.{read_two, read_four, read_eight, spread_small}
use Rattle.x86.proofs.Places.{rex_bits, modrm_two, modrm_memory, modrm_memory_by}

-- ---- behind a REX, or without one

at_rex : (w : Width) (reg index rm : ℕ) (bs : List ℕ) → read (rex_by w reg index rm ∷ bs) ≡ behind_rex (rex_by w reg index rm) bs
at_rex w reg index rm bs =
    let p = rex_by w reg index rm in
    ap (λ n. if n == 4 then behind_rex p bs else without_rex p bs) (rex_bits w reg index rm).high

-- without a REX these bytes are read as after a REX that says nothing
abbrev IsBare : List ℕ → Type 0
IsBare bs = read bs ≡ behind_rex no_rex bs

-- of a REX and of none the same is read, by its bits
by_bits : (b : Bool) (p : ℕ) (bs : List ℕ) → (p == 64) ≡ b → read (p ∷ bs) ≡ behind_rex p bs → IsBare bs → read ((if b then [] else p ∷ []) ++ bs) ≡ behind_rex p bs
by_bits true p bs e at bare = let f : p ≡ 64 = (Decides-eqb p 64).0 e in bare ∙ ap (λ q. behind_rex q bs) (sym f)
by_bits false p bs e at bare = at

prefixed : (w : Width) (reg index rm : ℕ) (bs : List ℕ) → IsBare bs → read (prefix_by w reg index rm ++ bs) ≡ behind_rex (rex_by w reg index rm) bs
prefixed W64 reg index rm bs bare = at_rex W64 reg index rm bs
prefixed W32 reg index rm bs bare = by_bits (rex_by W32 reg index rm == 64) (rex_by W32 reg index rm) bs refl (at_rex W32 reg index rm bs) bare

prefixed_byte : (byte reg rm : ℕ) (bs : List ℕ) → IsBare bs → read (byte_prefix byte reg rm ++ bs) ≡ behind_rex (rex W32 reg rm) bs
prefixed_byte byte reg rm bs bare = by_test (nat_lt byte 4)
  where
    by_test : (t : Bool) → read ((if t && rex W32 reg rm == 64 then [] else rex W32 reg rm ∷ []) ++ bs) ≡ behind_rex (rex W32 reg rm) bs
    by_test true = by_bits (rex W32 reg rm == 64) (rex W32 reg rm) bs refl (at_rex W32 reg 0 rm bs) bare
    by_test false = at_rex W32 reg 0 rm bs

-- these opcodes have a ModR/M, and no other meaning without a REX
abbrev HasModrm : ℕ → Type 0
HasModrm op = (p : ℕ) (bs : List ℕ) → behind_rex p (op ∷ bs) ≡ behind (modrm p bs) (λ (n, place). by_place op (width_of p) n place)

abbrev HasModrm_0f : ℕ → Type 0
HasModrm_0f op = (p : ℕ) (bs : List ℕ) → behind_rex p (15 ∷ op ∷ bs) ≡ behind (modrm p bs) (λ (n, place). by_place_0f op (width_of p) n place)

abbrev Bare : ℕ → Type 0
Bare op = (bs : List ℕ) → IsBare (op ∷ bs)

abbrev Bare_0f : ℕ → Type 0
Bare_0f op = (bs : List ℕ) → IsBare (15 ∷ op ∷ bs)

by_modrm : (op : ℕ) (w : Width) (reg index rm : ℕ) (bs rest : List ℕ) (place : Place) → HasModrm op
    → modrm (rex_by w reg index rm) bs ≡ Some ((reg, place), rest) → behind_rex (rex_by w reg index rm) (op ∷ bs) ≡ by_place op w reg place rest
by_modrm op w reg index rm bs rest place has e =
    let p = rex_by w reg index rm in
    has p bs ∙ ap (λ z. behind z (λ (n, place). by_place op (width_of p) n place)) e
    ∙ ap (λ v. by_place op v reg place rest) (rex_bits w reg index rm).width

by_modrm_0f : (op : ℕ) (w : Width) (reg index rm : ℕ) (bs rest : List ℕ) (place : Place) → HasModrm_0f op
    → modrm (rex_by w reg index rm) bs ≡ Some ((reg, place), rest) → behind_rex (rex_by w reg index rm) (15 ∷ op ∷ bs) ≡ by_place_0f op w reg place rest
by_modrm_0f op w reg index rm bs rest place has e =
    let p = rex_by w reg index rm in
    has p bs ∙ ap (λ z. behind z (λ (n, place). by_place_0f op (width_of p) n place)) e
    ∙ ap (λ v. by_place_0f op v reg place rest) (rex_bits w reg index rm).width

registers : (op : ℕ) (w : Width) (reg rm : ℕ) (rest : List ℕ) → HasModrm op → Bare op → reg < 16 → rm < 16
    → read (with_two w op reg rm ++ rest) ≡ on_register op w reg rm rest
registers op w reg rm rest has bare h k =
    let x = rex_bits w reg 0 rm in
    ap read (append_assoc (prefix w reg rm) (op ∷ two reg rm ∷ []) rest)
    ∙ prefixed w reg 0 rm (op ∷ two reg rm ∷ rest) (bare (two reg rm ∷ rest))
    ∙ by_modrm op w reg 0 rm (two reg rm ∷ rest) rest (Register rm) has (modrm_two (rex w reg rm) reg rm rest x.r x.b h k)

-- and then a number
registers_then : (op : ℕ) (w : Width) (reg rm : ℕ) (more rest : List ℕ) → HasModrm op → Bare op → reg < 16 → rm < 16
    → read ((with_two w op reg rm ++ more) ++ rest) ≡ on_register op w reg rm (more ++ rest)
registers_then op w reg rm more rest has bare h k =
    ap read (append_assoc (with_two w op reg rm) more rest) ∙ registers op w reg rm (more ++ rest) has bare h k

registers_0f : (op : ℕ) (w : Width) (reg rm : ℕ) (rest : List ℕ) → HasModrm_0f op → Bare_0f op → reg < 16 → rm < 16
    → read (with_two_0f w op reg rm ++ rest) ≡ by_place_0f op w reg (Register rm) rest
registers_0f op w reg rm rest has bare h k =
    let x = rex_bits w reg 0 rm in
    ap read (append_assoc (prefix w reg rm) (15 ∷ op ∷ two reg rm ∷ []) rest)
    ∙ prefixed w reg 0 rm (15 ∷ op ∷ two reg rm ∷ rest) (bare (two reg rm ∷ rest))
    ∙ by_modrm_0f op w reg 0 rm (two reg rm ∷ rest) rest (Register rm) has (modrm_two (rex w reg rm) reg rm rest x.r x.b h k)

in_memory : (op : ℕ) (w : Width) (reg base disp : ℕ) (rest : List ℕ) → HasModrm op → Bare op → reg < 16 → base < 16 → disp < 2 ^ 32
    → read (with_memory w op reg base disp ++ rest) ≡ on_memory op w reg base disp rest
in_memory op w reg base disp rest has bare h k l =
    let x = rex_bits w reg 0 base in
    let m = memory reg base disp in
    ap read (append_assoc (prefix w reg base) (op ∷ m) rest)
    ∙ prefixed w reg 0 base (op ∷ (m ++ rest)) (bare (m ++ rest))
    ∙ by_modrm op w reg 0 base (m ++ rest) rest (Memory base disp) has (modrm_memory (rex w reg base) reg base disp rest x.r x.x x.b h k l)

in_memory_0f : (op : ℕ) (w : Width) (reg base disp : ℕ) (rest : List ℕ) → HasModrm_0f op → Bare_0f op → reg < 16 → base < 16 → disp < 2 ^ 32
    → read (with_memory_0f w op reg base disp ++ rest) ≡ by_place_0f op w reg (Memory base disp) rest
in_memory_0f op w reg base disp rest has bare h k l =
    let x = rex_bits w reg 0 base in
    let m = memory reg base disp in
    ap read (append_assoc (prefix w reg base) (15 ∷ op ∷ m) rest)
    ∙ prefixed w reg 0 base (15 ∷ op ∷ (m ++ rest)) (bare (m ++ rest))
    ∙ by_modrm_0f op w reg 0 base (m ++ rest) rest (Memory base disp) has (modrm_memory (rex w reg base) reg base disp rest x.r x.x x.b h k l)

-- behind 66
by_bits_66 : (b : Bool) (p op : ℕ) (bs : List ℕ) → (p == 64) ≡ b → p / 16 ≡ 4 → behind_66 (op ∷ bs) ≡ by_opcode_66 no_rex op bs → behind_66 ((if b then [] else p ∷ []) ++ op ∷ bs) ≡ by_opcode_66 p op bs
by_bits_66 true p op bs e high bare = let f : p ≡ 64 = (Decides-eqb p 64).0 e in bare ∙ ap (λ q. by_opcode_66 q op bs) (sym f)
by_bits_66 false p op bs e high bare = ap (λ n. if n == 4 then by_opcode_66 p op bs else by_opcode_66 no_rex p (op ∷ bs)) high

prefixed_66 : (reg rm op : ℕ) (bs : List ℕ) → behind_66 (op ∷ bs) ≡ by_opcode_66 no_rex op bs → behind_66 (prefix W32 reg rm ++ op ∷ bs) ≡ by_opcode_66 (rex W32 reg rm) op bs
prefixed_66 reg rm op bs bare = by_bits_66 (rex W32 reg rm == 64) (rex W32 reg rm) op bs refl (rex_bits W32 reg 0 rm).high bare

abbrev Bare_66 : ℕ → Type 0
Bare_66 op = (bs : List ℕ) → behind_66 (op ∷ bs) ≡ by_opcode_66 no_rex op bs

half_register : (reg rm : ℕ) (op : ℕ) (rest : List ℕ) → Bare_66 op → reg < 16 → rm < 16 → read (102 ∷ (with_two W32 op reg rm ++ rest)) ≡ by_place_66 op reg (Register rm) rest
half_register reg rm op rest bare h k =
    let x = rex_bits W32 reg 0 rm in
    ap behind_66 (append_assoc (prefix W32 reg rm) (op ∷ two reg rm ∷ []) rest)
    ∙ prefixed_66 reg rm op (two reg rm ∷ rest) (bare (two reg rm ∷ rest))
    ∙ ap (λ z. behind z (λ (n, place). by_place_66 op n place)) (modrm_two (rex W32 reg rm) reg rm rest x.r x.b h k)

half_memory : (reg base disp : ℕ) (op : ℕ) (rest : List ℕ) → Bare_66 op → reg < 16 → base < 16 → disp < 2 ^ 32 → read (102 ∷ (with_memory W32 op reg base disp ++ rest)) ≡ by_place_66 op reg (Memory base disp) rest
half_memory reg base disp op rest bare h k l =
    let x = rex_bits W32 reg 0 base in
    let m = memory reg base disp in
    ap behind_66 (append_assoc (prefix W32 reg base) (op ∷ m) rest)
    ∙ prefixed_66 reg base op (m ++ rest) (bare (m ++ rest))
    ∙ ap (λ z. behind z (λ (n, place). by_place_66 op n place)) (modrm_memory (rex W32 reg base) reg base disp rest x.r x.x x.b h k l)

-- ---- numbers behind

word_behind : (v : ℕ) (rest : List ℕ) (f : ℕ → Instr) → v < 2 ^ 32 → behind (four_bytes (le_bytes 4 v ++ rest)) (λ imm. whole (f imm)) ≡ Some (f v, rest)
word_behind v rest f h = ap (λ z. behind z (λ imm. whole (f imm))) (read_four v rest h)

-- ---- operations by their numbers

alu_again : (a : Alu) → alu_of (op_number a) ≡ Some a
alu_again alu.Add = refl
alu_again alu.Or = refl
alu_again alu.And = refl
alu_again alu.Sub = refl
alu_again alu.Xor = refl
alu_again alu.Cmp = refl

shift_again : (s : Shift) → shift_of (shift_number s) ≡ Some s
shift_again shift.Left = refl
shift_again shift.Right = refl
shift_again shift.RightSigned = refl

op_low : (a : Alu) → op_number a < 16
op_low alu.Add = omega arith
op_low alu.Or = omega arith
op_low alu.And = omega arith
op_low alu.Sub = omega arith
op_low alu.Xor = omega arith
op_low alu.Cmp = omega arith

shift_low : (s : Shift) → shift_number s < 16
shift_low shift.Left = omega arith
shift_low shift.Right = omega arith
shift_low shift.RightSigned = omega arith

-- ---- registers in an opcode

-- each register
sixteen : (P : ℕ → Type 0) → P 0 → P 1 → P 2 → P 3 → P 4 → P 5 → P 6 → P 7 → P 8 → P 9 → P 10 → P 11 → P 12 → P 13 → P 14 → P 15 → (r : ℕ) → r < 16 → P r
sixteen P a b c d e f g h i j k l m n o p zero z = a
sixteen P a b c d e f g h i j k l m n o p (suc zero) z = b
sixteen P a b c d e f g h i j k l m n o p (suc (suc zero)) z = c
sixteen P a b c d e f g h i j k l m n o p (suc (suc (suc zero))) z = d
sixteen P a b c d e f g h i j k l m n o p (suc (suc (suc (suc zero)))) z = e
sixteen P a b c d e f g h i j k l m n o p (suc (suc (suc (suc (suc zero))))) z = f
sixteen P a b c d e f g h i j k l m n o p (suc (suc (suc (suc (suc (suc zero)))))) z = g
sixteen P a b c d e f g h i j k l m n o p (suc (suc (suc (suc (suc (suc (suc zero))))))) z = h
sixteen P a b c d e f g h i j k l m n o p (suc (suc (suc (suc (suc (suc (suc (suc zero)))))))) z = i
sixteen P a b c d e f g h i j k l m n o p (suc (suc (suc (suc (suc (suc (suc (suc (suc zero))))))))) z = j
sixteen P a b c d e f g h i j k l m n o p (suc (suc (suc (suc (suc (suc (suc (suc (suc (suc zero)))))))))) z = k
sixteen P a b c d e f g h i j k l m n o p (suc (suc (suc (suc (suc (suc (suc (suc (suc (suc (suc zero))))))))))) z = l
sixteen P a b c d e f g h i j k l m n o p (suc (suc (suc (suc (suc (suc (suc (suc (suc (suc (suc (suc zero)))))))))))) z = m
sixteen P a b c d e f g h i j k l m n o p (suc (suc (suc (suc (suc (suc (suc (suc (suc (suc (suc (suc (suc zero))))))))))))) z = n
sixteen P a b c d e f g h i j k l m n o p (suc (suc (suc (suc (suc (suc (suc (suc (suc (suc (suc (suc (suc (suc zero)))))))))))))) z = o
sixteen P a b c d e f g h i j k l m n o p (suc (suc (suc (suc (suc (suc (suc (suc (suc (suc (suc (suc (suc (suc (suc zero))))))))))))))) z = p
sixteen P a b c d e f g h i j k l m n o p (suc (suc (suc (suc (suc (suc (suc (suc (suc (suc (suc (suc (suc (suc (suc (suc r)))))))))))))))) zz = absurd (omega arith)

push : (rest : List ℕ) (r : ℕ) → r < 16 → read (bytes_of (instr.Push r) ++ rest) ≡ Some (instr.Push r, rest)
push rest = sixteen (λ r. read (bytes_of (instr.Push r) ++ rest) ≡ Some (instr.Push r, rest)) refl refl refl refl refl refl refl refl refl refl refl refl refl refl refl refl

pop : (rest : List ℕ) (r : ℕ) → r < 16 → read (bytes_of (instr.Pop r) ++ rest) ≡ Some (instr.Pop r, rest)
pop rest = sixteen (λ r. read (bytes_of (instr.Pop r) ++ rest) ≡ Some (instr.Pop r, rest)) refl refl refl refl refl refl refl refl refl refl refl refl refl refl refl refl

move_imm : (bs : List ℕ) (r : ℕ) → r < 16 → read (prefix W32 0 r ++ (184 + r % 8) ∷ bs) ≡ behind (four_bytes bs) (λ imm. whole (instr.MovImm r imm))
move_imm bs = sixteen (λ r. read (prefix W32 0 r ++ (184 + r % 8) ∷ bs) ≡ behind (four_bytes bs) (λ imm. whole (instr.MovImm r imm))) refl refl refl refl refl refl refl refl refl refl refl refl refl refl refl refl

move_wide : (bs : List ℕ) (r : ℕ) → r < 16 → read (prefix W64 0 r ++ (184 + r % 8) ∷ bs) ≡ behind (eight_bytes bs) (λ imm. whole (instr.MovWide r imm))
move_wide bs = sixteen (λ r. read (prefix W64 0 r ++ (184 + r % 8) ∷ bs) ≡ behind (eight_bytes bs) (λ imm. whole (instr.MovWide r imm))) refl refl refl refl refl refl refl refl refl refl refl refl refl refl refl refl

swap : (w : Width) (rest : List ℕ) (r : ℕ) → r < 16 → read (bytes_of (instr.Swap w r) ++ rest) ≡ Some (instr.Swap w r, rest)
swap W32 rest = sixteen (λ r. read (bytes_of (instr.Swap W32 r) ++ rest) ≡ Some (instr.Swap W32 r, rest)) refl refl refl refl refl refl refl refl refl refl refl refl refl refl refl refl
swap W64 rest = sixteen (λ r. read (bytes_of (instr.Swap W64 r) ++ rest) ≡ Some (instr.Swap W64 r, rest)) refl refl refl refl refl refl refl refl refl refl refl refl refl refl refl refl

spread_over : (w : Width) (rest : List ℕ) → read (bytes_of (instr.Spread w) ++ rest) ≡ Some (instr.Spread w, rest)
spread_over W32 rest = refl
spread_over W64 rest = refl

-- ---- forms

alu_two : (a : Alu) (w : Width) (to from : ℕ) (rest : List ℕ) → to < 16 → from < 16 → read (bytes_of (instr.Alu a w to from) ++ rest) ≡ Some (instr.Alu a w to from, rest)
alu_two alu.Add w to from rest h k = registers 1 w from to rest (λ p bs. refl) (λ bs. refl) k h
alu_two alu.Or w to from rest h k = registers 9 w from to rest (λ p bs. refl) (λ bs. refl) k h
alu_two alu.And w to from rest h k = registers 33 w from to rest (λ p bs. refl) (λ bs. refl) k h
alu_two alu.Sub w to from rest h k = registers 41 w from to rest (λ p bs. refl) (λ bs. refl) k h
alu_two alu.Xor w to from rest h k = registers 49 w from to rest (λ p bs. refl) (λ bs. refl) k h
alu_two alu.Cmp w to from rest h k = registers 57 w from to rest (λ p bs. refl) (λ bs. refl) k h

alu_number : (small : Bool) (a : Alu) (w : Width) (to imm : ℕ) (rest : List ℕ) → to < 16 → imm < 2 ^ 32 → is_small imm ≡ small
    → read ((if small then with_two w 131 (op_number a) to ++ imm % 256 ∷ [] else with_two w 129 (op_number a) to ++ le_bytes 4 imm) ++ rest) ≡ Some (instr.AluImm a w to imm, rest)
alu_number true a w to imm rest h k s =
    registers_then 131 w (op_number a) to (imm % 256 ∷ []) rest (λ p bs. refl) (λ bs. refl) (op_low a) h
    ∙ ap (λ o. with_op o (λ a. behind (signed_byte (imm % 256 ∷ rest)) (λ imm. whole (instr.AluImm a w to imm)))) (alu_again a)
    ∙ ap (λ v. Some (instr.AluImm a w to v, rest)) (spread_small imm k s)
alu_number false a w to imm rest h k s =
    registers_then 129 w (op_number a) to (le_bytes 4 imm) rest (λ p bs. refl) (λ bs. refl) (op_low a) h
    ∙ ap (λ o. with_op o (λ a. behind (four_bytes (le_bytes 4 imm ++ rest)) (λ imm. whole (instr.AluImm a w to imm)))) (alu_again a)
    ∙ word_behind imm rest (λ imm. instr.AluImm a w to imm) k

extended : (x : Extension) (to from : ℕ) (rest : List ℕ) → to < 16 → from < 16 → read (bytes_of (instr.MovSx x to from) ++ rest) ≡ Some (instr.MovSx x to from, rest)
extended extension.W32From8 to from rest h k =
    let x = rex_bits W32 to 0 from in
    let bs = two to from ∷ rest in
    ap read (append_assoc (byte_prefix from to from) (15 ∷ 190 ∷ two to from ∷ []) rest)
    ∙ prefixed_byte from to from (15 ∷ 190 ∷ bs) refl
    ∙ by_modrm_0f 190 W32 to 0 from bs rest (Register from) (λ p bs. refl) (modrm_two (rex W32 to from) to from rest x.r x.b h k)
extended extension.W32From16 to from rest h k = registers_0f 191 W32 to from rest (λ p bs. refl) (λ bs. refl) h k
extended extension.W64From8 to from rest h k = registers_0f 190 W64 to from rest (λ p bs. refl) (λ bs. refl) h k
extended extension.W64From16 to from rest h k = registers_0f 191 W64 to from rest (λ p bs. refl) (λ bs. refl) h k
extended extension.W64From32 to from rest h k = registers 99 W64 to from rest (λ p bs. refl) (λ bs. refl) h k

times : (w : Width) (to from : ℕ) (rest : List ℕ) → to < 16 → from < 16 → read (bytes_of (instr.Mul w to from) ++ rest) ≡ Some (instr.Mul w to from, rest)
times W32 to from rest h k = registers_0f 175 W32 to from rest (λ p bs. refl) (λ bs. refl) h k
times W64 to from rest h k = registers_0f 175 W64 to from rest (λ p bs. refl) (λ bs. refl) h k

shifted : (s : Shift) (w : Width) (to count : ℕ) (rest : List ℕ) → to < 16 → count < 2 ^ 8 → read (bytes_of (instr.Shift s w to count) ++ rest) ≡ Some (instr.Shift s w to count, rest)
shifted s w to count rest h k =
    let e : count % 256 ≡ count = omega arith in
    registers_then 193 w (shift_number s) to (count % 256 ∷ []) rest (λ p bs. refl) (λ bs. refl) (shift_low s) h
    ∙ ap (λ o. with_op o (λ s. behind (one (count % 256 ∷ rest)) (λ count. whole (instr.Shift s w to count)))) (shift_again s)
    ∙ ap (λ n. Some (instr.Shift s w to n, rest)) e

shifted_by : (s : Shift) (w : Width) (to : ℕ) (rest : List ℕ) → to < 16 → read (bytes_of (instr.ShiftBy s w to) ++ rest) ≡ Some (instr.ShiftBy s w to, rest)
shifted_by s w to rest h =
    registers 211 w (shift_number s) to rest (λ p bs. refl) (λ bs. refl) (shift_low s) h
    ∙ ap (λ o. with_op o (λ s. whole (instr.ShiftBy s w to) rest)) (shift_again s)

loaded : (z : Size) (to base disp : ℕ) (rest : List ℕ) → to < 16 → base < 16 → disp < 2 ^ 32 → read (bytes_of (instr.Load z to base disp) ++ rest) ≡ Some (instr.Load z to base disp, rest)
loaded size.Byte to base disp rest h k l = in_memory_0f 182 W32 to base disp rest (λ p bs. refl) (λ bs. refl) h k l
loaded size.Half to base disp rest h k l = in_memory_0f 183 W32 to base disp rest (λ p bs. refl) (λ bs. refl) h k l
loaded size.Word to base disp rest h k l = in_memory 139 W32 to base disp rest (λ p bs. refl) (λ bs. refl) h k l
loaded size.Double to base disp rest h k l = in_memory 139 W64 to base disp rest (λ p bs. refl) (λ bs. refl) h k l

loaded_signed : (z : SignedSize) (to base disp : ℕ) (rest : List ℕ) → to < 16 → base < 16 → disp < 2 ^ 32 → read (bytes_of (instr.LoadSx z to base disp) ++ rest) ≡ Some (instr.LoadSx z to base disp, rest)
loaded_signed signed.Byte to base disp rest h k l = in_memory_0f 190 W64 to base disp rest (λ p bs. refl) (λ bs. refl) h k l
loaded_signed signed.Half to base disp rest h k l = in_memory_0f 191 W64 to base disp rest (λ p bs. refl) (λ bs. refl) h k l
loaded_signed signed.Word to base disp rest h k l = in_memory 99 W64 to base disp rest (λ p bs. refl) (λ bs. refl) h k l

stored : (z : Size) (base disp from : ℕ) (rest : List ℕ) → base < 16 → disp < 2 ^ 32 → from < 16 → read (bytes_of (instr.Store z base disp from) ++ rest) ≡ Some (instr.Store z base disp from, rest)
stored size.Byte base disp from rest k l h =
    let x = rex_bits W32 from 0 base in
    let m = memory from base disp in
    ap read (append_assoc (byte_prefix from from base) (136 ∷ m) rest)
    ∙ prefixed_byte from from base (136 ∷ (m ++ rest)) refl
    ∙ by_modrm 136 W32 from 0 base (m ++ rest) rest (Memory base disp) (λ p bs. refl) (modrm_memory (rex W32 from base) from base disp rest x.r x.x x.b h k l)
stored size.Half base disp from rest k l h = half_memory from base disp 137 rest (λ bs. refl) h k l
stored size.Word base disp from rest k l h = in_memory 137 W32 from base disp rest (λ p bs. refl) (λ bs. refl) h k l
stored size.Double base disp from rest k l h = in_memory 137 W64 from base disp rest (λ p bs. refl) (λ bs. refl) h k l

stored_number : (z : Size) (base disp imm : ℕ) (rest : List ℕ) → base < 16 → disp < 2 ^ 32 → IsNumberOf z imm → read (bytes_of (instr.StoreImm z base disp imm) ++ rest) ≡ Some (instr.StoreImm z base disp imm, rest)
stored_number size.Byte base disp imm rest k l h =
    let e : imm % 256 ≡ imm = omega arith in
    ap read (append_assoc (with_memory W32 198 0 base disp) (le_bytes 1 imm) rest)
    ∙ in_memory 198 W32 0 base disp (imm % 256 ∷ rest) (λ p bs. refl) (λ bs. refl) (omega arith) k l
    ∙ ap (λ n. Some (instr.StoreImm size.Byte base disp n, rest)) e
stored_number size.Half base disp imm rest k l h =
    ap read (append_assoc (102 ∷ with_memory W32 199 0 base disp) (le_bytes 2 imm) rest)
    ∙ half_memory 0 base disp 199 (le_bytes 2 imm ++ rest) (λ bs. refl) (omega arith) k l
    ∙ ap (λ z. behind z (λ imm. whole (instr.StoreImm size.Half base disp imm))) (read_two imm rest h)
stored_number size.Word base disp imm rest k l h =
    ap read (append_assoc (with_memory W32 199 0 base disp) (le_bytes 4 imm) rest)
    ∙ in_memory 199 W32 0 base disp (le_bytes 4 imm ++ rest) (λ p bs. refl) (λ bs. refl) (omega arith) k l
    ∙ word_behind imm rest (λ imm. instr.StoreImm size.Word base disp imm) h
stored_number size.Double base disp imm rest k l h =
    ap read (append_assoc (with_memory W64 199 0 base disp) (le_bytes 4 imm) rest)
    ∙ in_memory 199 W64 0 base disp (le_bytes 4 imm ++ rest) (λ p bs. refl) (λ bs. refl) (omega arith) k l
    ∙ word_behind imm rest (λ imm. instr.StoreImm size.Double base disp imm) h

indexed : (to base index disp : ℕ) (rest : List ℕ) → to < 16 → base < 16 → index < 16 → index ≢ 4 → disp < 2 ^ 32 → read (bytes_of (instr.LeaBy to base index disp) ++ rest) ≡ Some (instr.LeaBy to base index disp, rest)
indexed to base index disp rest h k i ne l =
    let x = rex_bits W64 to index base in
    at_rex W64 to index base (141 ∷ (memory_by to base index disp ++ rest))
    ∙ by_modrm 141 W64 to index base (memory_by to base index disp ++ rest) rest (MemoryBy base index disp) (λ p bs. refl)
    (modrm_memory_by (rex_by W64 to index base) to base index disp rest x.r x.x x.b h k i ne l)

short_if : (x : ConditionCode) (distance : ℕ) (rest : List ℕ) → read (bytes_of (instr.JumpIfShort x distance) ++ rest) ≡ Some (instr.JumpIfShort x (distance % 256), rest)
short_if condition.Below distance rest = refl
short_if condition.AboveEqual distance rest = refl
short_if condition.Equal distance rest = refl
short_if condition.NotEqual distance rest = refl
short_if condition.BelowEqual distance rest = refl
short_if condition.Above distance rest = refl
short_if condition.Less distance rest = refl
short_if condition.GreaterEqual distance rest = refl
short_if condition.LessEqual distance rest = refl
short_if condition.Greater distance rest = refl

long_if : (x : ConditionCode) (distance : ℕ) (rest : List ℕ) → distance < 2 ^ 32 → read (bytes_of (instr.JumpIf x distance) ++ rest) ≡ Some (instr.JumpIf x distance, rest)
long_if condition.Below distance rest h = word_behind distance rest (λ d. instr.JumpIf condition.Below d) h
long_if condition.AboveEqual distance rest h = word_behind distance rest (λ d. instr.JumpIf condition.AboveEqual d) h
long_if condition.Equal distance rest h = word_behind distance rest (λ d. instr.JumpIf condition.Equal d) h
long_if condition.NotEqual distance rest h = word_behind distance rest (λ d. instr.JumpIf condition.NotEqual d) h
long_if condition.BelowEqual distance rest h = word_behind distance rest (λ d. instr.JumpIf condition.BelowEqual d) h
long_if condition.Above distance rest h = word_behind distance rest (λ d. instr.JumpIf condition.Above d) h
long_if condition.Less distance rest h = word_behind distance rest (λ d. instr.JumpIf condition.Less d) h
long_if condition.GreaterEqual distance rest h = word_behind distance rest (λ d. instr.JumpIf condition.GreaterEqual d) h
long_if condition.LessEqual distance rest h = word_behind distance rest (λ d. instr.JumpIf condition.LessEqual d) h
long_if condition.Greater distance rest h = word_behind distance rest (λ d. instr.JumpIf condition.Greater d) h

-- each instruction is read in its bytes
pub reads_back : ReadsBack
reads_back (instr.Mov w to from) rest h = registers 137 w from to rest (λ p bs. refl) (λ bs. refl) h.1 h.0
reads_back (instr.MovImm to imm) rest h = ap read (append_assoc (prefix W32 0 to) ((184 + to % 8) ∷ le_bytes 4 imm) rest) ∙ move_imm (le_bytes 4 imm ++ rest) to h.0 ∙ word_behind imm rest (λ imm. instr.MovImm to imm) h.1
reads_back (instr.MovSigned to imm) rest h = registers_then 199 W64 0 to (le_bytes 4 imm) rest (λ p bs. refl) (λ bs. refl) (omega arith) h.0 ∙ word_behind imm rest (λ imm. instr.MovSigned to imm) h.1
reads_back (instr.MovWide to imm) rest h = move_wide (le_bytes 8 imm ++ rest) to h.0 ∙ ap (λ z. behind z (λ imm. whole (instr.MovWide to imm))) (read_eight imm rest h.1)
reads_back (instr.MovSx x to from) rest h = extended x to from rest h.0 h.1
reads_back (instr.MovZx to from) rest h = registers_0f 183 W32 to from rest (λ p bs. refl) (λ bs. refl) h.0 h.1
reads_back (instr.Alu op w to from) rest h = alu_two op w to from rest h.0 h.1
reads_back (instr.AluImm op w to imm) rest h = alu_number (is_small imm) op w to imm rest h.0 h.1 refl
reads_back (instr.Test w a b) rest h = registers 133 w b a rest (λ p bs. refl) (λ bs. refl) h.1 h.0
reads_back (instr.TestImm w a imm) rest h = registers_then 247 w 0 a (le_bytes 4 imm) rest (λ p bs. refl) (λ bs. refl) (omega arith) h.0 ∙ word_behind imm rest (λ imm. instr.TestImm w a imm) h.1
reads_back (instr.Mul w to from) rest h = times w to from rest h.0 h.1
reads_back (instr.MulImm w to from imm) rest h = registers_then 105 w to from (le_bytes 4 imm) rest (λ p bs. refl) (λ bs. refl) h.0 h.1 ∙ word_behind imm rest (λ imm. instr.MulImm w to from imm) h.2
reads_back (instr.Neg w to) rest h = registers 247 w 3 to rest (λ p bs. refl) (λ bs. refl) (omega arith) h
reads_back (instr.Shift op w to count) rest h = shifted op w to count rest h.0 h.1
reads_back (instr.ShiftBy op w to) rest h = shifted_by op w to rest h
reads_back (instr.SwapLow to) rest h = ap (λ l. read (102 ∷ l)) (append_assoc (with_two W32 193 0 to) (8 ∷ []) rest) ∙ half_register 0 to 193 (8 ∷ rest) (λ bs. refl) (omega arith) h
reads_back (instr.Swap w to) rest h = swap w rest to h
reads_back (instr.Div w by) rest h = registers 247 w 6 by rest (λ p bs. refl) (λ bs. refl) (omega arith) h
reads_back (instr.SignedDiv w by) rest h = registers 247 w 7 by rest (λ p bs. refl) (λ bs. refl) (omega arith) h
reads_back (instr.Spread w) rest h = spread_over w rest
reads_back (instr.Load z to base disp) rest h = loaded z to base disp rest h.0 h.1 h.2
reads_back (instr.LoadSx z to base disp) rest h = loaded_signed z to base disp rest h.0 h.1 h.2
reads_back (instr.Store z base disp from) rest h = stored z base disp from rest h.0 h.1 h.2
reads_back (instr.StoreImm z base disp imm) rest h = stored_number z base disp imm rest h.0 h.1 h.2
reads_back (instr.LoadLong base disp) rest h = in_memory_0f 16 W32 0 base disp rest (λ p bs. refl) (λ bs. refl) (omega arith) h.0 h.1
reads_back (instr.StoreLong base disp) rest h = in_memory_0f 17 W32 0 base disp rest (λ p bs. refl) (λ bs. refl) (omega arith) h.0 h.1
reads_back (instr.Lea to base disp) rest h = in_memory 141 W64 to base disp rest (λ p bs. refl) (λ bs. refl) h.0 h.1 h.2
reads_back (instr.LeaBy to base index disp) rest h = indexed to base index disp rest h.0 h.1 h.2 h.3 h.4
reads_back (instr.Jump distance) rest h = word_behind distance rest (λ distance. instr.Jump distance) h
reads_back (instr.JumpIf x distance) rest h = long_if x distance rest h
reads_back (instr.JumpShort distance) rest h =
    let e : distance % 256 ≡ distance = omega arith in
    ap (λ d. Some (instr.JumpShort d, rest)) e
reads_back (instr.JumpIfShort x distance) rest h =
    let e : distance % 256 ≡ distance = omega arith in
    short_if x distance rest ∙ ap (λ d. Some (instr.JumpIfShort x d, rest)) e
reads_back (instr.Push r) rest h = push rest r h
reads_back (instr.Pop r) rest h = pop rest r h
reads_back instr.CopyBytes rest h = refl
reads_back instr.Return rest h = refl

-- what was read, else this
abbrev got : Instr × List ℕ → Reading Instr → Instr × List ℕ
got d None = d
got d (Some x) = x

-- so they tell one
pub tell_one : TellOne
tell_one i j r s p q e =
    let same : Some (i, r) ≡ Some (j, s) = sym (reads_back i r p) ∙ ap read e ∙ reads_back j s q in
    (ap (λ o. (got (i, r) o).0) same, ap (λ o. (got (i, r) o).1) same)
