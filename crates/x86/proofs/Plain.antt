-- An instruction that does something has the bytes of a plain one that does the same.
use Rattle.std.proofs.Common.{◌≡◌, ℕ, ◌+◌, ◌-◌, ◌*◌, ◌/◌, ◌%◌, ◌^◌, Bool, true, false, cond, List, [], ◌∷◌, ◌++◌, length, refl, sym, ap, ◌∙◌, subst, arith}
use Rattle.std.specs.Prelude.{◌||◌, ◌==◌, nat_lt, nat_le, if◌then◌else◌, slice_range}
use Rattle.decode.specs.declared.insn.Width.{Width}
use Rattle.decode.specs.declared.insn.Width.TheVariants.{W32, W64}
use Rattle.decode.specs.declared.insn.Size.{Size}
use Rattle.decode.specs.declared.insn.Size.TheVariants as size
use Rattle.decode.specs.declared.insn.SignedSize.TheVariants as signed
use Rattle.decode.specs.Encoding.{bytes_in, loaded}
use Rattle.operations.specs.Words.{bits_of, low_of}
use Rattle.operations.specs.Bytes.{le_value, le_bytes, overwritten}
use Rattle.operations.specs.Operations.{sign_extension_of}
use Rattle.x86.specs.declared.instruction.ConditionCode.{ConditionCode}
use Rattle.x86.specs.declared.instruction.Instr.{Instr}
use Rattle.x86.specs.declared.instruction.Instr.TheVariants as instr
use Rattle.x86.specs.Encoding.{prefix, prefix_by, byte_prefix, is_small, number, memory, memory_by, op_number, shift_number, code_of, with_two, with_memory, with_memory_0f, bytes_of}
use Rattle.x86.specs.Machine.{Word, Flags, Known, Unknown, State, Outcome, Goes, Leaps, Stuck, by_outcome, extended, spread, with_value, with_word, put, behind, block, reach, written, tested, operated, computed, asks, branch, shifts, reads, writes, act}

-- ---- numbers of so many bits

abbrev pub low : ℕ → ℕ
low v = v % 2 ^ 32

abbrev pub clip : Size → ℕ → ℕ
clip size.Byte v = v % 2 ^ 8
clip size.Half v = v % 2 ^ 16
clip size.Word v = low v
clip size.Double v = low v

-- no bits but those that are written
abbrev pub plain : Instr → Instr
plain (instr.MovImm to imm) = instr.MovImm to (low imm)
plain (instr.MovSigned to imm) = instr.MovSigned to (low imm)
plain (instr.MovWide to imm) = instr.MovWide to (imm % 2 ^ 64)
plain (instr.AluImm op w to imm) = instr.AluImm op w to (low imm)
plain (instr.TestImm w a imm) = instr.TestImm w a (low imm)
plain (instr.MulImm w to from imm) = instr.MulImm w to from (low imm)
plain (instr.Shift op w to count) = instr.Shift op w to (count % 2 ^ 8)
plain (instr.Load s to base disp) = instr.Load s to base (low disp)
plain (instr.LoadSx s to base disp) = instr.LoadSx s to base (low disp)
plain (instr.Store s base disp from) = instr.Store s base (low disp) from
plain (instr.StoreImm s base disp imm) = instr.StoreImm s base (low disp) (clip s imm)
plain (instr.LoadLong base disp) = instr.LoadLong base (low disp)
plain (instr.StoreLong base disp) = instr.StoreLong base (low disp)
plain (instr.Lea to base disp) = instr.Lea to base (low disp)
plain (instr.LeaBy to base index disp) = instr.LeaBy to base index (low disp)
plain (instr.Jump distance) = instr.Jump (low distance)
plain (instr.JumpIf x distance) = instr.JumpIf x (low distance)
plain (instr.JumpShort distance) = instr.JumpShort (distance % 2 ^ 8)
plain (instr.JumpIfShort x distance) = instr.JumpIfShort x (distance % 2 ^ 8)
plain i = i

low_low : (v : ℕ) → low (low v) ≡ low v
low_low v = omega arith

byte_low : (v : ℕ) → low v % 256 ≡ v % 256
byte_low v = omega arith

byte_byte : (v : ℕ) → (v % 2 ^ 8) % 256 ≡ v % 256
byte_byte v = omega arith

four : (a b : ℕ) → a % 2 ^ 32 ≡ b % 2 ^ 32 → le_bytes 4 a ≡ le_bytes 4 b
four a b e =
    let e0 : a % 256 ≡ b % 256 = omega (arith, e) in
    let e1 : a / 256 % 256 ≡ b / 256 % 256 = omega (arith, e) in
    let e2 : a / 256 / 256 % 256 ≡ b / 256 / 256 % 256 = omega (arith, e) in
    let e3 : a / 256 / 256 / 256 % 256 ≡ b / 256 / 256 / 256 % 256 = omega (arith, e) in
    ap (λ x. x ∷ a / 256 % 256 ∷ a / 256 / 256 % 256 ∷ a / 256 / 256 / 256 % 256 ∷ []) e0
    ∙ ap (λ x. b % 256 ∷ x ∷ a / 256 / 256 % 256 ∷ a / 256 / 256 / 256 % 256 ∷ []) e1
    ∙ ap (λ x. b % 256 ∷ b / 256 % 256 ∷ x ∷ a / 256 / 256 / 256 % 256 ∷ []) e2
    ∙ ap (λ x. b % 256 ∷ b / 256 % 256 ∷ b / 256 / 256 % 256 ∷ x ∷ []) e3

two_of : (a b : ℕ) → a % 2 ^ 16 ≡ b % 2 ^ 16 → le_bytes 2 a ≡ le_bytes 2 b
two_of a b e =
    let e0 : a % 256 ≡ b % 256 = omega (arith, e) in
    let e1 : a / 256 % 256 ≡ b / 256 % 256 = omega (arith, e) in
    ap (λ x. x ∷ a / 256 % 256 ∷ []) e0 ∙ ap (λ x. b % 256 ∷ x ∷ []) e1

one_of : (a b : ℕ) → a % 2 ^ 8 ≡ b % 2 ^ 8 → le_bytes 1 a ≡ le_bytes 1 b
one_of a b e = ap (λ x. x ∷ []) e

le_low : (v : ℕ) → le_bytes 4 (low v) ≡ le_bytes 4 v
le_low v = four (low v) v (omega arith)

le_wide : (v : ℕ) → le_bytes 8 (v % 2 ^ 64) ≡ le_bytes 8 v
le_wide v =
    let a = v % 2 ^ 64 in
    let h : a / 256 / 256 / 256 / 256 % 2 ^ 32 ≡ v / 256 / 256 / 256 / 256 % 2 ^ 32 = omega arith in
    ap (λ l. l ++ le_bytes 4 (a / 256 / 256 / 256 / 256)) (four a v (omega arith))
    ∙ ap (λ l. le_bytes 4 v ++ l) (four (a / 256 / 256 / 256 / 256) (v / 256 / 256 / 256 / 256) h)

small_low : (v : ℕ) → is_small (low v) ≡ is_small v
small_low v = ap (λ x. nat_lt x 128 || nat_le (2 ^ 32 - 128) x) (low_low v)

number_low : (v : ℕ) → number (low v) ≡ number v
number_low v =
    ap (λ b. if b then low v % 256 ∷ [] else le_bytes 4 (low v)) (small_low v)
    ∙ ap (λ x. if is_small v then x ∷ [] else le_bytes 4 (low v)) (byte_low v)
    ∙ ap (λ l. if is_small v then v % 256 ∷ [] else l) (le_low v)

memory_low : (reg base disp : ℕ) → memory reg base (low disp) ≡ memory reg base disp
memory_low reg base disp =
    ap (λ b. ((if b then 64 else 128) + 8 * (reg % 8) + base % 8) ∷ ((if base % 8 == 4 then 36 ∷ [] else []) ++ number (low disp))) (small_low disp)
    ∙ ap (λ l. ((if is_small disp then 64 else 128) + 8 * (reg % 8) + base % 8) ∷ ((if base % 8 == 4 then 36 ∷ [] else []) ++ l)) (number_low disp)

memory_by_low : (reg base index disp : ℕ) → memory_by reg base index (low disp) ≡ memory_by reg base index disp
memory_by_low reg base index disp =
    ap (λ b. ((if b then 64 else 128) + 8 * (reg % 8) + 4) ∷ (8 * (index % 8) + base % 8) ∷ number (low disp)) (small_low disp)
    ∙ ap (λ l. ((if is_small disp then 64 else 128) + 8 * (reg % 8) + 4) ∷ (8 * (index % 8) + base % 8) ∷ l) (number_low disp)

with_low : (w : Width) (opcode reg base disp : ℕ) → with_memory w opcode reg base (low disp) ≡ with_memory w opcode reg base disp
with_low w opcode reg base disp = ap (λ l. prefix w reg base ++ opcode ∷ l) (memory_low reg base disp)

with_0f_low : (w : Width) (opcode reg base disp : ℕ) → with_memory_0f w opcode reg base (low disp) ≡ with_memory_0f w opcode reg base disp
with_0f_low w opcode reg base disp = ap (λ l. prefix w reg base ++ 15 ∷ opcode ∷ l) (memory_low reg base disp)

-- ---- bytes

pub bytes_plain : (i : Instr) → bytes_of (plain i) ≡ bytes_of i
bytes_plain (instr.MovImm to imm) = ap (λ l. prefix W32 0 to ++ (184 + to % 8) ∷ l) (le_low imm)
bytes_plain (instr.MovSigned to imm) = ap (λ l. with_two W64 199 0 to ++ l) (le_low imm)
bytes_plain (instr.MovWide to imm) = ap (λ l. prefix W64 0 to ++ (184 + to % 8) ∷ l) (le_wide imm)
bytes_plain (instr.AluImm op w to imm) =
    ap (λ b. if b then with_two w 131 (op_number op) to ++ low imm % 256 ∷ [] else with_two w 129 (op_number op) to ++ le_bytes 4 (low imm)) (small_low imm)
    ∙ ap (λ x. if is_small imm then with_two w 131 (op_number op) to ++ x ∷ [] else with_two w 129 (op_number op) to ++ le_bytes 4 (low imm)) (byte_low imm)
    ∙ ap (λ l. if is_small imm then with_two w 131 (op_number op) to ++ imm % 256 ∷ [] else with_two w 129 (op_number op) to ++ l) (le_low imm)
bytes_plain (instr.TestImm w a imm) = ap (λ l. with_two w 247 0 a ++ l) (le_low imm)
bytes_plain (instr.MulImm w to from imm) = ap (λ l. with_two w 105 to from ++ l) (le_low imm)
bytes_plain (instr.Shift op w to count) = ap (λ x. with_two w 193 (shift_number op) to ++ x ∷ []) (byte_byte count)
bytes_plain (instr.Load size.Byte to base disp) = with_0f_low W32 182 to base disp
bytes_plain (instr.Load size.Half to base disp) = with_0f_low W32 183 to base disp
bytes_plain (instr.Load size.Word to base disp) = with_low W32 139 to base disp
bytes_plain (instr.Load size.Double to base disp) = with_low W64 139 to base disp
bytes_plain (instr.LoadSx signed.Byte to base disp) = with_0f_low W64 190 to base disp
bytes_plain (instr.LoadSx signed.Half to base disp) = with_0f_low W64 191 to base disp
bytes_plain (instr.LoadSx signed.Word to base disp) = with_low W64 99 to base disp
bytes_plain (instr.Store size.Byte base disp from) = ap (λ l. byte_prefix from from base ++ 136 ∷ l) (memory_low from base disp)
bytes_plain (instr.Store size.Half base disp from) = ap (λ l. 102 ∷ l) (with_low W32 137 from base disp)
bytes_plain (instr.Store size.Word base disp from) = with_low W32 137 from base disp
bytes_plain (instr.Store size.Double base disp from) = with_low W64 137 from base disp
bytes_plain (instr.StoreImm size.Byte base disp imm) =
    ap (λ l. l ++ le_bytes 1 (imm % 2 ^ 8)) (with_low W32 198 0 base disp) ∙ ap (λ l. with_memory W32 198 0 base disp ++ l) (one_of (imm % 2 ^ 8) imm (omega arith))
bytes_plain (instr.StoreImm size.Half base disp imm) =
    ap (λ l. 102 ∷ l ++ le_bytes 2 (imm % 2 ^ 16)) (with_low W32 199 0 base disp) ∙ ap (λ l. 102 ∷ with_memory W32 199 0 base disp ++ l) (two_of (imm % 2 ^ 16) imm (omega arith))
bytes_plain (instr.StoreImm size.Word base disp imm) =
    ap (λ l. l ++ le_bytes 4 (low imm)) (with_low W32 199 0 base disp) ∙ ap (λ l. with_memory W32 199 0 base disp ++ l) (le_low imm)
bytes_plain (instr.StoreImm size.Double base disp imm) =
    ap (λ l. l ++ le_bytes 4 (low imm)) (with_low W64 199 0 base disp) ∙ ap (λ l. with_memory W64 199 0 base disp ++ l) (le_low imm)
bytes_plain (instr.LoadLong base disp) = with_0f_low W32 16 0 base disp
bytes_plain (instr.StoreLong base disp) = with_0f_low W32 17 0 base disp
bytes_plain (instr.Lea to base disp) = with_low W64 141 to base disp
bytes_plain (instr.LeaBy to base index disp) =
    ap (λ l. prefix_by W64 to index base ++ 141 ∷ l) (memory_by_low to base index disp)
bytes_plain (instr.Jump distance) = ap (λ l. 233 ∷ l) (le_low distance)
bytes_plain (instr.JumpIf x distance) = ap (λ l. 15 ∷ (128 + code_of x) ∷ l) (le_low distance)
bytes_plain (instr.JumpShort distance) = ap (λ b. 235 ∷ b ∷ []) (byte_byte distance)
bytes_plain (instr.JumpIfShort x distance) = ap (λ b. (112 + code_of x) ∷ b ∷ []) (byte_byte distance)
bytes_plain i = refl

-- ---- acts

pub extended_low : (v : ℕ) → extended (low v) ≡ extended v
extended_low v = ap (λ x. if nat_lt x (2 ^ 31) then x else x + (2 ^ 64 - 2 ^ 32)) (low_low v)

spread_byte : (v : ℕ) → spread (v % 2 ^ 8) ≡ spread v
spread_byte v =
    let e : (v % 2 ^ 8) % 2 ^ 8 ≡ v % 2 ^ 8 = omega arith in
    ap (λ x. if nat_lt x (2 ^ 7) then x else x + (2 ^ 32 - 2 ^ 8)) e

-- an extended number has the low bits of the number
extended_small : (b : Bool) (x : ℕ) → (if b then x else x + (2 ^ 64 - 2 ^ 32)) % 2 ^ 16 ≡ x % 2 ^ 16
extended_small true x = refl
extended_small false x = omega arith

extended_half : (v : ℕ) → extended v % 2 ^ 16 ≡ v % 2 ^ 16
extended_half v =
    let e : low v % 2 ^ 16 ≡ v % 2 ^ 16 = omega arith in
    extended_small (nat_lt (low v) (2 ^ 31)) (low v) ∙ e

stored_clip : (s : Size) (imm : ℕ) → le_bytes (bytes_in s) (extended (clip s imm)) ≡ le_bytes (bytes_in s) (extended imm)
stored_clip size.Byte imm = let a = extended_half (imm % 2 ^ 8) in let b = extended_half imm in one_of (extended (imm % 2 ^ 8)) (extended imm) (omega (arith, a, b))
stored_clip size.Half imm = let a = extended_half (imm % 2 ^ 16) in let b = extended_half imm in two_of (extended (imm % 2 ^ 16)) (extended imm) (omega (arith, a, b))
stored_clip size.Word imm = ap (le_bytes 4) (extended_low imm)
stored_clip size.Double imm = ap (le_bytes 8) (extended_low imm)

reads_low : (c : State) (base disp n : ℕ) (go : List ℕ → Outcome) → reads c base (low disp) n go ≡ reads c base disp n go
reads_low c base disp n go =
    ap (λ e. with_value c base (λ v. reach c (behind v e) n (λ b o. go (slice_range (block c b) o (o + n))))) (extended_low disp)

writes_low : (c : State) (base disp n : ℕ) (bs : List ℕ) → writes c base (low disp) n bs ≡ writes c base disp n bs
writes_low c base disp n bs =
    ap (λ e. with_value c base (λ v. reach c (behind v e) n (λ b o. written c b (overwritten (block c b) o bs)))) (extended_low disp)

count_bits : (w : Width) (count : ℕ) → (count % 2 ^ 8) % bits_of w ≡ count % bits_of w
count_bits W32 count = omega arith
count_bits W64 count = omega arith

-- it does the same; a leap goes as far
module _ (c : State) (goes : State → Type 0) (leaps : ℕ → Type 0) (returns : Type 0) (as_far : (d e : ℕ) → extended d ≡ extended e → leaps d → leaps e) where
  abbrev By : Outcome → Type 0
  By o = by_outcome o goes leaps returns ⊥

  same : (o p : Outcome) → p ≡ o → By o → By p
  same o p e b = subst By (sym e) b

  asked : (b : Bool) (d e : ℕ) → extended d ≡ extended e → By (cond b (Leaps d) (Goes c)) → By (cond b (Leaps e) (Goes c))
  asked true d e f h = as_far d e f h
  asked false d e f h = h

  branched : (x : ConditionCode) (d e : ℕ) (f : Flags) → extended d ≡ extended e → By (branch c x d f) → By (branch c x e f)
  branched x d e Unknown q h = absurd h
  branched x d e (Known cf zf sf off) q h = asked (asks x cf zf sf off) d e q h

  pub act_plain : (i : Instr) → By (act i c) → By (act (plain i) c)
  act_plain (instr.MovImm to imm) = let e : low imm % 2 ^ 32 ≡ imm % 2 ^ 32 = omega arith in same _ _ (ap (λ x. put c to (Word x)) e)
  act_plain (instr.MovSigned to imm) = same _ _ (ap (λ x. put c to (Word x)) (extended_low imm))
  act_plain (instr.MovWide to imm) = let e : (imm % 2 ^ 64) % 2 ^ 64 ≡ imm % 2 ^ 64 = omega arith in same _ _ (ap (λ x. put c to (Word x)) e)
  act_plain (instr.AluImm op w to imm) =
      same _ _ (ap (λ e. with_word c to (λ a. operated op c w to a e)) (extended_low imm))
  act_plain (instr.TestImm w a imm) =
      same _ _ (ap (λ e. with_word c a (λ x. Goes (record c { flags = tested (bits_of w) (low_of w x) (low_of w e) }))) (extended_low imm))
  act_plain (instr.MulImm w to from imm) =
      same _ _ (ap (λ e. with_word c from (λ a. computed c to (low_of w a * low_of w e % 2 ^ bits_of w))) (extended_low imm))
  act_plain (instr.Shift op w to count) =
      same _ _ (ap (λ k. with_word c to (λ a. shifts op c w to a k)) (count_bits w count))
  act_plain (instr.Load s to base disp) = same _ _ (reads_low c base disp (bytes_in s) (λ bs. put c to (Word (le_value bs))))
  act_plain (instr.LoadSx s to base disp) =
      same _ _ (reads_low c base disp (bytes_in (loaded s)) (λ bs. put c to (Word (sign_extension_of s (le_value bs)))))
  act_plain (instr.Store s base disp from) =
      same _ _ (ap (λ e. with_word c from (λ n. with_value c base (λ v. reach c (behind v e) (bytes_in s) (λ b o. written c b (overwritten (block c b) o (le_bytes (bytes_in s) n)))))) (extended_low disp))
  act_plain (instr.StoreImm s base disp imm) =
      same _ _ (writes_low c base disp (bytes_in s) (le_bytes (bytes_in s) (extended (clip s imm))) ∙ ap (writes c base disp (bytes_in s)) (stored_clip s imm))
  act_plain (instr.LoadLong base disp) = same _ _ (reads_low c base disp 16 (λ bs. Goes (record c { long = bs })))
  act_plain (instr.StoreLong base disp) =
      same _ _ (ap (λ o. if length c.long == 16 then o else Stuck) (writes_low c base disp 16 c.long))
  act_plain (instr.Lea to base disp) =
      same _ _ (ap (λ e. with_value c base (λ v. put c to (behind v e))) (extended_low disp))
  act_plain (instr.LeaBy to base index disp) =
      same _ _ (ap (λ e. with_value c base (λ v. with_word c index (λ n. put c to (behind (behind v n) e)))) (extended_low disp))
  act_plain (instr.Jump distance) = as_far distance (low distance) (sym (extended_low distance))
  act_plain (instr.JumpIf x distance) = branched x distance (low distance) c.flags (sym (extended_low distance))
  act_plain (instr.JumpShort distance) = same _ _ (ap Leaps (spread_byte distance))
  act_plain (instr.JumpIfShort x distance) = same _ _ (ap (λ d. branch c x d c.flags) (spread_byte distance))
  act_plain i = λ h. h
