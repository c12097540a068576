-- Each form has an instruction, and each instruction is found by its opcode.
use Rattle.std.proofs.Common.{◌≡◌, ℕ, zero, suc, ◌+◌, ◌*◌, ◌/◌, ◌%◌, ◌<◌, ◌≤◌, Bool, true, false, Option, Some, None, eqb, refl, ap, subst, ◌^◌, inl, inr, arith}
use Rattle.std.specs.Prelude.{◌&&◌}
use Rattle.std.proofs.lemmas.Bool.{eqb-true, cases_lt}
use Rattle.std.proofs.lemmas.Int.{to_z-of_z}
use Rattle.std.specs.Prelude.{MatchOption}
use Rattle.std.specs.Int.{w16, w32}
use Rattle.std.proofs.Math.Bridge.{le_prop}
use Rattle.decode.specs.declared.insn.Insn.{Insn}
use Rattle.decode.specs.declared.insn.Reg.{Reg}
use Rattle.decode.specs.declared.word.Word.{Word}
use Rattle.decode.specs.declared.form.OpcodeForm.{OpcodeForm}
use Rattle.decode.specs.declared.insn.Insn.TheVariants as insn
use Rattle.decode.specs.declared.insn.Operand.TheVariants as operand
use Rattle.decode.specs.declared.form.Source.TheVariants.{Imm, Register}
use Rattle.decode.specs.declared.form.OpcodeForm.TheVariants.{Alu, Neg, End, Jump, JumpLong, JumpIf, Call, Exit, Load, LoadSx, StoreReg, StoreImm, Wide}
use Rattle.decode.specs.declared.insn.AluOp.{AluOp}
use Rattle.decode.specs.declared.insn.AluOp.TheVariants as alu
use Rattle.decode.specs.declared.insn.Width.{Width}
use Rattle.decode.specs.declared.insn.Width.TheVariants.{W32, W64}
use Rattle.decode.specs.declared.insn.Extension.{Extension}
use Rattle.decode.specs.declared.insn.Extension.TheVariants.{W32From8, W32From16}
use Rattle.decode.specs.declared.insn.ByteOrder.TheVariants.{Little}
use Rattle.decode.specs.declared.insn.SwapBits.{SwapBits}
use Rattle.decode.specs.declared.insn.SwapBits.TheVariants.{Bits16}
use Rattle.decode.specs.declared.insn.Condition.{Condition}
use Rattle.decode.specs.declared.insn.Condition.TheVariants as condition
use Rattle.decode.specs.declared.insn.Size.TheVariants as size
use Rattle.decode.specs.declared.insn.SignedSize.TheVariants as signed
use Rattle.decode.specs.Encoding.{alu_code, alu_class, alu_offset, jump_code, jump_class, extension_width, extension_offset, swap_imm, first_word, second_word, Fits}
use Rattle.decode.specs.Refusal.{Begins}
use Rattle.decode.specs.Inside.Form.{form_at, insn_from, signed_at, extension_at, bits_at}

-- ---- what holds of each number below k, by trying them all

abbrev pub tries : (ℕ → Bool) → ℕ → Bool
tries test zero = true
tries test (suc k) = test k && tries test k

and_both : (a b : Bool) → (a && b) ≡ true → (a ≡ true) × (b ≡ true)
and_both true b e = (refl, e)
and_both false b e = absurd cc

-- a test that all numbers below k pass holds of each
pub tried : (test : ℕ → Bool) (k : ℕ) → tries test k ≡ true → (n : ℕ) → n < k → test n ≡ true
tried test zero e n lt = absurd (omega arith)
tried test (suc k) e n lt =
    let both = and_both (test k) (tries test k) e in
    elim (cases_lt n k) [ inl below ↦ tried test k both.1 n below | inr le ↦ subst (λ m. test m ≡ true) (omega arith) both.0 ]

-- ---- registers

-- registers with one number are one
pub same_reg : (r s : Reg) → r.number ≡ s.number → r ≡ s
same_reg r s e =
    let P : ℕ → Type 0 = λ m. (q : m ≤ 10) → r ≡ record { number = m; in_range = q } in
    subst P e (λ q. ap (λ (p : r.number ≤ 10). let made : Reg = record { number = r.number; in_range = p } in made) (le_prop r.in_range q)) s.in_range

-- ---- forms

r0 : Reg
r0 = record { number = 0; in_range = omega arith }

abbrev zeros : Word
zeros = record { opcode = 0; dst = 0; src = 0; offset = 0; imm = 0 }

abbrev sample : OpcodeForm → Insn
sample f = insn_from f r0 r0 zeros None

abbrev is_form_of : ℕ → Option OpcodeForm → Bool
is_form_of n None = true
is_form_of n (Some f) = eqb (first_word (sample f)).opcode n

all_forms : (n : ℕ) → n < 256 → is_form_of n (form_at n) ≡ true
all_forms = tried (λ n. is_form_of n (form_at n)) 256 refl

-- an opcode with a form is that of some instruction
pub has_form : (n : ℕ) (f : OpcodeForm) → n < 256 → form_at n ≡ Some f → (i : Insn) × ((first_word i).opcode ≡ n)
has_form n f lt e =
    let t = all_forms n lt in
    (sample f, eqb-true _ _ (subst (λ o. is_form_of n o ≡ true) e t))

-- ---- the form of an instruction

abbrev unsigned_of : AluOp → AluOp
unsigned_of alu.Sdiv = alu.Div
unsigned_of alu.Smod = alu.Mod
unsigned_of op = op

abbrev pub form_of : Insn → OpcodeForm
form_of (insn.Alu op width dst (operand.Imm n)) = Alu (unsigned_of op) width Imm
form_of (insn.Alu op width dst (operand.Reg src)) = Alu (unsigned_of op) width Register
form_of (insn.MovSx extension dst src) = Alu alu.Mov (extension_width extension) Register
form_of (insn.Neg width dst) = Neg width
form_of (insn.End order bits dst) = End order
form_of (insn.Jump offset) = Jump
form_of (insn.JumpLong distance) = JumpLong
form_of (insn.JumpIf c width dst (operand.Imm n) offset) = JumpIf c width Imm
form_of (insn.JumpIf c width dst (operand.Reg src) offset) = JumpIf c width Register
form_of (insn.Call helper) = Call
form_of insn.Exit = Exit
form_of (insn.Load size dst src offset) = Load size
form_of (insn.LoadSx size dst src offset) = LoadSx size
form_of (insn.StoreReg size dst src offset) = StoreReg size
form_of (insn.StoreImm size dst offset imm) = StoreImm size
form_of (insn.Wide dst value) = Wide

-- the table, each case computed
alu_32_imm : (op : AluOp) → form_at (alu_code op * 16 + alu_class W32) ≡ Some (Alu (unsigned_of op) W32 Imm)
alu_32_imm alu.Add = refl
alu_32_imm op = refl

alu_64_imm : (op : AluOp) → form_at (alu_code op * 16 + alu_class W64) ≡ Some (Alu (unsigned_of op) W64 Imm)
alu_64_imm alu.Add = refl
alu_64_imm op = refl

alu_32_register : (op : AluOp) → form_at (alu_code op * 16 + 0x08 + alu_class W32) ≡ Some (Alu (unsigned_of op) W32 Register)
alu_32_register alu.Add = refl
alu_32_register op = refl

alu_64_register : (op : AluOp) → form_at (alu_code op * 16 + 0x08 + alu_class W64) ≡ Some (Alu (unsigned_of op) W64 Register)
alu_64_register alu.Add = refl
alu_64_register op = refl

jump_32_imm : (c : Condition) → form_at (jump_code c * 16 + jump_class W32) ≡ Some (JumpIf c W32 Imm)
jump_32_imm condition.Equal = refl
jump_32_imm c = refl

jump_64_imm : (c : Condition) → form_at (jump_code c * 16 + jump_class W64) ≡ Some (JumpIf c W64 Imm)
jump_64_imm condition.Equal = refl
jump_64_imm c = refl

jump_32_register : (c : Condition) → form_at (jump_code c * 16 + 0x08 + jump_class W32) ≡ Some (JumpIf c W32 Register)
jump_32_register condition.Equal = refl
jump_32_register c = refl

jump_64_register : (c : Condition) → form_at (jump_code c * 16 + 0x08 + jump_class W64) ≡ Some (JumpIf c W64 Register)
jump_64_register condition.Equal = refl
jump_64_register c = refl

-- the form that is found by an instruction's opcode is its own
pub is_formed : (i : Insn) → form_at (first_word i).opcode ≡ Some (form_of i)
is_formed (insn.Alu op W32 dst (operand.Imm n)) = alu_32_imm op
is_formed (insn.Alu op W64 dst (operand.Imm n)) = alu_64_imm op
is_formed (insn.Alu op W32 dst (operand.Reg src)) = alu_32_register op
is_formed (insn.Alu op W64 dst (operand.Reg src)) = alu_64_register op
is_formed (insn.MovSx W32From8 dst src) = refl
is_formed (insn.MovSx extension dst src) = refl
is_formed (insn.Neg W32 dst) = refl
is_formed (insn.Neg W64 dst) = refl
is_formed (insn.End Little bits dst) = refl
is_formed (insn.End order bits dst) = refl
is_formed (insn.JumpIf c W32 dst (operand.Imm n) offset) = jump_32_imm c
is_formed (insn.JumpIf c W64 dst (operand.Imm n) offset) = jump_64_imm c
is_formed (insn.JumpIf c W32 dst (operand.Reg src) offset) = jump_32_register c
is_formed (insn.JumpIf c W64 dst (operand.Reg src) offset) = jump_64_register c
is_formed (insn.Load size.Word dst src offset) = refl
is_formed (insn.Load size dst src offset) = refl
is_formed (insn.LoadSx signed.Word dst src offset) = refl
is_formed (insn.LoadSx size dst src offset) = refl
is_formed (insn.StoreReg size.Word dst src offset) = refl
is_formed (insn.StoreReg size dst src offset) = refl
is_formed (insn.StoreImm size.Word dst offset imm) = refl
is_formed (insn.StoreImm size dst offset imm) = refl
is_formed i = refl

-- the same by an opcode that is known to be the instruction's
pub formed_at : (i : Insn) (n : ℕ) → (first_word i).opcode ≡ n → form_at n ≡ Some (form_of i)
formed_at i n same = subst (λ (m : ℕ). form_at m ≡ Some (form_of i)) same (is_formed i)

-- no instruction has an opcode without a form
pub no_form : (n : ℕ) → form_at n ≡ None → (i : Insn) → (first_word i).opcode ≡ n → ⊥
no_form n e i same = let f = formed_at i n same in cc

-- ---- what is read of an instruction's fields

signed_back : (op : AluOp) → signed_at (unsigned_of op) (alu_offset op) ≡ op
signed_back alu.Add = refl
signed_back op = refl

no_extension : (op : AluOp) (width : Width) → extension_at (unsigned_of op) width (alu_offset op) ≡ None
no_extension alu.Mov W32 = refl
no_extension alu.Mov W64 = refl
no_extension op width = refl

extension_back : (x : Extension) → extension_at alu.Mov (extension_width x) (extension_offset x) ≡ Some x
extension_back W32From8 = refl
extension_back x = refl

bits_back : (bits : SwapBits) → bits_at (swap_imm bits) ≡ bits
bits_back Bits16 = refl
bits_back bits = refl

reads : (i : Insn) → Fits i → (next : Option Word) → MatchOption (second_word i) (Unit {0}) (λ s. next ≡ Some s) → (dst src : Reg) → dst.number ≡ (first_word i).dst → src.number ≡ (first_word i).src
    → insn_from (form_of i) dst src (first_word i) next ≡ i
reads (insn.Alu op width d (operand.Imm n)) fits next second dst src is_dst is_src = rw (same_reg dst d is_dst, signed_back op, to_z-of_z w32 n fits) refl
reads (insn.Alu op width d (operand.Reg s)) fits next second dst src is_dst is_src = rw (same_reg dst d is_dst, same_reg src s is_src, no_extension op width, signed_back op) refl
reads (insn.MovSx x d s) fits next second dst src is_dst is_src = rw (same_reg dst d is_dst, same_reg src s is_src, extension_back x) refl
reads (insn.Neg width d) fits next second dst src is_dst is_src = rw (same_reg dst d is_dst) refl
reads (insn.End order bits d) fits next second dst src is_dst is_src = rw (same_reg dst d is_dst, bits_back bits) refl
reads (insn.Jump offset) fits next second dst src is_dst is_src = rw (to_z-of_z w16 offset fits) refl
reads (insn.JumpLong distance) fits next second dst src is_dst is_src = rw (to_z-of_z w32 distance fits) refl
reads (insn.JumpIf c width d (operand.Imm n) offset) fits next second dst src is_dst is_src = rw (same_reg dst d is_dst, to_z-of_z w32 n fits.0, to_z-of_z w16 offset fits.1) refl
reads (insn.JumpIf c width d (operand.Reg s) offset) fits next second dst src is_dst is_src = rw (same_reg dst d is_dst, same_reg src s is_src, to_z-of_z w16 offset fits.1) refl
reads (insn.Call helper) fits next second dst src is_dst is_src = rw (to_z-of_z w32 helper fits) refl
reads insn.Exit fits next second dst src is_dst is_src = refl
reads (insn.Load size d s offset) fits next second dst src is_dst is_src = rw (same_reg dst d is_dst, same_reg src s is_src, to_z-of_z w16 offset fits) refl
reads (insn.LoadSx size d s offset) fits next second dst src is_dst is_src = rw (same_reg dst d is_dst, same_reg src s is_src, to_z-of_z w16 offset fits) refl
reads (insn.StoreReg size d s offset) fits next second dst src is_dst is_src = rw (same_reg dst d is_dst, same_reg src s is_src, to_z-of_z w16 offset fits) refl
reads (insn.StoreImm size d offset imm) fits next second dst src is_dst is_src = rw (same_reg dst d is_dst, to_z-of_z w16 offset fits.0, to_z-of_z w32 imm fits.1) refl
reads (insn.Wide d value) fits next second dst src is_dst is_src =
    let whole : value % 2 ^ 32 + (value / 2 ^ 32) * 2 ^ 32 ≡ value = omega arith in
    rw (second, same_reg dst d is_dst, whole) refl

-- what begins with the slot is what is read
pub reads_back : (i : Insn) → Fits i → (w : Word) (next : Option Word) → Begins i w next → (f : OpcodeForm) → form_at w.opcode ≡ Some f → (dst src : Reg) → dst.number ≡ w.dst → src.number ≡ w.src
    → insn_from f dst src w next ≡ i
reads_back i fits w next begins f e dst src is_dst is_src =
    let P : Word → Type 0 = λ v. form_at v.opcode ≡ Some f → dst.number ≡ v.dst → src.number ≡ v.src → insn_from f dst src v next ≡ i in
    let at_first : P (first_word i) = λ e' is_dst' is_src'.
    let formed = is_formed i in
    let same : f ≡ form_of i = cc in
    rw same (reads i fits next begins.1 dst src is_dst' is_src') in
    subst P begins.0 at_first e is_dst is_src
