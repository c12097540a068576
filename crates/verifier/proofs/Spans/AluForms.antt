-- Which operations compute a word of two words.
use Rattle.std.proofs.Common.{◌≡◌, ℤ, refl, sym, ap, ◌∙◌}
use Rattle.decode.specs.declared.insn.AluOp.{AluOp}
use Rattle.decode.specs.declared.insn.AluOp.TheVariants as alu
use Rattle.decode.specs.declared.insn.Reg.{Reg}
use Rattle.decode.specs.declared.insn.Width.{Width}
use Rattle.decode.specs.declared.insn.Width.TheVariants.{W32}
use Rattle.decode.specs.declared.insn.Operand.TheVariants as operand
use Rattle.spans.specs.Ways.{Computes, alu_form}

-- with an immediate every operation but three computes a word
pub other_imm : (op : AluOp) (width : Width) (z : ℤ) → (op ≡ alu.Mov → ⊥) → (op ≡ alu.Add → ⊥) → (op ≡ alu.Sub → ⊥) → Computes op width ≡ alu_form op width (operand.Imm z)
other_imm alu.Mov width z m a s = absurd (m refl)
other_imm alu.Add width z m a s = absurd (a refl)
other_imm alu.Sub width z m a s = absurd (s refl)
other_imm alu.Mul width z m a s = refl
other_imm alu.Div width z m a s = refl
other_imm alu.Sdiv width z m a s = refl
other_imm alu.Or width z m a s = refl
other_imm alu.And width z m a s = refl
other_imm alu.Lsh width z m a s = refl
other_imm alu.Rsh width z m a s = refl
other_imm alu.Mod width z m a s = refl
other_imm alu.Smod width z m a s = refl
other_imm alu.Xor width z m a s = refl
other_imm alu.Arsh width z m a s = refl

-- with a register every operation but two does
pub other_reg : (op : AluOp) (width : Width) (r : Reg) → (op ≡ alu.Mov → ⊥) → (op ≡ alu.Add → ⊥) → Computes op width ≡ alu_form op width (operand.Reg r)
other_reg alu.Mov width r m a = absurd (m refl)
other_reg alu.Add width r m a = absurd (a refl)
other_reg alu.Sub width r m a = refl
other_reg alu.Mul width r m a = refl
other_reg alu.Div width r m a = refl
other_reg alu.Sdiv width r m a = refl
other_reg alu.Or width r m a = refl
other_reg alu.And width r m a = refl
other_reg alu.Lsh width r m a = refl
other_reg alu.Rsh width r m a = refl
other_reg alu.Mod width r m a = refl
other_reg alu.Smod width r m a = refl
other_reg alu.Xor width r m a = refl
other_reg alu.Arsh width r m a = refl

-- so does a sum of 32 bits
pub half_sum : (op : AluOp) (width : Width) (r : Reg) → op ≡ alu.Add → width ≡ W32 → Computes op width ≡ alu_form op width (operand.Reg r)
half_sum op width r a w = ap (λ (o : AluOp). Computes o width) a ∙ ap (Computes alu.Add) w ∙ sym (ap (λ (v : Width). alu_form alu.Add v (operand.Reg r)) w) ∙ sym (ap (λ (o : AluOp). alu_form o width (operand.Reg r)) a)
