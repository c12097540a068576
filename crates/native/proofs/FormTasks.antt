-- The task of each form of an instruction.
use Rattle.std.proofs.Common.{◌≡◌, ℕ, List, Some, ℤ, refl}
use Rattle.decode.specs.declared.insn.AluOp.{AluOp}
use Rattle.decode.specs.declared.insn.AluOp.TheVariants as alu
use Rattle.decode.specs.declared.insn.Width.{Width}
use Rattle.decode.specs.declared.insn.Width.TheVariants.{W32, W64}
use Rattle.decode.specs.declared.insn.Extension.{Extension}
use Rattle.decode.specs.declared.insn.Extension.TheVariants as extension
use Rattle.decode.specs.declared.insn.ByteOrder.{ByteOrder}
use Rattle.decode.specs.declared.insn.ByteOrder.TheVariants as order
use Rattle.decode.specs.declared.insn.SwapBits.{SwapBits}
use Rattle.decode.specs.declared.insn.SwapBits.TheVariants as bits
use Rattle.decode.specs.declared.insn.Condition.{Condition}
use Rattle.decode.specs.declared.insn.Condition.TheVariants as condition
use Rattle.decode.specs.declared.insn.Size.{Size}
use Rattle.decode.specs.declared.insn.Size.TheVariants as size
use Rattle.decode.specs.declared.insn.SignedSize.{SignedSize}
use Rattle.decode.specs.declared.insn.SignedSize.TheVariants as signed
use Rattle.decode.specs.declared.insn.Operand.TheVariants as operand
use Rattle.decode.specs.declared.insn.Reg.{Reg}
use Rattle.dense.specs.Forms as forms
use Rattle.native.specs.declared.task.SlotTask.TheVariants as task
use Rattle.native.specs.Inside.Operations.{task_for}

module _ (pool : List ℕ) where
  pub alu_imm_task : (a : AluOp) (w : Width) (dst : Reg) (imm : ℤ) → task_for pool (forms.alu_imm a w dst imm) ≡ Some (task.Compute a w dst (operand.Imm imm))
  alu_imm_task alu.Add W64 dst imm = refl
  alu_imm_task alu.Add W32 dst imm = refl
  alu_imm_task alu.Sub W64 dst imm = refl
  alu_imm_task alu.Sub W32 dst imm = refl
  alu_imm_task alu.Mul W64 dst imm = refl
  alu_imm_task alu.Mul W32 dst imm = refl
  alu_imm_task alu.Div W64 dst imm = refl
  alu_imm_task alu.Div W32 dst imm = refl
  alu_imm_task alu.Sdiv W64 dst imm = refl
  alu_imm_task alu.Sdiv W32 dst imm = refl
  alu_imm_task alu.Or W64 dst imm = refl
  alu_imm_task alu.Or W32 dst imm = refl
  alu_imm_task alu.And W64 dst imm = refl
  alu_imm_task alu.And W32 dst imm = refl
  alu_imm_task alu.Lsh W64 dst imm = refl
  alu_imm_task alu.Lsh W32 dst imm = refl
  alu_imm_task alu.Rsh W64 dst imm = refl
  alu_imm_task alu.Rsh W32 dst imm = refl
  alu_imm_task alu.Mod W64 dst imm = refl
  alu_imm_task alu.Mod W32 dst imm = refl
  alu_imm_task alu.Smod W64 dst imm = refl
  alu_imm_task alu.Smod W32 dst imm = refl
  alu_imm_task alu.Xor W64 dst imm = refl
  alu_imm_task alu.Xor W32 dst imm = refl
  alu_imm_task alu.Mov W64 dst imm = refl
  alu_imm_task alu.Mov W32 dst imm = refl
  alu_imm_task alu.Arsh W64 dst imm = refl
  alu_imm_task alu.Arsh W32 dst imm = refl

  pub alu_reg_task : (a : AluOp) (w : Width) (dst src : Reg) → task_for pool (forms.alu_reg a w dst src) ≡ Some (task.Compute a w dst (operand.Reg src))
  alu_reg_task alu.Add W64 dst src = refl
  alu_reg_task alu.Add W32 dst src = refl
  alu_reg_task alu.Sub W64 dst src = refl
  alu_reg_task alu.Sub W32 dst src = refl
  alu_reg_task alu.Mul W64 dst src = refl
  alu_reg_task alu.Mul W32 dst src = refl
  alu_reg_task alu.Div W64 dst src = refl
  alu_reg_task alu.Div W32 dst src = refl
  alu_reg_task alu.Sdiv W64 dst src = refl
  alu_reg_task alu.Sdiv W32 dst src = refl
  alu_reg_task alu.Or W64 dst src = refl
  alu_reg_task alu.Or W32 dst src = refl
  alu_reg_task alu.And W64 dst src = refl
  alu_reg_task alu.And W32 dst src = refl
  alu_reg_task alu.Lsh W64 dst src = refl
  alu_reg_task alu.Lsh W32 dst src = refl
  alu_reg_task alu.Rsh W64 dst src = refl
  alu_reg_task alu.Rsh W32 dst src = refl
  alu_reg_task alu.Mod W64 dst src = refl
  alu_reg_task alu.Mod W32 dst src = refl
  alu_reg_task alu.Smod W64 dst src = refl
  alu_reg_task alu.Smod W32 dst src = refl
  alu_reg_task alu.Xor W64 dst src = refl
  alu_reg_task alu.Xor W32 dst src = refl
  alu_reg_task alu.Mov W64 dst src = refl
  alu_reg_task alu.Mov W32 dst src = refl
  alu_reg_task alu.Arsh W64 dst src = refl
  alu_reg_task alu.Arsh W32 dst src = refl

  pub movsx_task : (x : Extension) (dst src : Reg) → task_for pool (forms.movsx x dst src) ≡ Some (task.Extend x dst src)
  movsx_task extension.W32From8 dst src = refl
  movsx_task extension.W32From16 dst src = refl
  movsx_task extension.W64From8 dst src = refl
  movsx_task extension.W64From16 dst src = refl
  movsx_task extension.W64From32 dst src = refl

  pub neg_task : (w : Width) (dst : Reg) → task_for pool (forms.neg w dst) ≡ Some (task.Negate w dst)
  neg_task W64 dst = refl
  neg_task W32 dst = refl

  pub swap_task : (o : ByteOrder) (b : SwapBits) (dst : Reg) → task_for pool (forms.swap o b dst) ≡ Some (task.Reorder o b dst)
  swap_task order.Little bits.Bits16 dst = refl
  swap_task order.Little bits.Bits32 dst = refl
  swap_task order.Little bits.Bits64 dst = refl
  swap_task order.Big bits.Bits16 dst = refl
  swap_task order.Big bits.Bits32 dst = refl
  swap_task order.Big bits.Bits64 dst = refl
  swap_task order.Swap bits.Bits16 dst = refl
  swap_task order.Swap bits.Bits32 dst = refl
  swap_task order.Swap bits.Bits64 dst = refl

  pub jump_imm_task : (x : Condition) (w : Width) (dst : Reg) (imm : ℤ) (to : ℕ) → task_for pool (forms.jump_imm x w dst imm to) ≡ Some (task.Branch x w dst (operand.Imm imm) to)
  jump_imm_task condition.Equal W64 dst imm to = refl
  jump_imm_task condition.Equal W32 dst imm to = refl
  jump_imm_task condition.Greater W64 dst imm to = refl
  jump_imm_task condition.Greater W32 dst imm to = refl
  jump_imm_task condition.GreaterEqual W64 dst imm to = refl
  jump_imm_task condition.GreaterEqual W32 dst imm to = refl
  jump_imm_task condition.Set W64 dst imm to = refl
  jump_imm_task condition.Set W32 dst imm to = refl
  jump_imm_task condition.NotEqual W64 dst imm to = refl
  jump_imm_task condition.NotEqual W32 dst imm to = refl
  jump_imm_task condition.SignedGreater W64 dst imm to = refl
  jump_imm_task condition.SignedGreater W32 dst imm to = refl
  jump_imm_task condition.SignedGreaterEqual W64 dst imm to = refl
  jump_imm_task condition.SignedGreaterEqual W32 dst imm to = refl
  jump_imm_task condition.Less W64 dst imm to = refl
  jump_imm_task condition.Less W32 dst imm to = refl
  jump_imm_task condition.LessEqual W64 dst imm to = refl
  jump_imm_task condition.LessEqual W32 dst imm to = refl
  jump_imm_task condition.SignedLess W64 dst imm to = refl
  jump_imm_task condition.SignedLess W32 dst imm to = refl
  jump_imm_task condition.SignedLessEqual W64 dst imm to = refl
  jump_imm_task condition.SignedLessEqual W32 dst imm to = refl

  pub jump_reg_task : (x : Condition) (w : Width) (dst src : Reg) (to : ℕ) → task_for pool (forms.jump_reg x w dst src to) ≡ Some (task.Branch x w dst (operand.Reg src) to)
  jump_reg_task condition.Equal W64 dst src to = refl
  jump_reg_task condition.Equal W32 dst src to = refl
  jump_reg_task condition.Greater W64 dst src to = refl
  jump_reg_task condition.Greater W32 dst src to = refl
  jump_reg_task condition.GreaterEqual W64 dst src to = refl
  jump_reg_task condition.GreaterEqual W32 dst src to = refl
  jump_reg_task condition.Set W64 dst src to = refl
  jump_reg_task condition.Set W32 dst src to = refl
  jump_reg_task condition.NotEqual W64 dst src to = refl
  jump_reg_task condition.NotEqual W32 dst src to = refl
  jump_reg_task condition.SignedGreater W64 dst src to = refl
  jump_reg_task condition.SignedGreater W32 dst src to = refl
  jump_reg_task condition.SignedGreaterEqual W64 dst src to = refl
  jump_reg_task condition.SignedGreaterEqual W32 dst src to = refl
  jump_reg_task condition.Less W64 dst src to = refl
  jump_reg_task condition.Less W32 dst src to = refl
  jump_reg_task condition.LessEqual W64 dst src to = refl
  jump_reg_task condition.LessEqual W32 dst src to = refl
  jump_reg_task condition.SignedLess W64 dst src to = refl
  jump_reg_task condition.SignedLess W32 dst src to = refl
  jump_reg_task condition.SignedLessEqual W64 dst src to = refl
  jump_reg_task condition.SignedLessEqual W32 dst src to = refl

  pub load_task : (z : Size) (dst : Reg) (at : ℕ) → task_for pool (forms.load z dst at) ≡ Some (task.Load z dst at)
  load_task size.Double dst at = refl
  load_task size.Word dst at = refl
  load_task size.Half dst at = refl
  load_task size.Byte dst at = refl

  pub load_sx_task : (z : SignedSize) (dst : Reg) (at : ℕ) → task_for pool (forms.load_sx z dst at) ≡ Some (task.LoadSx z dst at)
  load_sx_task signed.Word dst at = refl
  load_sx_task signed.Half dst at = refl
  load_sx_task signed.Byte dst at = refl

  pub store_reg_task : (z : Size) (src : Reg) (at : ℕ) → task_for pool (forms.store_reg z src at) ≡ Some (task.Store z src at)
  store_reg_task size.Double src at = refl
  store_reg_task size.Word src at = refl
  store_reg_task size.Half src at = refl
  store_reg_task size.Byte src at = refl

  pub store_imm_task : (z : Size) (at : ℕ) (imm : ℤ) → task_for pool (forms.store_imm z at imm) ≡ Some (task.StoreImm z at imm)
  store_imm_task size.Double at imm = refl
  store_imm_task size.Word at imm = refl
  store_imm_task size.Half at imm = refl
  store_imm_task size.Byte at imm = refl
