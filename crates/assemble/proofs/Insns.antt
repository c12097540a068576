-- What instructions have a mnemonic.
use Rattle.std.proofs.Common.{◌≡◌, ℕ, ℤ, List, [], ◌∷◌, Result, Err, refl, sym, ap, subst, ◌∙◌}
use Rattle.decode.specs.Encoding.{Fits}
use Rattle.decode.specs.declared.insn.Reg.{Reg}
use Rattle.decode.specs.declared.insn.Operand.{Operand}
use Rattle.decode.specs.declared.insn.Insn.{Insn}
use Rattle.decode.specs.declared.insn.Insn.TheVariants as insn
use Rattle.assemble.specs.declared.fault.TextFault.{TextFault}
use Rattle.assemble.specs.declared.fault.TextFault.TheVariants.{Shape, Range}
use Rattle.assemble.specs.declared.mnemonic.Mnemonic.{Mnemonic}
use Rattle.assemble.specs.declared.mnemonic.Mnemonic.TheVariants.{Alu, MovSx, Neg, End, Jump, JumpLong, JumpIf, Call, Exit, Load, LoadSx, StoreReg, StoreImm, Wide}
use Rattle.assemble.specs.Inside.Reads.{Reads}
use Rattle.assemble.specs.Inside.Words.{operands_of, tail}
use Rattle.assemble.specs.Inside.Mnemonic.{mnemonic_of, IsInsn}

-- the values of an instruction with this mnemonic
abbrev pub IsOf : Mnemonic → Insn → Type 0
IsOf (Alu op width) i = (v : Reg × Operand) × (i ≡ insn.Alu op width v.0 v.1)
IsOf (MovSx extension) i = (v : Reg × Reg) × (i ≡ insn.MovSx extension v.0 v.1)
IsOf (Neg width) i = (v : Reg) × (i ≡ insn.Neg width v)
IsOf (End order b) i = (v : Reg) × (i ≡ insn.End order b v)
IsOf Jump i = (v : ℤ) × (i ≡ insn.Jump v)
IsOf JumpLong i = (v : ℤ) × (i ≡ insn.JumpLong v)
IsOf (JumpIf c width) i = (v : Reg × (Operand × ℤ)) × (i ≡ insn.JumpIf c width v.0 (v.1).0 (v.1).1)
IsOf Call i = (v : ℤ) × (i ≡ insn.Call v)
IsOf Exit i = i ≡ insn.Exit
IsOf (Load s) i = (v : Reg × (Reg × ℤ)) × (i ≡ insn.Load s v.0 (v.1).0 (v.1).1)
IsOf (LoadSx s) i = (v : Reg × (Reg × ℤ)) × (i ≡ insn.LoadSx s v.0 (v.1).0 (v.1).1)
IsOf (StoreReg s) i = (v : (Reg × ℤ) × Reg) × (i ≡ insn.StoreReg s (v.0).0 v.1 (v.0).1)
IsOf (StoreImm s) i = (v : (Reg × ℤ) × ℤ) × (i ≡ insn.StoreImm s (v.0).0 (v.0).1 v.1)
IsOf Wide i = (v : Reg × ℕ) × (i ≡ insn.Wide v.0 v.1)

is_of : (i : Insn) → IsOf (mnemonic_of i) i
is_of (insn.Alu op width dst src) = ((dst, src), refl)
is_of (insn.MovSx extension dst src) = ((dst, src), refl)
is_of (insn.Neg width dst) = (dst, refl)
is_of (insn.End order b dst) = (dst, refl)
is_of (insn.Jump offset) = (offset, refl)
is_of (insn.JumpLong distance) = (distance, refl)
is_of (insn.JumpIf c width dst src offset) = ((dst, (src, offset)), refl)
is_of (insn.Call helper) = (helper, refl)
is_of insn.Exit = refl
is_of (insn.Load s dst src offset) = ((dst, (src, offset)), refl)
is_of (insn.LoadSx s dst src offset) = ((dst, (src, offset)), refl)
is_of (insn.StoreReg s dst src offset) = (((dst, offset), src), refl)
is_of (insn.StoreImm s dst offset imm) = (((dst, offset), imm), refl)
is_of (insn.Wide dst value) = ((dst, value), refl)

-- an instruction with this mnemonic has such values
pub of_as : (m : Mnemonic) (i : Insn) → mnemonic_of i ≡ m → IsOf m i
of_as m i is = subst (λ (k : Mnemonic). IsOf k i) is (is_of i)

-- an instruction of each mnemonic, by its values and how they are written
module _ {V : Type 0} (m : Mnemonic) (text : List ℕ) (made : V → Insn) (written : V → List ℕ) (F : V → Type 0)
    (same : (v : V) → mnemonic_of (made v) ≡ m) (opens : (v : V) → tail (operands_of (made v)) ≡ 32 ∷ written v)
    (fits : (v : V) → Fits (made v) → F v) (only : (i : Insn) → mnemonic_of i ≡ m → (v : V) × (i ≡ made v)) where
  refused_so : (e : TextFault) → Reads (λ (v : V). text ≡ written v) F (Err e) → Reads (IsInsn m (32 ∷ text)) Fits (Err e)
  refused_so Shape h = λ i is.
      let v = only i is.0 in
      let all : 32 ∷ text ≡ 32 ∷ written v.0 = is.1 ∙ ap (λ (j : Insn). tail (operands_of j)) v.1 ∙ opens v.0 in
      let same_text : text ≡ written v.0 = cc in
      h v.0 same_text
  refused_so Range h = (made h.0, (same h.0, ap (λ (x : List ℕ). 32 ∷ x) h.1 ∙ sym (opens h.0)), λ f. h.2 (fits h.0 f))

  -- operands that are refused are refused with the mnemonic, for the same fault
  pub refused : (k : Mnemonic) → k ≡ m → (e y : TextFault) (out : Result Insn TextFault) → out ≡ Err y → y ≡ e → Reads (λ (v : V). text ≡ written v) F (Err e) → Reads (IsInsn k (32 ∷ text)) Fits out
  refused k km e y out is same_fault h =
      let P : Mnemonic → Result Insn TextFault → Type 0 = λ n o. Reads (IsInsn n (32 ∷ text)) Fits o in
      subst (λ (o : Result Insn TextFault). P k o) (sym (is ∙ ap (λ (x : TextFault). let r : Result Insn TextFault = Err x in r) same_fault)) (subst (λ (n : Mnemonic). P n (Err e)) (sym km) (refused_so e h))

-- only one has no operands
pub bare_is : (i : Insn) → [] ≡ tail (operands_of i) → mnemonic_of i ≡ Exit
bare_is insn.Exit e = refl
bare_is i e = absurd cc
