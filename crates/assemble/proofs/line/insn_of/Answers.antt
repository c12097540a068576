use Rattle.std.proofs.Common.{◌<◌, ◌^◌, ◌∷◌, [], refl, ℕ, ℤ, FitsSigned, List}
use Rattle.std.specs.Int.{w16, w32}
use Rattle.std.proofs.lemmas.Result.{err_from_is_err_and}
use Rattle.decode.specs.Encoding.{OperandFits}
use Rattle.decode.specs.declared.insn.Reg.{Reg}
use Rattle.decode.specs.declared.insn.Operand.{Operand}
use Rattle.decode.specs.declared.insn.Insn.{Insn}
use Rattle.decode.specs.declared.insn.Insn.TheVariants as insn
use Rattle.assemble.specs.declared.mnemonic.Mnemonic.TheVariants as mnemonic
use Rattle.assemble.specs.Number.{numeral, number, with_sign}
use Rattle.assemble.specs.Inside.Words.{commas}
use Rattle.assemble.specs.Text.{register, source, address}
use Rattle.assemble.proofs.Insns.{refused, of_as}
use Rattle.assemble.proofs.line.insn_of.Goals as goal

pub returns-in_err-dst-in-Alu : goal.returns-in_err-dst-in-Alu
returns-in_err-dst-in-Alu c =
    let out = err_from_is_err_and c.from_residual.result c.from_residual.ensures.1 in
    let m = mnemonic.Alu c.in-Alu.op c.in-Alu.width in
    let made : Reg × Operand → Insn = λ v. insn.Alu c.in-Alu.op c.in-Alu.width v.0 v.1 in
    let written : Reg × Operand → List ℕ = λ v. commas (register v.0) (source v.1 ∷ []) in
    let fits : Reg × Operand → Type 0 = λ v. Unit {0} × OperandFits v.1 in
    refused m c.args.text.now made written fits (λ _. refl) (λ _. refl) (λ _ f. (tt, f)) (λ i is. of_as m i is) c.args.mnemonic c.in-Alu.is c.in_err-dst-in-Alu.field-0.0 out.0 c.from_residual.result out.1 out.2 c.in_err-dst-in-Alu.ensures

pub returns-in_err-dst-in-MovSx : goal.returns-in_err-dst-in-MovSx
returns-in_err-dst-in-MovSx c =
    let out = err_from_is_err_and c.from_residual-in_err-dst-in-MovSx.result c.from_residual-in_err-dst-in-MovSx.ensures.1 in
    let m = mnemonic.MovSx c.in-MovSx.extension in
    let made : Reg × Reg → Insn = λ v. insn.MovSx c.in-MovSx.extension v.0 v.1 in
    let written : Reg × Reg → List ℕ = λ v. commas (register v.0) (register v.1 ∷ []) in
    let fits : Reg × Reg → Type 0 = λ v. Unit {0} × Unit {0} in
    refused m c.args.text.now made written fits (λ _. refl) (λ _. refl) (λ _ f. (tt, tt)) (λ i is. of_as m i is) c.args.mnemonic c.in-MovSx.is c.in_err-dst-in-MovSx.field-0.0 out.0 c.from_residual-in_err-dst-in-MovSx.result out.1 out.2 c.in_err-dst-in-MovSx.ensures

pub returns-in_err-offset-in-Jump : goal.returns-in_err-offset-in-Jump
returns-in_err-offset-in-Jump c =
    let out = err_from_is_err_and c.from_residual-in_err-offset-in-Jump.result c.from_residual-in_err-offset-in-Jump.ensures.1 in
    let m = mnemonic.Jump in
    let made : ℤ → Insn = λ v. insn.Jump v in
    let written : ℤ → List ℕ = λ v. with_sign v in
    let fits : ℤ → Type 0 = λ v. FitsSigned w16 v in
    refused m c.args.text.now made written fits (λ _. refl) (λ _. refl) (λ _ f. f) (λ i is. of_as m i is) c.args.mnemonic c.in-Jump.is c.in_err-offset-in-Jump.field-0.0 out.0 c.from_residual-in_err-offset-in-Jump.result out.1 out.2 c.in_err-offset-in-Jump.ensures

pub returns-in_err-distance-in-JumpLong : goal.returns-in_err-distance-in-JumpLong
returns-in_err-distance-in-JumpLong c =
    let out = err_from_is_err_and c.from_residual-in_err-distance-in-JumpLong.result c.from_residual-in_err-distance-in-JumpLong.ensures.1 in
    let m = mnemonic.JumpLong in
    let made : ℤ → Insn = λ v. insn.JumpLong v in
    let written : ℤ → List ℕ = λ v. with_sign v in
    let fits : ℤ → Type 0 = λ v. FitsSigned w32 v in
    refused m c.args.text.now made written fits (λ _. refl) (λ _. refl) (λ _ f. f) (λ i is. of_as m i is) c.args.mnemonic c.in-JumpLong.is c.in_err-distance-in-JumpLong.field-0.0 out.0 c.from_residual-in_err-distance-in-JumpLong.result out.1 out.2 c.in_err-distance-in-JumpLong.ensures

pub returns-in_err-dst-in-JumpIf : goal.returns-in_err-dst-in-JumpIf
returns-in_err-dst-in-JumpIf c =
    let out = err_from_is_err_and c.from_residual-in_err-dst-in-JumpIf.result c.from_residual-in_err-dst-in-JumpIf.ensures.1 in
    let m = mnemonic.JumpIf c.in-JumpIf.condition c.in-JumpIf.width in
    let made : Reg × (Operand × ℤ) → Insn = λ v. insn.JumpIf c.in-JumpIf.condition c.in-JumpIf.width v.0 (v.1).0 (v.1).1 in
    let written : Reg × (Operand × ℤ) → List ℕ = λ v. commas (register v.0) (source (v.1).0 ∷ with_sign (v.1).1 ∷ []) in
    let fits : Reg × (Operand × ℤ) → Type 0 = λ v. Unit {0} × (OperandFits (v.1).0 × FitsSigned w16 (v.1).1) in
    refused m c.args.text.now made written fits (λ _. refl) (λ _. refl) (λ _ f. (tt, f)) (λ i is. of_as m i is) c.args.mnemonic c.in-JumpIf.is c.in_err-dst-in-JumpIf.field-0.0 out.0 c.from_residual-in_err-dst-in-JumpIf.result out.1 out.2 c.in_err-dst-in-JumpIf.ensures

pub returns-in_err-helper-in-Call : goal.returns-in_err-helper-in-Call
returns-in_err-helper-in-Call c =
    let out = err_from_is_err_and c.from_residual-in_err-helper-in-Call.result c.from_residual-in_err-helper-in-Call.ensures.1 in
    let m = mnemonic.Call in
    let made : ℤ → Insn = λ v. insn.Call v in
    let written : ℤ → List ℕ = λ v. number v in
    let fits : ℤ → Type 0 = λ v. FitsSigned w32 v in
    refused m c.args.text.now made written fits (λ _. refl) (λ _. refl) (λ _ f. f) (λ i is. of_as m i is) c.args.mnemonic c.in-Call.is c.in_err-helper-in-Call.field-0.0 out.0 c.from_residual-in_err-helper-in-Call.result out.1 out.2 c.in_err-helper-in-Call.ensures

pub returns-in_err-dst-in-Load : goal.returns-in_err-dst-in-Load
returns-in_err-dst-in-Load c =
    let out = err_from_is_err_and c.from_residual-in_err-dst-in-Load.result c.from_residual-in_err-dst-in-Load.ensures.1 in
    let m = mnemonic.Load c.in-Load.size in
    let made : Reg × (Reg × ℤ) → Insn = λ v. insn.Load c.in-Load.size v.0 (v.1).0 (v.1).1 in
    let written : Reg × (Reg × ℤ) → List ℕ = λ v. commas (register v.0) (address (v.1).0 (v.1).1 ∷ []) in
    let fits : Reg × (Reg × ℤ) → Type 0 = λ v. Unit {0} × (Unit {0} × FitsSigned w16 (v.1).1) in
    refused m c.args.text.now made written fits (λ _. refl) (λ _. refl) (λ _ f. (tt, (tt, f))) (λ i is. of_as m i is) c.args.mnemonic c.in-Load.is c.in_err-dst-in-Load.field-0.0 out.0 c.from_residual-in_err-dst-in-Load.result out.1 out.2 c.in_err-dst-in-Load.ensures

pub returns-in_err-dst-in-LoadSx : goal.returns-in_err-dst-in-LoadSx
returns-in_err-dst-in-LoadSx c =
    let out = err_from_is_err_and c.from_residual-in_err-dst-in-LoadSx.result c.from_residual-in_err-dst-in-LoadSx.ensures.1 in
    let m = mnemonic.LoadSx c.in-LoadSx.size in
    let made : Reg × (Reg × ℤ) → Insn = λ v. insn.LoadSx c.in-LoadSx.size v.0 (v.1).0 (v.1).1 in
    let written : Reg × (Reg × ℤ) → List ℕ = λ v. commas (register v.0) (address (v.1).0 (v.1).1 ∷ []) in
    let fits : Reg × (Reg × ℤ) → Type 0 = λ v. Unit {0} × (Unit {0} × FitsSigned w16 (v.1).1) in
    refused m c.args.text.now made written fits (λ _. refl) (λ _. refl) (λ _ f. (tt, (tt, f))) (λ i is. of_as m i is) c.args.mnemonic c.in-LoadSx.is c.in_err-dst-in-LoadSx.field-0.0 out.0 c.from_residual-in_err-dst-in-LoadSx.result out.1 out.2 c.in_err-dst-in-LoadSx.ensures

pub returns-in_err-dst-in-StoreReg : goal.returns-in_err-dst-in-StoreReg
returns-in_err-dst-in-StoreReg c =
    let out = err_from_is_err_and c.from_residual-in_err-dst-in-StoreReg.result c.from_residual-in_err-dst-in-StoreReg.ensures.1 in
    let m = mnemonic.StoreReg c.in-StoreReg.size in
    let made : (Reg × ℤ) × Reg → Insn = λ v. insn.StoreReg c.in-StoreReg.size (v.0).0 v.1 (v.0).1 in
    let written : (Reg × ℤ) × Reg → List ℕ = λ v. commas (address (v.0).0 (v.0).1) (register v.1 ∷ []) in
    let fits : (Reg × ℤ) × Reg → Type 0 = λ v. (Unit {0} × FitsSigned w16 (v.0).1) × Unit {0} in
    refused m c.args.text.now made written fits (λ _. refl) (λ _. refl) (λ _ f. ((tt, f), tt)) (λ i is. of_as m i is) c.args.mnemonic c.in-StoreReg.is c.in_err-dst-in-StoreReg.field-0.0 out.0 c.from_residual-in_err-dst-in-StoreReg.result out.1 out.2 c.in_err-dst-in-StoreReg.ensures

pub returns-in_err-dst-in-StoreImm : goal.returns-in_err-dst-in-StoreImm
returns-in_err-dst-in-StoreImm c =
    let out = err_from_is_err_and c.from_residual-in_err-dst-in-StoreImm.result c.from_residual-in_err-dst-in-StoreImm.ensures.1 in
    let m = mnemonic.StoreImm c.in-StoreImm.size in
    let made : (Reg × ℤ) × ℤ → Insn = λ v. insn.StoreImm c.in-StoreImm.size (v.0).0 (v.0).1 v.1 in
    let written : (Reg × ℤ) × ℤ → List ℕ = λ v. commas (address (v.0).0 (v.0).1) (number v.1 ∷ []) in
    let fits : (Reg × ℤ) × ℤ → Type 0 = λ v. (Unit {0} × FitsSigned w16 (v.0).1) × FitsSigned w32 v.1 in
    refused m c.args.text.now made written fits (λ _. refl) (λ _. refl) (λ _ f. ((tt, f.0), f.1)) (λ i is. of_as m i is) c.args.mnemonic c.in-StoreImm.is c.in_err-dst-in-StoreImm.field-0.0 out.0 c.from_residual-in_err-dst-in-StoreImm.result out.1 out.2 c.in_err-dst-in-StoreImm.ensures

pub returns-in_err-dst-in-Wide : goal.returns-in_err-dst-in-Wide
returns-in_err-dst-in-Wide c =
    let out = err_from_is_err_and c.from_residual-in_err-dst-in-Wide.result c.from_residual-in_err-dst-in-Wide.ensures.1 in
    let m = mnemonic.Wide in
    let made : Reg × ℕ → Insn = λ v. insn.Wide v.0 v.1 in
    let written : Reg × ℕ → List ℕ = λ v. commas (register v.0) (numeral v.1 ∷ []) in
    let fits : Reg × ℕ → Type 0 = λ v. Unit {0} × (v.1 < 2 ^ 64) in
    refused m c.args.text.now made written fits (λ _. refl) (λ _. refl) (λ _ f. (tt, f)) (λ i is. of_as m i is) c.args.mnemonic c.in-Wide.is c.in_err-dst-in-Wide.field-0.0 out.0 c.from_residual-in_err-dst-in-Wide.result out.1 out.2 c.in_err-dst-in-Wide.ensures
