-- The image file of code, with its blocks in another order if that helps.
use Rattle.std.specs.Prelude.{◌≡◌, ℕ, List}
use Rattle.decode.specs.declared.insn.Insn.{Insn}
use Rattle.regtypes.specs.declared.rule.Rule.TheVariants.{V1}
use Rattle.verifier.specs.ImageFile.{IsFault}
use Rattle.verifier.specs.AnyFile.{IsFile}
use Rattle.verifier.specs.declared.file_form.FileForm.{FileForm}
use Rattle.verifier.specs.declared.file_form.FileForm.TheVariants.{Sbi1, Sbi2, Sbi3}
use Rattle.block_order.specs.Order.{IsForward, IsLoop, IsMoved, code_of}
use Rattle.block_order.specs.declared.arrangement.Placed.{Placed}
use Rattle.block_order.specs.declared.blocks.Blocks.{Blocks}
use Rattle.block_order.specs.declared.blocks.Blocks.TheVariants.{Kept, Moved, Loops, Unknown}
use Rattle.block_order.specs.declared.writer.Ordered.{Ordered}

-- the verifier of form 3 refuses the code by V1
abbrev pub BreaksV1 : List Insn → ℕ → Type 0
BreaksV1 code state = (slot : ℕ) × IsFault Sbi3 code state V1 slot

-- an order is needed: in form 3, if V1 refuses the code
abbrev pub WantsOrder : FileForm → List Insn → ℕ → Type 0
WantsOrder Sbi1 code state = ⊥
WantsOrder Sbi2 code state = ⊥
WantsOrder Sbi3 code state = BreaksV1 code state

-- an order is needed, and a jump goes back
abbrev pub GoesBack : FileForm → List Insn → ℕ → Type 0
GoesBack form code state = WantsOrder form code state × ¬ IsForward code

-- what was done with the blocks of the code in what is written
abbrev pub Stands : FileForm → List Insn → ℕ → List Insn → Blocks → Type 0
Stands form code state written Kept = (written ≡ code) × ¬ GoesBack form code state
Stands form code state written Moved =
    GoesBack form code state × (placed : Placed) × (written ≡ placed.insns.items) × IsMoved code placed
Stands form code state written (Loops from to) = (written ≡ code) × GoesBack form code state × IsLoop (code_of code) from to
Stands form code state written Unknown = (written ≡ code) × GoesBack form code state

-- the bytes are the file of this form of the code, with a state of this length, and this was done with its blocks
pub record IsFileOf (form : FileForm) (code : List Insn) (state : ℕ) (bytes : List ℕ) (blocks : Blocks) : Type 0 where
  pub written : List Insn
  pub file : IsFile form written state bytes
  pub stands : Stands form code state written blocks

-- the same for the answer
abbrev pub IsOrdered : FileForm → List Insn → ℕ → Ordered → Type 0
IsOrdered form code state o = IsFileOf form code state o.bytes.items o.blocks
