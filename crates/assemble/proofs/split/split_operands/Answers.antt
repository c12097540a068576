use Rattle.std.proofs.Common.{◌∷◌, ◌∙◌, List, ℕ, ap, sym, arith, get_or, length}
use Rattle.std.proofs.lemmas.Bool.{eqb-true}
use Rattle.assemble.proofs.Splits.{one_split, present}
use Rattle.assemble.proofs.split.split_operands.Goals as goal
use Rattle.assemble.proofs.split.split_operands.Goals.{then-is_empty-via-then-is_empty, then-is_empty-via-else-is_empty+then-rest-ne32}

pub returns-in_default : goal.returns-in_default
returns-in_default c = λ a b s. c.in_default.ensures (present 44 c.args.text.now a (32 ∷ b) s)

pub returns-then-is_empty : goal.returns-then-is_empty
returns-then-is_empty c = λ a b s.
    let same = one_split 44 c.args.text.now c.in-Some.left.now c.in-Some.rest.now a (32 ∷ b) c.in-Some.ensures s in
    let long = ap (λ (l : List ℕ). length l) same.1 in
    let first = ap (λ (l : List ℕ). get_or l 0 0) same.1 in
    elim c.then-is_empty.branch [
      | then-is_empty-via-then-is_empty w ↦ let e = eqb-true _ _ (sym c.is_empty.ensures ∙ w.if-is_empty.true) in absurd (omega arith)
      | then-is_empty-via-else-is_empty+then-rest-ne32 w ↦ w.if-rest-ne32.true first
    ]
