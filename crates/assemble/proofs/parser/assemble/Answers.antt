use Rattle.std.proofs.Common.{subst, List, ℕ}
use Rattle.std.specs.Result.{IfOk, IfErr}
use Rattle.assemble.specs.Text.{lines_of}
use Rattle.assemble.specs.Refusal.{AreLines, IsRefusal}
use Rattle.assemble.proofs.Texts.{only_these}
use Rattle.assemble.proofs.parser.assemble.Goals as goal

pub returns-clause-only : goal.returns-clause-only
returns-clause-only c =
    let result = c.read_lines.result in
    let value = c.as_bytes.ensures.value in
    let found = subst (λ (t : List ℕ). IfOk result (λ v. AreLines (lines_of t) v.items)) value c.read_lines.ensures.found in
    let refused = subst (λ (t : List ℕ). IfErr result (IsRefusal t)) value c.read_lines.ensures.refused in
    only_these c.args.text.now result found refused
