use Rattle.std.proofs.Common.{◌∙◌, ap, List, ℕ}
use Rattle.assemble.specs.Text.{lines_of}
use Rattle.assemble.proofs.Splits.{absent}
use Rattle.assemble.proofs.Texts.{lines_cut, lines_end}
use Rattle.assemble.proofs.parser.cut_line.Goals as goal

pub returns-in-Some-clause-lines : goal.returns-in-Some-clause-lines
returns-in-Some-clause-lines c = ap (λ (x : List ℕ). lines_of x) c.in-Some.ensures.whole ∙ lines_cut c.in-Some.line.now c.in-Some.after.now (absent 10 c.in-Some.line.now c.in-Some.ensures.first)

pub returns-in-None-clause-lines : goal.returns-in-None-clause-lines
returns-in-None-clause-lines c = lines_end c.args.text.now (absent 10 c.args.text.now c.in-None.ensures)
