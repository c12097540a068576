use Rattle.std.proofs.Common.{◌∙◌, ap, List, ℕ}
use Rattle.scenario.specs.Scenario.{lines_of}
use Rattle.scenario.proofs.Lines.{lines_cut, lines_end}
use Rattle.scenario.proofs.scenario.cut_line.Goals as goal

pub returns-in-Some-clause-lines : goal.returns-in-Some-clause-lines
returns-in-Some-clause-lines c = ap (λ (x : List ℕ). lines_of x) c.in-Some.ensures.0 ∙ lines_cut c.in-Some.line.now c.in-Some.after.now c.in-Some.ensures.1

pub returns-in-None-clause-lines : goal.returns-in-None-clause-lines
returns-in-None-clause-lines c = lines_end c.args.text.now c.in-None.ensures
