use Rattle.std.proofs.Common.{◌∙◌, sym}
use Rattle.scenario.specs.Process.{names_of}
use Rattle.scenario.proofs.Names.{names_place}
use Rattle.scenario.proofs.Lines.{is_fresh, is_taken}
use Rattle.scenario.proofs.line.is_free.Goals as goal

pub returns-in-Some : goal.returns-in-Some
returns-in-Some c = is_taken c.args.name.now (names_of c.args.processes.now) _ (sym (names_place c.args.name.now c.args.processes.now.entries) ∙ sym c.in-Some.ensures.index)

pub returns-in-None : goal.returns-in-None
returns-in-None c = is_fresh c.args.name.now (names_of c.args.processes.now) (sym (names_place c.args.name.now c.args.processes.now.entries) ∙ sym c.in-None.ensures.index)
