use Rattle.std.proofs.Common.{◌≡◌, ◌<◌, ◌+◌, ◌∙◌, sym, subst, rules, false}
use Rattle.decode.specs.Slots.{size_of}
use Rattle.decode.specs.declared.insn.Insn.{Insn}
use Rattle.assemble.specs.Text.{is_silent}
use Rattle.assemble.proofs.Lines.{first_limit, line_once}
use Rattle.assemble.proofs.parser.read_after.Goals as goal

pub returns-then-slots-gt-SLOTS : goal.returns-then-slots-gt-SLOTS
returns-then-slots-gt-SLOTS c =
    let found = c.in-Ok.ensures.found in
    let speaks : is_silent c.args.line.now ≡ false = search rules in
    let above : 1024 < c.args.slots + size_of c.in-Ok.insn = search rules in
    (speaks, first_limit c.args.slots c.args.line.now (λ range. range c.in-Ok.insn found.0 found.1) (λ i fits e. subst (λ (j : Insn). 1024 < c.args.slots + size_of j) (line_once c.in-Ok.insn i (sym found.1 ∙ e)) above))
