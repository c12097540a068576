use Rattle.std.proofs.Common.{ap, subst}
use Rattle.std.specs.Prelude.{MatchOption}
use Rattle.elf.specs.declared.symbol.Symbol.{Symbol}
use Rattle.std.specs.Option.{option_map}
use Rattle.elf.specs.Function.{IsOnly}
use Rattle.elf.specs.Inside.{IsUnnamed}
use Rattle.elf.proofs.finder.choose.Goals as goal

pub returns-in-None-named-clause-refused : goal.returns-in-None-named-clause-refused
returns-in-None-named-clause-refused c =
    (c.in-Some.name.now, ap (option_map (λ n. n.now)) c.in-Some.is, subst (IsUnnamed c.args.file.now c.in-Some.name.now) c.requires c.in-None-named.ensures)

pub returns-in-Ok-None-clause-refused : goal.returns-in-Ok-None-clause-refused
returns-in-Ok-None-clause-refused c =
    (ap (option_map (λ n. n.now)) c.in-None.is, λ symbol. subst (λ fs. ¬ IsOnly fs symbol) c.requires ((subst (λ o. MatchOption o ((s : Symbol) → ¬ IsOnly c.args.functions.now s) (IsOnly c.args.functions.now)) c.in-Ok-None.field-0-is c.in-Ok-None.ensures) symbol))
