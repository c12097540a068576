use Rattle.std.proofs.Common.{◌≢◌, take}
use Rattle.std.specs.List.{AllByRecursion}
use Rattle.scenario.specs.Order.{verb_text}
use Rattle.scenario.specs.declared.verb.Verb.{Verb}
use Rattle.scenario.proofs.verb.first_named.Given as goal

abbrev pub invariant-loop-verb : goal.invariant-loop-verb
invariant-loop-verb l = AllByRecursion (λ (v : Verb). l.word ≢ verb_text v) (take l.verb-index l.all)
