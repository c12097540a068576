use Rattle.std.proofs.Common.{◌≢◌, take}
use Rattle.std.specs.List.{AllByRecursion}
use Rattle.assemble.specs.Inside.Mnemonic.{word}
use Rattle.assemble.specs.declared.mnemonic.Mnemonic.{Mnemonic}
use Rattle.assemble.proofs.mnemonic.first_named.Given as goal

abbrev pub invariant-loop-mnemonic : goal.invariant-loop-mnemonic
invariant-loop-mnemonic l = AllByRecursion (λ (m : Mnemonic). l.text ≢ word m) (take l.mnemonic-index l.all)
