use Rattle.std.proofs.Common.{◌≡◌, ◌++◌, drop}
use Rattle.native.specs.Code.{codes}
use Rattle.native.proofs.sequence.write_all.Given as goal

abbrev pub invariant-loop-instr : goal.invariant-loop-instr
invariant-loop-instr l = l.code.items ++ codes (drop l.instr-index l.list) ≡ l.fn.code.items ++ codes l.list
