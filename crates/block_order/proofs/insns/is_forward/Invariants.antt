use Rattle.std.proofs.Common.{take}
use Rattle.std.specs.List.{AllByRecursion}
use Rattle.block_order.specs.Order.{GoesForward}
use Rattle.block_order.proofs.insns.is_forward.Given as goal

abbrev pub invariant-loop-insn : goal.invariant-loop-insn
invariant-loop-insn l = AllByRecursion GoesForward (take l.insn-index l.insns)
