use Rattle.std.proofs.Common.{◌≡◌, take}
use Rattle.decode.specs.Slots.{slots_of}
use Rattle.decode.proofs.layout.lay_out.Given as goal

abbrev pub invariant-loop-insn : goal.invariant-loop-insn
invariant-loop-insn l = l.slots.items ≡ slots_of (take l.insn-index l.code)
