use Rattle.std.proofs.Common.{◌≡◌, take}
use Rattle.std.specs.List.{AllByRecursion}
use Rattle.decode.specs.Encoding.{Fits, encoding}
use Rattle.decode.proofs.encoder.encode.Given as goal

abbrev pub invariant-loop-insn : goal.invariant-loop-insn
invariant-loop-insn l = record {
  written : l.out.items ≡ encoding (take l.insn-index l.insns);
  fits : AllByRecursion Fits (take l.insn-index l.insns);
}
