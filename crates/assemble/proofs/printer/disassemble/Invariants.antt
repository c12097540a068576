use Rattle.std.proofs.Common.{◌≡◌, take, string_bytes}
use Rattle.std.specs.List.{AllByRecursion}
use Rattle.decode.specs.Encoding.{Fits}
use Rattle.assemble.specs.Text.{text_of}
use Rattle.assemble.proofs.printer.disassemble.Given as goal

abbrev pub invariant-loop-insn : goal.invariant-loop-insn
invariant-loop-insn l = record {
  written : string_bytes l.out ≡ text_of (take l.insn-index l.insns);
  fits : AllByRecursion Fits (take l.insn-index l.insns);
}
