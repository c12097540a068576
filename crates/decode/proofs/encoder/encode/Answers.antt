use Rattle.std.proofs.Common.{◌≤◌, ◌∙◌, ap, length, arith}
use Rattle.std.proofs.lemmas.List.{take_all}
use Rattle.decode.specs.Encoding.{encoding}
use Rattle.decode.proofs.SlotLemmas.{length_encoding}
use Rattle.decode.proofs.encoder.encode.Goals as goal

pub returns-clause-slots : goal.returns-clause-slots
returns-clause-slots c =
    let is = c.args.insns.now in
    let ended : length is ≤ c.loop-insn.insn-index = omega (arith, c.loop-insn-test.false) in
    ap length (c.loop-insn.invariant.written ∙ ap encoding (take_all c.loop-insn.insn-index is ended)) ∙ length_encoding is
