use Rattle.std.proofs.Common.{◌≡◌, ◌++◌, ◌∷◌, [], rules, string_bytes}
use Rattle.assemble.specs.Inside.Mnemonic.{mnemonic_of, word}
use Rattle.assemble.specs.Inside.Words.{operands_of, tail}
use Rattle.assemble.proofs.Written.{fits_more, text_more}
use Rattle.assemble.proofs.printer.disassemble.Goals as goal

pub loop-insn-preserved : goal.loop-insn-preserved
loop-insn-preserved c =
    let is = c.args.insns.now in
    let n = c.loop-insn.insn-index in
    let i = c.insn-item.result in
    let old = string_bytes c.loop-insn.out in
    let named : string_bytes c.push_word.new.out ≡ old ++ word (mnemonic_of i) = c.in_ok-push_word.ensures in
    let done : string_bytes c.push_operands.new.out ≡ string_bytes c.push_word.new.out ++ tail (operands_of i) = c.in_ok-push_operands.ensures.written in
    let ended : string_bytes c.push.new.self ≡ string_bytes c.push_operands.new.out ++ 10 ∷ [] = search rules in
    let all : string_bytes c.push.new.self ≡ ((old ++ word (mnemonic_of i)) ++ tail (operands_of i)) ++ 10 ∷ [] = cc (ended, done, named) in
    record {
      written = text_more is n i _ old (string_bytes c.push.new.self) c.loop-insn-test.true c.insn-item.is c.loop-insn.invariant.written all;
      fits = fits_more is n i _ c.loop-insn-test.true c.insn-item.is c.loop-insn.invariant.fits c.in_ok-push_operands.ensures.fits;
    }
