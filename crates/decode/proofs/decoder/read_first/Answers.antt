use Rattle.std.proofs.Common.{arith, rules}
use Rattle.decode.specs.Refusal.{IsBrokenAt}
use Rattle.decode.proofs.Faults.{alone_broken, followed_broken}
use Rattle.decode.proofs.decoder.read_first.Goals as goal

pub returns-in_err-read_insn-clause-refused : goal.returns-in_err-read_insn-clause-refused
returns-in_err-read_insn-clause-refused c =
    let w = c.word_at in
    let broken : IsBrokenAt c.args.bytes.now c.in_err-read_insn.field-0.0 0 = alone_broken c.args.bytes.now w.result.1.now w.result.0 _ w.ensures.sizes w.ensures.fields (search rules) c.in_err-read_insn.ensures.fault in
    search (rules, broken)

pub returns-in_err-insn-clause-refused : goal.returns-in_err-insn-clause-refused
returns-in_err-insn-clause-refused c =
    let w = c.word_at in
    let s = c.word_at-2 in
    let broken : IsBrokenAt c.args.bytes.now c.in_err-insn.field-0.0 0 =
    followed_broken c.args.bytes.now w.result.1.now s.result.1.now w.result.0 s.result.0 _ (λ i. omega (arith, c.type_inv.bytes i)) c.requires.whole w.ensures.sizes w.ensures.fields s.ensures.sizes s.ensures.fields c.in_err-insn.ensures.fault in
    search (rules, broken)
