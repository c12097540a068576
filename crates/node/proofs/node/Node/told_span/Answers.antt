use Rattle.std.proofs.Common.{rules, ◌≡◌, ◌<◌, ◌≤◌, length, ap, ◌∙◌, arith, slice_index_or}
use Rattle.std.proofs.lemmas.List.{get_or_default}
use Rattle.rsn.specs.Receipts.{numbers_of}
use Rattle.rsn.proofs.ReceiptLemmas.{numbers_from-bound}
use Rattle.node.specs.Node.{TheNode}
use Rattle.node.proofs.node.Node.told_span.Goals as goal

pub overflow_cast-last : goal.overflow_cast-last
overflow_cast-last c =
    let row : c.numbers.result.now ≡ numbers_of c.args.to c.self.inside.receipts = c.numbers.ensures in
    let few : length c.numbers.result.now ≤ 65536 = omega (arith, ap length row, numbers_from-bound c.args.to 0 c.self.inside.receipts.senders, c.self.invariant.bound) in
    search rules

pub returns-clause-small : goal.returns-clause-small
returns-clause-small c =
    let row : c.numbers.result.now ≡ numbers_of c.args.to c.self.inside.receipts = c.numbers.ensures in
    let inside : c.args.to < length c.self.inside.covered.items = omega (arith, c.self.invariant.wide, c.requires, ap (λ (n : TheNode). n.count) c.self.view_is) in
    let is : c.index.result.now ≡ slice_index_or c.self.inside.covered.items c.args.to 0 = c.index.ensures ∙ get_or_default c.self.inside.covered.items c.args.to c.index.result.now 0 inside in
    (omega (arith, is, c.self.invariant.counts c.args.to, c.self.invariant.young), omega (arith, ap length row, numbers_from-bound c.args.to 0 c.self.inside.receipts.senders, c.self.invariant.bound))
