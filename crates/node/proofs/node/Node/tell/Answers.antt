use Rattle.std.proofs.Common.{◌≡◌, ◌<◌, ◌+◌, ◌-◌, length, ap, ◌∙◌, arith, slice_index_or}
use Rattle.std.proofs.lemmas.List.{get_or_default}
use Rattle.rsn.specs.Receipts.{numbers_of}
use Rattle.rsn.proofs.ReceiptLemmas.{numbers_from-above, numbers_from-within, numbers_from-bound}
use Rattle.packets.specs.declared.packet.Body.TheVariants.{Number}
use Rattle.node.specs.Node.{TheNode, IsPositive, covered_of}
use Rattle.packets.proofs.Sayable.{number-fits}
use Rattle.node.proofs.Sendable.{can-say}
use Rattle.node.proofs.node.Node.tell.Goals as goal

pub put-requires : goal.put-requires
put-requires c =
    let i = c.self.invariant in
    let own = c.self.inside in
    let to = c.args.to in
    let ssn = c.args.ssn in
    let senders = own.receipts.senders in
    let covered = ap (covered_of to) c.self.view_is in
    let rows = ap (λ (n : TheNode). length (numbers_of to n.receipts)) c.self.view_is in
    let inside : to < length own.covered.items = omega (arith, i.wide, c.requires.to.0, ap (λ (n : TheNode). n.count) c.self.view_is) in
    let is : c.index.result.now ≡ slice_index_or own.covered.items to 0 = c.index.ensures ∙ get_or_default own.covered.items to c.index.result.now 0 inside in
    let place = ssn - c.index.result.now - 1 in
    let known : ssn - c.index.result.now - 1 < length (numbers_of to own.receipts) = omega (arith, is, covered, rows, c.requires.known) in
    let told_as = slice_index_or c.numbers.result.now place 0 in
    let at : told_as ≡ slice_index_or (numbers_of to own.receipts) place 0 = ap (λ xs. slice_index_or xs place 0) c.numbers.ensures in
    let number : IsPositive (own.base + told_as) = (omega (arith, at, numbers_from-above to 0 senders place known), omega (arith, at, numbers_from-within to 0 senders place known, i.young)) in
    let told : IsPositive ssn = (omega (arith, c.requires.above), omega (arith, is, covered, known, i.counts to, i.young, i.bound, numbers_from-bound to 0 senders)) in
    can-say c.args.self.now to (Number own.life ssn (own.base + told_as)) c.requires.to (number-fits own.life ssn (own.base + told_as) i.alive told number)
