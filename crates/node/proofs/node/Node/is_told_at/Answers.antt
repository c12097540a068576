use Rattle.std.proofs.Common.{◌≡◌, ◌<◌, length, ap, arith, slice_index_or}
use Rattle.rsn.specs.Receipts.{numbers_of}
use Rattle.rsn.proofs.ReceiptLemmas.{numbers_from-above, numbers_from-within}
use Rattle.node.specs.Node.{TheNode}
use Rattle.node.proofs.node.Node.is_told_at.Goals as goal

pub is_acknowledged-requires : goal.is_acknowledged-requires
is_acknowledged-requires c =
    let senders = c.self.inside.receipts.senders in
    let row : c.numbers.result.now ≡ numbers_of c.args.to c.self.inside.receipts = c.numbers.ensures in
    let inside : c.args.place < length (numbers_of c.args.to c.self.inside.receipts) = omega (arith, c.requires.known, ap (λ (n : TheNode). length (numbers_of c.args.to n.receipts)) c.self.view_is) in
    let at = ap (λ xs. slice_index_or xs c.args.place 0) row in
    (omega (arith, at, numbers_from-above c.args.to 0 senders c.args.place inside), omega (arith, at, numbers_from-within c.args.to 0 senders c.args.place inside))
