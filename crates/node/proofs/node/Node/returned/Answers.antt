use Rattle.node.proofs.Releases.{within-released}
use Rattle.node.proofs.node.Node.returned.Goals as goal

pub invariant_of-result : goal.invariant_of-result
invariant_of-result c =
    let r = c.args.process in
    rw c.release_again.ensures (within-released r.limits r.me r.count r.base r.covered.items r.heard.items r.resumed.items r.receipts r.logs.items r.life r.out c.requires)
