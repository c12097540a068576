use Rattle.std.proofs.Common.{rules, ◌-◌, ◌≤◌, length, subst}
use Rattle.node.specs.contracts.node.Node.{the_view}
use Rattle.node.specs.Node.{TheNode}
use Rattle.node.proofs.Acknowledged.{behind-in, told-before, counts-so}
use Rattle.node.proofs.node.Node.receive_acknowledgement.Goals as goal

pub is_acknowledged-requires : goal.is_acknowledged-requires
is_acknowledged-requires c = behind-in c.self.inside.base c.args.rsn c.length.result (length c.self.inside.receipts.senders) c.if-rsn-self.false c.if-last-rsn.false c.length.ensures.value

pub acknowledge-requires : goal.acknowledge-requires
acknowledge-requires c =
    let base = c.self.inside.base in
    subst (λ (z : TheNode). (1 ≤ c.args.rsn - base) × (c.args.rsn - base ≤ length z.receipts.senders)) c.self.view_is (behind-in base c.args.rsn c.length.result (length c.self.inside.receipts.senders) c.if-rsn-self.false c.if-last-rsn.false c.length.ensures.value)

pub returns-then-not-is_acknowledged : goal.returns-then-not-is_acknowledged
returns-then-not-is_acknowledged c =
    let m : TheNode = the_view c.self.inside in
    let n = c.args.self.now in
    let life = c.args.life in
    let k = c.args.rsn in
    counts-so life k m n c.self.view_is c.length.result c.is_acknowledged.result c.acknowledge.new.self c.release.new.self (search rules) c.if-rsn-self.false c.if-last-rsn.false c.length.ensures.value c.is_acknowledged.ensures c.if-not-is_acknowledged.true c.acknowledge.ensures c.release.ensures

pub returns-else-not-is_acknowledged : goal.returns-else-not-is_acknowledged
returns-else-not-is_acknowledged c =
    let m : TheNode = the_view c.self.inside in
    let n = c.args.self.now in
    let life = c.args.life in
    let k = c.args.rsn in
    told-before life k m n c.self.view_is c.is_acknowledged.result c.is_acknowledged.ensures c.if-not-is_acknowledged.false
