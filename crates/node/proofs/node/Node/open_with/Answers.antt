use Rattle.std.proofs.Common.{subst, sym}
use Rattle.node.specs.Node.{TheNode, Within}
use Rattle.node.specs.Stands.{StandsFirst}
use Rattle.node.proofs.Openings.{stands-opened}
use Rattle.node.proofs.Begun.{within-begun, same-begun}
use Rattle.node.proofs.node.Node.open_with.Goals as goal

pub invariant_of-result : goal.invariant_of-result
invariant_of-result c =
    let all = same-begun c.args.limits c.args.me c.args.count c.args.state.now c.in_ok-state.state.items c.fill.new.covered.items c.fill.new.heard.items c.fill.new.resumed.items c.fill.new.logs.items c.in_ok-receipts.receipts c.in_ok-out.out c.in_ok-state.ensures.items c.in_ok-fill.ensures.covered c.in_ok-fill.ensures.heard.0 c.in_ok-fill.ensures.heard.1 c.in_ok-fill.ensures.logs c.in_ok-receipts.ensures c.in_ok-out.ensures in
    subst Within (sym all) (within-begun c.args.limits c.args.me c.args.count c.args.state.now c.requires.limits c.requires.own.0 c.requires.own.1 c.requires.few)

pub returns-clause-value : goal.returns-clause-value
returns-clause-value c = same-begun c.args.limits c.args.me c.args.count c.args.state.now c.in_ok-state.state.items c.fill.new.covered.items c.fill.new.heard.items c.fill.new.resumed.items c.fill.new.logs.items c.in_ok-receipts.receipts c.in_ok-out.out c.in_ok-state.ensures.items c.in_ok-fill.ensures.covered c.in_ok-fill.ensures.heard.0 c.in_ok-fill.ensures.heard.1 c.in_ok-fill.ensures.logs c.in_ok-receipts.ensures c.in_ok-out.ensures

pub returns-clause-stands : goal.returns-clause-stands
returns-clause-stands c =
    let all = same-begun c.args.limits c.args.me c.args.count c.args.state.now c.in_ok-state.state.items c.fill.new.covered.items c.fill.new.heard.items c.fill.new.resumed.items c.fill.new.logs.items c.in_ok-receipts.receipts c.in_ok-out.out c.in_ok-state.ensures.items c.in_ok-fill.ensures.covered c.in_ok-fill.ensures.heard.0 c.in_ok-fill.ensures.heard.1 c.in_ok-fill.ensures.logs c.in_ok-receipts.ensures c.in_ok-out.ensures in
    subst (λ (n : TheNode). StandsFirst n c.args.me c.args.count c.args.state.now) (sym all) (stands-opened c.args.limits c.args.me c.args.count c.args.state.now c.requires.own.0 c.requires.own.1)
