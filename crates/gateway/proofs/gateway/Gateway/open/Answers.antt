use Rattle.std.proofs.Common.{rules, ◌≡◌, [], replicate}
use Rattle.stores.specs.Peer.{no_peer}
use Rattle.stores.specs.Store.{TheStore}
use Rattle.gateway.proofs.Openings.{stands-opened}
use Rattle.gateway.proofs.gateway.Gateway.open.Goals as goal

pub returns-clause-stands : goal.returns-clause-stands
returns-clause-stands c f =
    let s : TheStore = c.in_ok-store.store in
    let peers : s.peers ≡ replicate c.args.count no_peer = search rules in
    let outputs : s.outputs ≡ [] = search rules in
    let changes : c.new-3.result.items ≡ [] = search rules in
    let out : c.in_ok-out.out ≡ [] = search rules in
    rw (peers, outputs, changes, out) (stands-opened c.args.count c.args.page c.args.tick f)
