use Rattle.std.proofs.Common.{◌≡◌, ◌<◌, ◌≤◌, ◌^◌, length, true, ap, sym, subst, ◌∙◌, arith}
use Rattle.limits.specs.declared.TheConstants.{PAYLOAD_BYTES}
use Rattle.stores.specs.Peer.{ThePeer, is_kept}
use Rattle.stores.specs.Store.{peer_at}
use Rattle.gateway.specs.Gateway.{TheGateway, peer_of}
use Rattle.gateway.proofs.Preservation.{kept-within}
use Rattle.packets.proofs.Sayable.{delivery-fits}
use Rattle.gateway.proofs.gateway.Gateway.deliver.Goals as goal

pub put-requires : goal.put-requires
put-requires c =
    let p : ThePeer = c.peer-peer.result.now in
    let ssn = c.args.ssn in
    let is : p ≡ peer_of c.args.process c.args.self.now = c.peer-peer.ensures ∙ ap (λ (g : TheGateway). peer_at c.args.process g.store) c.self.view_is in
    let within = kept-within p ssn (subst (λ (z : ThePeer). is_kept ssn z ≡ true) (sym is) c.requires.kept) in
    let some : 0 < ssn = omega (arith, within.0) in
    let small : ssn < 2 ^ 63 = omega (arith, within.1, c.last-last.ensures.value, c.last-last.ensures.small) in
    let short : length c.payload-payload.result ≤ PAYLOAD_BYTES = omega (arith, c.len-len.ensures.value, c.len-len.ensures.bound) in
    let f = delivery-fits 1 ssn c.payload-payload.result (omega arith, omega arith) (some, small) short in
    record { process = c.requires.of; room = f.0; range = f.1 }
