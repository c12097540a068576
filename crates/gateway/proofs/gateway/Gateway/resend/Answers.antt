use Rattle.std.proofs.Common.{rules, ◌≡◌, ◌<◌, ◌≤◌, ◌+◌, ◌-◌, take, drop, true, false, ap, ◌∙◌, sym, arith}
use Rattle.std.specs.Prelude.{is_none}
use Rattle.std.proofs.lemmas.Grind.{common_steps}
use Rattle.stores.specs.Peer.{ThePeer, number_of, last_of}
use Rattle.stores.specs.Store.{peer_at}
use Rattle.gateway.specs.Gateway.{TheGateway, peer_of, delivers, delivers_each, resent, unnumbered}
use Rattle.gateway.proofs.Transmission.{resent-some, resent-none}
use Rattle.gateway.proofs.gateway.Gateway.resend.Goals as goal
use Rattle.gateway.proofs.gateway.Gateway.resend.Goals.{then-is_none, else-is_none}

pub loop-before-preserved : goal.loop-before-preserved
loop-before-preserved c =
    let p = c.args.process in
    let old : TheGateway = c.args.self.now in
    let s : TheGateway = c.loop-before.self in
    let at = c.loop-before.before in
    let left = c.loop-before.left in
    let i = c.loop-before.invariant in
    let z : ThePeer = peer_of p old in
    let above : z.dropped ≤ at = first_of (omega (arith, c.span-first.ensures.first, c.loop-before.auto.before), search rules) in
    let below : at < last_of z = first_of (omega (arith, c.span-first.ensures.last, c.loop-before-test.true), search rules) in
    let some : 0 < left = first_of (omega arith, search rules) in
    let there : peer_of p s ≡ z = ap (peer_at p) i.same in
    elim c.if-is_none.branch [
      | then-is_none w ↦
          let none : is_none (number_of (at + 1) (peer_of p s)) ≡ true = first_of (search rules, grind (arith, common_steps)) in
          let new : c.if-is_none.self ≡ delivers p (at + 1) s = w.self-is ∙ w.deliver.ensures in
          let fewer : c.if-is_none.left ≡ left - 1 = omega (arith, w.left-is) in
          let is : is_none (number_of (at + 1) z) ≡ true = ap (λ (y : ThePeer). is_none (number_of (at + 1) y)) (sym there) ∙ none in
          record {
            rest = ap (λ k. delivers_each p (take k (unnumbered (at + 1) (drop (at + 1 - z.dropped) z.entries))) c.if-is_none.self) fewer ∙ resent-some p z s c.if-is_none.self (resent p old) at left above below some is new i.rest;
            same = ap (λ (y : TheGateway). y.store) new ∙ i.same;
          }
      | else-is_none w ↦
          let none : is_none (number_of (at + 1) (peer_of p s)) ≡ false = first_of (search rules, grind (arith, common_steps)) in
          let same : c.if-is_none.self ≡ s = w.self-is in
          let as_many : c.if-is_none.left ≡ left = w.left-is in
          let is : is_none (number_of (at + 1) z) ≡ false = ap (λ (y : ThePeer). is_none (number_of (at + 1) y)) (sym there) ∙ none in
          record {
            rest = ap (λ k. delivers_each p (take k (unnumbered (at + 1) (drop (at + 1 - z.dropped) z.entries))) c.if-is_none.self) as_many ∙ resent-none p z s c.if-is_none.self (resent p old) at left above below is same i.rest;
            same = ap (λ (y : TheGateway). y.store) same ∙ i.same;
          }
    ]
