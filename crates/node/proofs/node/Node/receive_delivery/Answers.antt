use Rattle.std.proofs.Common.{◌≡◌, length, false, true, sym, ap, ◌∙◌, subst, arith}
use Rattle.std.specs.Prelude.{is_some, Some}
use Rattle.rsn.specs.Receipts.{numbers_of}
use Rattle.node.specs.contracts.node.Node.{the_view}
use Rattle.node.specs.Node.{TheNode, IsPeer, covered_of}
use Rattle.node.specs.Calls.{takes_more}
use Rattle.node.proofs.Changes.{has-place, there-is, heard-there, covered-there}
use Rattle.packets.proofs.Sayable.{saved-fits}
use Rattle.node.proofs.Sendable.{can-say}
use Rattle.packets.specs.declared.packet.Body.TheVariants.{Saved}
use Rattle.node.proofs.Deliveries.{busy-drops, stale-drops, says-so, is-known, tells-so, opens-so, full-so, far-so, within-opened}
use Rattle.node.proofs.node.Node.receive_delivery.Goals as goal
use Rattle.node.proofs.node.Node.receive_delivery.Goals.{then-is_some-via-then-is_some, then-is_some-via-else-is_some+then-life-index, else-place-known-2-via-then-place-known-2+else-takes_more, else-place-known-2-via-else-place-known-2}

pub returns-then-is_some : goal.returns-then-is_some
returns-then-is_some c =
    let m : TheNode = the_view c.self.inside in
    let n : TheNode = c.args.self.now in
    elim c.then-is_some.branch [
      | then-is_some-via-then-is_some w ↦ busy-drops c.args.from c.args.life c.args.ssn c.args.payload n (ap (λ (z : TheNode). is_some z.working) (sym c.self.view_is) ∙ sym c.is_some.ensures ∙ w.if-is_some.true)
      | then-is_some-via-else-is_some+then-life-index w ↦
          let heard = heard-there m n c.args.from w.index.result.now c.self.invariant.heard_wide c.self.view_is c.requires.peer.0 w.index.ensures in
          stale-drops c.args.from c.args.life c.args.ssn c.args.payload n w.index.result.now (ap (λ (z : TheNode). is_some z.working) (sym c.self.view_is) ∙ sym c.is_some.ensures ∙ w.if-is_some.false) heard w.if-life-index.true
    ]

pub put-requires : goal.put-requires
put-requires c =
    let n : TheNode = c.args.self.now in
    let m : TheNode = the_view c.self.inside in
    let from = c.args.from in
    let cv = c.index-covered.result.now in
    let covered : cv ≡ covered_of from m = there-is m.covered from cv 0 (has-place m.covered m n from c.self.invariant.wide c.self.view_is c.requires.peer.0) c.index-covered.ensures in
    can-say n from (Saved cv) c.requires.peer (saved-fits cv (omega (arith, covered, c.self.invariant.counts from, c.self.invariant.young)))

pub returns-then-ssn-covered : goal.returns-then-ssn-covered
returns-then-ssn-covered c =
    let m : TheNode = the_view c.self.inside in
    let n : TheNode = c.args.self.now in
    let idle : is_some n.working ≡ false = ap (λ (z : TheNode). is_some z.working) (sym c.self.view_is) ∙ sym c.is_some.ensures ∙ c.if-is_some.false in
    let heard = heard-there m n c.args.from c.index.result.now c.self.invariant.heard_wide c.self.view_is c.requires.peer.0 c.index.ensures in
    let covered = covered-there m n c.args.from c.index-covered.result.now c.self.invariant.wide c.self.view_is c.requires.peer.0 c.index-covered.ensures in
    says-so c.args.from c.args.life c.args.ssn c.args.payload n c.index.result.now idle heard c.if-life-index.false c.index-covered.result.now covered c.put.new.self c.if-ssn-covered.true c.put.ensures

pub tell-requires-clause-to : goal.tell-requires-clause-to
tell-requires-clause-to c =
    c.requires.peer

pub tell-requires-clause-known : goal.tell-requires-clause-known
tell-requires-clause-known c =
    let m : TheNode = the_view c.self.inside in
    let n : TheNode = c.args.self.now in
    let idle : is_some n.working ≡ false = ap (λ (z : TheNode). is_some z.working) (sym c.self.view_is) ∙ sym c.is_some.ensures ∙ c.if-is_some.false in
    let heard = heard-there m n c.args.from c.index.result.now c.self.invariant.heard_wide c.self.view_is c.requires.peer.0 c.index.ensures in
    let covered = covered-there m n c.args.from c.index-covered.result.now c.self.invariant.wide c.self.view_is c.requires.peer.0 c.index-covered.ensures in
    let row : length c.numbers.result.now ≡ length (numbers_of c.args.from n.receipts) = ap length c.numbers.ensures ∙ ap (λ (z : TheNode). length (numbers_of c.args.from z.receipts)) c.self.view_is in
    is-known c.args.from c.args.life c.args.ssn c.args.payload n c.index.result.now idle heard c.if-life-index.false c.index-covered.result.now covered (length c.numbers.result.now) row c.if-ssn-covered.false c.if-place-known.true

pub returns-then-place-known : goal.returns-then-place-known
returns-then-place-known c =
    let m : TheNode = the_view c.self.inside in
    let n : TheNode = c.args.self.now in
    let idle : is_some n.working ≡ false = ap (λ (z : TheNode). is_some z.working) (sym c.self.view_is) ∙ sym c.is_some.ensures ∙ c.if-is_some.false in
    let heard = heard-there m n c.args.from c.index.result.now c.self.invariant.heard_wide c.self.view_is c.requires.peer.0 c.index.ensures in
    let covered = covered-there m n c.args.from c.index-covered.result.now c.self.invariant.wide c.self.view_is c.requires.peer.0 c.index-covered.ensures in
    let row : length c.numbers.result.now ≡ length (numbers_of c.args.from n.receipts) = ap length c.numbers.ensures ∙ ap (λ (z : TheNode). length (numbers_of c.args.from z.receipts)) c.self.view_is in
    tells-so c.args.from c.args.life c.args.ssn c.args.payload n c.index.result.now idle heard c.if-life-index.false c.index-covered.result.now covered (length c.numbers.result.now) row c.if-ssn-covered.false c.tell.new.self c.if-place-known.true c.tell.ensures

pub invariant_of-self : goal.invariant_of-self
invariant_of-self c =
    let m : TheNode = the_view c.self.inside in
    let n : TheNode = c.args.self.now in
    let from = c.args.from in
    let cv = c.index-covered.result.now in
    let covered : cv ≡ covered_of from m = there-is m.covered from cv 0 (has-place m.covered m n from c.self.invariant.wide c.self.view_is c.requires.peer.0) c.index-covered.ensures in
    let more : takes_more m ≡ true = ap takes_more c.self.view_is ∙ sym c.takes_more.ensures ∙ c.if-takes_more.true in
    within-opened m from c.args.ssn cv (length c.numbers.result.now) c.args.payload c.self.invariant (ap (λ (z : TheNode). z.frozen) c.self.view_is ∙ c.requires.live) (subst (λ (z : TheNode). IsPeer z.me z.count from) (sym c.self.view_is) c.requires.peer) covered (ap length c.numbers.ensures) c.if-ssn-covered.false c.if-place-known-2.true more

pub returns-then-takes_more : goal.returns-then-takes_more
returns-then-takes_more c =
    let m : TheNode = the_view c.self.inside in
    let n : TheNode = c.args.self.now in
    let idle : is_some n.working ≡ false = ap (λ (z : TheNode). is_some z.working) (sym c.self.view_is) ∙ sym c.is_some.ensures ∙ c.if-is_some.false in
    let heard = heard-there m n c.args.from c.index.result.now c.self.invariant.heard_wide c.self.view_is c.requires.peer.0 c.index.ensures in
    let covered = covered-there m n c.args.from c.index-covered.result.now c.self.invariant.wide c.self.view_is c.requires.peer.0 c.index-covered.ensures in
    let row : length c.numbers.result.now ≡ length (numbers_of c.args.from n.receipts) = ap length c.numbers.ensures ∙ ap (λ (z : TheNode). length (numbers_of c.args.from z.receipts)) c.self.view_is in
    ap (λ (z : TheNode). record z { working = Some (record { sender = c.args.from; ssn = c.args.ssn; payload = c.args.payload }) }) c.self.view_is
    ∙ opens-so c.args.from c.args.life c.args.ssn c.args.payload n c.index.result.now idle heard c.if-life-index.false c.index-covered.result.now covered (length c.numbers.result.now) row c.if-ssn-covered.false c.if-place-known.false c.if-place-known-2.true (sym c.takes_more.ensures ∙ c.if-takes_more.true)

pub returns-else-place-known-2 : goal.returns-else-place-known-2
returns-else-place-known-2 c =
    let m : TheNode = the_view c.self.inside in
    let n : TheNode = c.args.self.now in
    let idle : is_some n.working ≡ false = ap (λ (z : TheNode). is_some z.working) (sym c.self.view_is) ∙ sym c.is_some.ensures ∙ c.if-is_some.false in
    let heard = heard-there m n c.args.from c.index.result.now c.self.invariant.heard_wide c.self.view_is c.requires.peer.0 c.index.ensures in
    let covered = covered-there m n c.args.from c.index-covered.result.now c.self.invariant.wide c.self.view_is c.requires.peer.0 c.index-covered.ensures in
    let row : length c.numbers.result.now ≡ length (numbers_of c.args.from n.receipts) = ap length c.numbers.ensures ∙ ap (λ (z : TheNode). length (numbers_of c.args.from z.receipts)) c.self.view_is in
    elim c.else-place-known-2.branch [
      | else-place-known-2-via-then-place-known-2+else-takes_more w ↦ full-so c.args.from c.args.life c.args.ssn c.args.payload n c.index.result.now idle heard c.if-life-index.false c.index-covered.result.now covered (length c.numbers.result.now) row c.if-ssn-covered.false c.if-place-known.false w.if-place-known-2.true (sym w.takes_more.ensures ∙ w.if-takes_more.false)
      | else-place-known-2-via-else-place-known-2 w ↦ far-so c.args.from c.args.life c.args.ssn c.args.payload n c.index.result.now idle heard c.if-life-index.false c.index-covered.result.now covered (length c.numbers.result.now) row c.if-ssn-covered.false c.if-place-known.false w.if-place-known-2.false
    ]
