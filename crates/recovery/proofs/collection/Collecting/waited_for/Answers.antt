use Rattle.std.proofs.Common.{rules, ◌∙◌, ◌+◌, ◌^◌, ◌<◌, ◌≤◌, ap, arith}
use Rattle.std.proofs.lemmas.Grind.{common_steps}
use Rattle.recovery.specs.Queries.{is_asked}
use Rattle.recovery.proofs.Bits.{bits-small, bits-more, bits-same, bit-next}
use Rattle.recovery.proofs.collection.Collecting.waited_for.Goals as goal
use Rattle.recovery.proofs.collection.Collecting.waited_for.Goals.{then-is_asked, else-is_asked}

pub overflow_add-peers : goal.overflow_add-peers
overflow_add-peers c =
    let few : c.loop-peer.peer ≤ 16 = first_of (search rules, grind (arith, common_steps)) in
    let s = bits-small (is_asked c.args.self.now) c.loop-peer.peer few in
    let small : c.loop-peer.peers + c.loop-peer.bit < 2 ^ 64 = omega (arith, c.loop-peer.invariant.0, c.loop-peer.invariant.1, s.0, s.1) in
    search rules

pub loop-peer-preserved : goal.loop-peer-preserved
loop-peer-preserved c =
    let f = is_asked c.args.self.now in
    let d = c.loop-peer.peer in
    let is = c.loop-peer.invariant.0 in (
      elim c.if-is_asked.branch [
        | then-is_asked w ↦ bits-more f d c.loop-peer.peers is c.if-is_asked.peers (first_of (search rules, grind (arith, common_steps))) (w.peers-is ∙ ap (λ k. c.loop-peer.peers + k) c.loop-peer.invariant.1)
        | else-is_asked w ↦ bits-same f d c.loop-peer.peers is c.if-is_asked.peers (first_of (search rules, grind (arith, common_steps))) w.peers-is
      ],
      bit-next d c.loop-peer.bit c.loop-peer.invariant.1,
    )
