use Rattle.std.proofs.Common.{◌≡◌, ◌≢◌, sym, ap, ◌∙◌, arith}
use Rattle.node.specs.Node.{TheNode}
use Rattle.node.proofs.Sendings.{kept-released}
use Rattle.node.proofs.node.Node.release.Goals as goal

pub release_to-requires : goal.release_to-requires
release_to-requires c =
    let k = kept-released c.args.self.now c.me-me.result c.loop-to.to in
    let count : c.loop-to.self.count ≡ c.args.self.now.count = ap (λ (n : TheNode). n.count) c.loop-to.invariant ∙ k.count in
    let me : c.loop-to.self.me ≡ c.args.self.now.me = ap (λ (n : TheNode). n.me) c.loop-to.invariant ∙ k.me in
    let apart : c.loop-to.to ≢ c.me-me.result = c.if-to-me.true in
    (omega (arith, count, c.count-to-end.ensures.value), λ e. apart (e ∙ me ∙ sym c.me-me.ensures.value))
