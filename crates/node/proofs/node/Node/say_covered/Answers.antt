use Rattle.std.proofs.Common.{◌≡◌, ◌≢◌, sym, ap, ◌∙◌, arith}
use Rattle.node.specs.Node.{TheNode}
use Rattle.node.proofs.Freezes.{only-says}
use Rattle.node.proofs.node.Node.say_covered.Goals as goal

pub say-requires : goal.say-requires
say-requires c =
    let count : c.loop-to.self.count ≡ c.args.self.now.count = ap (λ (n : TheNode). n.count) (c.loop-to.invariant ∙ only-says c.args.self.now c.me-me.result c.loop-to.to) in
    let me : c.loop-to.self.me ≡ c.args.self.now.me = ap (λ (n : TheNode). n.me) (c.loop-to.invariant ∙ only-says c.args.self.now c.me-me.result c.loop-to.to) in
    let apart : c.loop-to.to ≢ c.me-me.result = c.if-to-me.true in
    (omega (arith, count, c.count-to-end.ensures.value), λ e. apart (e ∙ me ∙ sym c.me-me.ensures.value))
