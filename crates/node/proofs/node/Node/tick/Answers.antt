use Rattle.std.proofs.Common.{rules, ◌≡◌, ◌≢◌, sym, ap, ◌∙◌, subst, arith}
use Rattle.std.proofs.lemmas.Grind.{common_steps}
use Rattle.node.specs.Node.{TheNode}
use Rattle.node.specs.Stands.{Acts}
use Rattle.node.proofs.Sendings.{only-resent, kept-ticked, ticking}
use Rattle.node.proofs.node.Node.tick.Goals as goal

pub resend-requires : goal.resend-requires
resend-requires c =
    let k = kept-ticked c.args.self.now c.me-me.result c.loop-to.to in
    let count : c.loop-to.self.count ≡ c.args.self.now.count = ap (λ (n : TheNode). n.count) c.loop-to.invariant ∙ k.count in
    let me : c.loop-to.self.me ≡ c.args.self.now.me = ap (λ (n : TheNode). n.me) c.loop-to.invariant ∙ k.me in
    let apart : c.loop-to.to ≢ c.me-me.result = c.if-to-me.true in
    (omega (arith, count, c.count-to-end.ensures.value), λ e. apart (e ∙ me ∙ sym c.me-me.ensures.value))

pub renumber-requires : goal.renumber-requires
renumber-requires c =
    let k = kept-ticked c.args.self.now c.me-me.result c.loop-to.to in
    let count : c.loop-to.self.count ≡ c.args.self.now.count = ap (λ (n : TheNode). n.count) c.loop-to.invariant ∙ k.count in
    let still : c.resend.new.self.count ≡ c.loop-to.self.count = ap (λ (n : TheNode). n.count) (c.resend.ensures ∙ only-resent c.loop-to.to c.loop-to.self) in
    let me : c.loop-to.self.me ≡ c.args.self.now.me = ap (λ (n : TheNode). n.me) c.loop-to.invariant ∙ k.me in
    let same : c.resend.new.self.me ≡ c.loop-to.self.me = ap (λ (n : TheNode). n.me) (c.resend.ensures ∙ only-resent c.loop-to.to c.loop-to.self) in
    let apart : c.loop-to.to ≢ c.me-me.result = c.if-to-me.true in
    (omega (arith, count, still, c.count-to-end.ensures.value), λ e. apart (e ∙ same ∙ me ∙ sym c.me-me.ensures.value))

pub returns-then-self-clause-value : goal.returns-then-self-clause-value
returns-then-self-clause-value c = first_of (search rules, grind (arith, common_steps))

pub returns-then-self-clause-acts : goal.returns-then-self-clause-acts
returns-then-self-clause-acts c = let P : TheNode → Type 0 = λ v. Acts c.args.self.now v in subst P (sym (returns-then-self-clause-value c)) (ticking c.args.self.now)

pub returns-clause-value : goal.returns-clause-value
returns-clause-value c = first_of (search rules, grind (arith, common_steps))

pub returns-clause-acts : goal.returns-clause-acts
returns-clause-acts c = let P : TheNode → Type 0 = λ v. Acts c.args.self.now v in subst P (sym (returns-clause-value c)) (ticking c.args.self.now)
