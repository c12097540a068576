use Rattle.std.proofs.Common.{◌≡◌, ◌+◌, true, sym, ap, ◌∙◌, subst, rules, arith}
use Rattle.std.proofs.lemmas.Grind.{common_steps}
use Rattle.node.specs.Node.{TheNode, Within}
use Rattle.node.specs.Transmission.{released}
use Rattle.node.specs.Checkpoints.{thawed, says_below}
use Rattle.node.specs.Stands.{Saves}
use Rattle.node.proofs.Freezes.{saves}
use Rattle.node.proofs.node.Node.saved.Goals as goal

pub returns-clause-waited : goal.returns-clause-waited
returns-clause-waited c = let waits : c.args.self.now.frozen ≡ true = search rules in sym waits

pub returns-clause-value : goal.returns-clause-value
returns-clause-value c =
    let n = c.args.self.now in
    let waits : n.frozen ≡ true = search rules in
    let sent : c.release.new.self ≡ released (thawed n) = c.release.ensures ∙ ap released c.cover.ensures in
    rw waits (c.say_covered.ensures ∙ ap (λ (z : TheNode). says_below z.me (z.count + 1) z) sent)

pub returns-clause-acts : goal.returns-clause-acts
returns-clause-acts c = let P : TheNode → Type 0 = λ v. Saves c.args.self.now v in subst P (sym (returns-clause-value c)) (saves c.args.self.now (subst Within c.self.view_is c.self.invariant))

pub returns-then-not-self-clause-value : goal.returns-then-not-self-clause-value
returns-then-not-self-clause-value c = first_of (search rules, grind (arith, common_steps))

pub returns-then-not-self-clause-acts : goal.returns-then-not-self-clause-acts
returns-then-not-self-clause-acts c = let P : TheNode → Type 0 = λ v. Saves c.args.self.now v in subst P (sym (returns-then-not-self-clause-value c)) (saves c.args.self.now (subst Within c.self.view_is c.self.invariant))
