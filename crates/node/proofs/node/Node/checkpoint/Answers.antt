use Rattle.std.proofs.Common.{rules, subst, sym, arith}
use Rattle.std.proofs.lemmas.Grind.{common_steps}
use Rattle.node.specs.Node.{TheNode}
use Rattle.node.specs.Stands.{Acts}
use Rattle.node.proofs.Freezes.{freezes}
use Rattle.node.proofs.node.Node.checkpoint.Goals as goal

pub returns-then-may-clause-value : goal.returns-then-may-clause-value
returns-then-may-clause-value c = first_of (search rules, grind (arith, common_steps))

pub returns-then-may-clause-acts : goal.returns-then-may-clause-acts
returns-then-may-clause-acts c = let P : TheNode → Type 0 = λ v. Acts c.args.self.now v in subst P (sym (returns-then-may-clause-value c)) (freezes c.args.self.now)

pub returns-else-may-clause-value : goal.returns-else-may-clause-value
returns-else-may-clause-value c = first_of (search rules, grind (arith, common_steps))

pub returns-else-may-clause-acts : goal.returns-else-may-clause-acts
returns-else-may-clause-acts c = let P : TheNode → Type 0 = λ v. Acts c.args.self.now v in subst P (sym (returns-else-may-clause-value c)) (freezes c.args.self.now)
