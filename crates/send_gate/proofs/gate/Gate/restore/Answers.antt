use Rattle.std.proofs.Common.{rules, ◌≡◌, [], ap, ◌∙◌}
use Rattle.send_gate.specs.Gate.{TheGate, WithinLimit}
use Rattle.send_gate.proofs.GateLemmas.{WithinLimit-set}
use Rattle.send_gate.proofs.gate.Gate.restore.Goals as goal

pub invariant_of-self : goal.invariant_of-self
invariant_of-self c =
    let none : c.self.inside.waiting.items ≡ [] = ap (λ (g : TheGate). g.waiting) c.self.view_is ∙ c.requires.none in
    let limit : WithinLimit [] c.self.inside.released = rw none at c.self.invariant.limit in
    rw none record {
      order = tt;
      limit = WithinLimit-set c.self.inside.released c.args.dst c.args.count c.requires.bound (search rules) limit;
    }
