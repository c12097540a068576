use Rattle.process.proofs.Within as within
use Rattle.process.proofs.process.Member.take.Goals as goal

pub invariant_of-self : goal.invariant_of-self
invariant_of-self c = within.takes c.pop.result c.self.inside.lifecycle c.pop.new.lifecycle c.pop.ensures c.self.invariant
