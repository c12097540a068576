use Rattle.process.proofs.Within as within
use Rattle.process.proofs.process.Member.tick.Goals as goal

pub invariant_of-self : goal.invariant_of-self
invariant_of-self c = within.ticks c.self.inside.lifecycle c.send_again.new.lifecycle c.send_again.ensures c.self.invariant
