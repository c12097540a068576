use Rattle.std.proofs.Common.{◌-◌}
use Rattle.std.specs.VecDeque.{deque_len}
use Rattle.send_gate.proofs.GateLemmas.{InOrder-take, WithinLimit-take}
use Rattle.send_gate.proofs.gate.Gate.retract.Goals as goal

pub invariant_of-self : goal.invariant_of-self
invariant_of-self c =
    let n = deque_len c.self.inside.waiting - 1 in
    rw c.pop_back.ensures.rest record {
      order = InOrder-take n c.self.inside.waiting.items c.self.invariant.order;
      limit = WithinLimit-take n c.self.inside.waiting.items c.self.inside.released c.self.invariant.limit;
    }
