use Rattle.std.proofs.Common.{◌≡◌, ◌+◌, ◌*◌}
use Rattle.c_cluster.specs.Nodes.Outcome.{AreIn, IsSentAt}
use Rattle.c_cluster.proofs.nodes.outcome.add_messages.Given as goal

abbrev pub invariant-loop-k : goal.invariant-loop-k
invariant-loop-k l = AreIn (λ k. IsSentAt l.who l.bytes (64 + 272 * k)) l.k l.effects.sends × (l.effects.outputs ≡ l.fn.effects.outputs)
