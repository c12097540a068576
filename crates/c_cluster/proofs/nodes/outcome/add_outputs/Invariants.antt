use Rattle.std.proofs.Common.{◌≡◌, ◌+◌, ◌*◌}
use Rattle.c_cluster.specs.Nodes.Outcome.{AreIn}
use Rattle.native.specs.Correct.{IsAt}
use Rattle.c_cluster.proofs.nodes.outcome.add_outputs.Given as goal

abbrev pub invariant-loop-k : goal.invariant-loop-k
invariant-loop-k l = AreIn (λ k. IsAt l.bytes (2240 + 272 * k)) l.k l.effects.outputs × (l.effects.sends ≡ l.fn.effects.sends)
