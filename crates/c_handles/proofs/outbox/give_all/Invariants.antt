use Rattle.std.proofs.Common.{◌≡◌, ℕ, ◌-◌, ◌<◌, List, length}
use Rattle.c_handles.specs.Bundle.{InOrder}
use Rattle.c_handles.proofs.Bundles.{Laid}
use Rattle.c_handles.proofs.outbox.give_all.Given as goal

abbrev pub invariant-loop-end : goal.invariant-loop-end
invariant-loop-end g l = (packets : List (List ℕ)) × Laid l.fn.out l.out l.size l.count packets × InOrder (g.O.Outgoing.leaves l.receiver) packets l.fn.sender l.sender × (0 < l.count) × (l.to ≡ l.receiver)

abbrev pub decreases-loop-end : goal.decreases-loop-end
decreases-loop-end g l = length l.initial.out - l.size
