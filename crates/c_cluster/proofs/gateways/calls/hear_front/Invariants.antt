use Rattle.std.proofs.Common.{ℕ, ◌+◌, ◌≤◌, List, length}
use Rattle.c_handles.specs.Bundle.{InOrder, none_counted}
use Rattle.c_cluster.specs.Gateways.Bundles.{Hears}
use Rattle.c_handles.proofs.Bundles.{Fronts}
use Rattle.c_cluster.proofs.gateways.calls.hear_front.Given as goal

abbrev pub invariant-loop-packet : goal.invariant-loop-packet
invariant-loop-packet l = (packets : List (List ℕ)) × Fronts packets l.bytes l.rest
    × InOrder Hears packets (l.fn.handle.gateway.value, none_counted) (l.handle.gateway.value, l.tally)
    × (l.tally.taken + l.tally.refused + l.tally.lost + length l.rest ≤ length l.bytes)

abbrev pub decreases-loop-packet : goal.decreases-loop-packet
decreases-loop-packet l = length l.rest
