use Rattle.std.proofs.Common.{ℕ, List, length}
use Rattle.c_handles.proofs.Bundles.{Fronts}
use Rattle.c_handles.proofs.bundle.is_bundle.Given as goal

abbrev pub invariant-loop-packet : goal.invariant-loop-packet
invariant-loop-packet l = (packets : List (List ℕ)) × Fronts packets l.bytes l.rest

abbrev pub decreases-loop-packet : goal.decreases-loop-packet
decreases-loop-packet l = length l.rest
