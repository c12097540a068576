use Rattle.std.proofs.Common.{◌≡◌, ◌^◌}
use Rattle.recovery.specs.Queries.{bits_of}
use Rattle.recovery.specs.RestorationQueries.{is_asked}
use Rattle.recovery.proofs.restoration.Restoring.waited_for.Given as goal

abbrev pub invariant-loop-peer : goal.invariant-loop-peer
invariant-loop-peer l = (l.peers ≡ bits_of (is_asked l.self) l.peer) × (l.bit ≡ 2 ^ l.peer)
