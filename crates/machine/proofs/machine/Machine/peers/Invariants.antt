-- Below `q` the peers are named, and from there on none is
use Rattle.std.proofs.Common.{◌≡◌, ℕ, ◌<◌, ◌≤◌, length, false}
use Rattle.std.specs.Prelude.{slice_index_or}
use Rattle.limits.specs.declared.TheConstants.{PARTIES}
use Rattle.machine.specs.Recoveries.{is_peer_of}
use Rattle.machine.proofs.machine.Machine.peers.Given as goal

abbrev pub invariant-loop-q : goal.invariant-loop-q
invariant-loop-q l = record {
  wide : length l.peers.todo ≡ PARTIES;
  below : (q : ℕ) → q < l.q → slice_index_or l.peers.todo q false ≡ is_peer_of l.self l.p l.alone q;
  above : (q : ℕ) → l.q ≤ q → slice_index_or l.peers.todo q false ≡ false;
}
