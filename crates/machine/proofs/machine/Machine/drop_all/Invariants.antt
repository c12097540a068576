use Rattle.std.proofs.Common.{◌≡◌, ◌≤◌, ◌+◌, ◌*◌, suc, length}
use Rattle.limits.specs.declared.TheConstants.{SENDS}
use Rattle.machine.specs.Checkpoints.{dropped_to, trimmed_to}
use Rattle.machine.proofs.machine.Machine.drop_all.Given as goal

abbrev pub invariant-loop-s : goal.invariant-loop-s
invariant-loop-s l = record {
  after : l.self ≡ trimmed_to l.d l.initial.self l.s;
  value : l.dropped ≡ dropped_to l.d l.initial.self l.s;
  bound : l.dropped ≤ l.s * (SENDS + 1);
  upto : l.s ≤ suc (length l.initial.self.processes);
}
