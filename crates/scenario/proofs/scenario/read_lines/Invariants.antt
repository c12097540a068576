use Rattle.std.proofs.Common.{◌≤◌, ◌+◌, length}
use Rattle.scenario.specs.Inside.Loop.{HaveRead, left}
use Rattle.scenario.proofs.scenario.read_lines.Given as goal

abbrev pub invariant-loop-rest : goal.invariant-loop-rest
invariant-loop-rest l = record {
  so_far : HaveRead l.allowed l.text l.rest l.number l.processes.entries l.steps.items;
  counted : l.number + left l.rest ≤ length l.text + 1;
}

abbrev pub decreases-loop-rest : goal.decreases-loop-rest
decreases-loop-rest l = left l.rest
