use Rattle.std.proofs.Common.{◌≡◌, ◌≤◌, ◌+◌, length}
use Rattle.decode.specs.Slots.{slots}
use Rattle.assemble.specs.Inside.Loop.{HaveRead, left}
use Rattle.assemble.proofs.parser.read_lines.Given as goal

abbrev pub invariant-loop-rest : goal.invariant-loop-rest
invariant-loop-rest l = record {
  so_far : HaveRead l.text l.rest l.line l.insns.items;
  slots_are : l.slots ≡ slots l.insns.items;
  room : l.slots ≤ 1024;
  counted : l.line + left l.rest ≤ length l.text + 1;
}

abbrev pub decreases-loop-rest : goal.decreases-loop-rest
decreases-loop-rest l = left l.rest
