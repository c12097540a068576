use Rattle.std.proofs.Common.{◌≡◌, take}
use Rattle.std.specs.List.{list_all}
use Rattle.node.specs.Suspension.{is_sent}
use Rattle.node.proofs.suspension.are_sent.Given as goal

abbrev pub invariant-loop-log : goal.invariant-loop-log
invariant-loop-log l = l.sent ≡ list_all is_sent (take l.log-index l.logs)
