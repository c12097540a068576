use Rattle.std.proofs.Common.{◌≡◌, ◌++◌, take, map}
use Rattle.std.specs.List.{flat_map, AllByRecursion}
use Rattle.node.specs.Suspension.{codes_of, codes_bytes, IsWhole}
use Rattle.node.proofs.suspension.put_logs.Given as goal

abbrev pub invariant-loop-log : goal.invariant-loop-log
invariant-loop-log l =
    record { value : l.out.items ≡ l.fn.out.items ++ flat_map codes_bytes (map codes_of (take l.log-index l.logs)); whole : AllByRecursion IsWhole (take l.log-index l.logs) }
