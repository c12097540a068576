use Rattle.std.proofs.Common.{◌≡◌, ◌+◌, ◌*◌, length, take}
use Rattle.std.specs.List.{flat_map}
use Rattle.helpers.specs.Payload.{view64}
use Rattle.operations.specs.Bytes.{overwritten}
use Rattle.c_runs.proofs.report.put_outputs.Given as goal

abbrev pub invariant-loop-output : goal.invariant-loop-output
invariant-loop-output l =
    (l.out ≡ overwritten l.fn.out l.at (flat_map view64 (take l.output-index l.outputs))) × (length (flat_map view64 (take l.output-index l.outputs)) ≡ 64 * l.output-index) × (l.end ≡ l.at + 64 * l.output-index)
