use Rattle.std.proofs.Common.{◌≡◌, ◌+◌, ◌*◌, length, take}
use Rattle.std.specs.List.{flat_map}
use Rattle.operations.specs.Bytes.{overwritten}
use Rattle.c_runs.specs.Layout.{sent_bytes}
use Rattle.c_runs.proofs.report.put_sends.Given as goal

abbrev pub invariant-loop-sent : goal.invariant-loop-sent
invariant-loop-sent l =
    (l.out ≡ overwritten l.fn.out l.at (flat_map sent_bytes (take l.sent-index l.sends))) × (length (flat_map sent_bytes (take l.sent-index l.sends)) ≡ 65 * l.sent-index) × (l.end ≡ l.at + 65 * l.sent-index)
