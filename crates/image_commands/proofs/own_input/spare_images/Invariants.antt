use Rattle.std.proofs.Common.{◌≡◌, ◌<◌, ℕ, Some, String, string_bytes}
use Rattle.std.specs.Prelude.{◌≢◌, slice_get}
use Rattle.std.specs.declared.alloc.Global.{Global}
use Rattle.scenario.specs.declared.process.NamedProcess.{NamedProcess}
use Rattle.image_commands.proofs.own_input.spare_images.Given as goal

abbrev pub invariant-loop-index : goal.invariant-loop-index
invariant-loop-index g l =
    (k : ℕ) (e : String Global × NamedProcess) → k < l.index → slice_get l.processes.entries k ≡ Some e → string_bytes e.1.path ≢ l.output
