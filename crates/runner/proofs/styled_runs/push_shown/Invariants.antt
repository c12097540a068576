use Rattle.std.proofs.Common.{◌≡◌, ◌++◌, take, string_bytes}
use Rattle.scenario.specs.Process.{names_of}
use Rattle.scenario.specs.Styles.Style.{style_of}
use Rattle.runner.specs.Reports.{outputs_told}
use Rattle.runner.proofs.styled_runs.push_shown.Given as goal

abbrev pub invariant-loop-message : goal.invariant-loop-message
invariant-loop-message l = string_bytes l.out ≡ string_bytes l.fn.out ++ outputs_told (style_of l.style) (names_of l.processes) (take l.message-index l.shown)
