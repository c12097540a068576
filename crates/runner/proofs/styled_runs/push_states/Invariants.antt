use Rattle.std.proofs.Common.{◌≡◌, ◌++◌, take, string_bytes}
use Rattle.scenario.specs.Process.{names_of}
use Rattle.sessions.specs.Journal.{world_at}
use Rattle.scenario.specs.Styles.Style.{style_of}
use Rattle.results.specs.Results.{numbered}
use Rattle.runner.specs.Reports.{process_told}
use Rattle.runner.proofs.styled_runs.push_states.Given as goal

abbrev pub invariant-loop-index : goal.invariant-loop-index
invariant-loop-index l =
    string_bytes l.out ≡ string_bytes l.fn.out ++ numbered (process_told (style_of l.style) (world_at l.session)) 1 (take l.index (names_of l.processes))
