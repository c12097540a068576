use Rattle.std.proofs.Common.{◌≡◌, ◌++◌, take, string_bytes}
use Rattle.scenario.specs.Styles.Style.{style_of}
use Rattle.runner.specs.Reports.{refusals_told}
use Rattle.runner.proofs.styled_runs.push_refusals.Given as goal

abbrev pub invariant-loop-moment : goal.invariant-loop-moment
invariant-loop-moment l = string_bytes l.out ≡ string_bytes l.fn.out ++ refusals_told (style_of l.style) (take l.moment-index l.moments)
