use Rattle.std.proofs.Common.{◌≡◌, ◌++◌, take, string_bytes}
use Rattle.scenario.specs.Process.{names_of}
use Rattle.results.specs.Results.{outputs_text}
use Rattle.results.proofs.results.push_outputs.Given as goal

abbrev pub invariant-loop-message : goal.invariant-loop-message
invariant-loop-message l = string_bytes l.out ≡ string_bytes l.fn.out ++ outputs_text (names_of l.processes) (take l.message-index l.shown)
