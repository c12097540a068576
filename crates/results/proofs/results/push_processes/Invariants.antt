use Rattle.std.proofs.Common.{◌≡◌, ◌++◌, take, string_bytes}
use Rattle.scenario.specs.Process.{names_of}
use Rattle.sessions.specs.Journal.{world_at}
use Rattle.results.specs.Results.{processes_text}
use Rattle.results.proofs.results.push_processes.Given as goal

abbrev pub invariant-loop-index : goal.invariant-loop-index
invariant-loop-index l = string_bytes l.out ≡ string_bytes l.fn.out ++ processes_text (world_at l.session) (take l.index (names_of l.processes))
