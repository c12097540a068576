-- How many processes a scenario has.
use Rattle.std.proofs.Common.{ℕ, List, arith}
use Rattle.interp.specs.Image.{TheImage}
use Rattle.machine.specs.Openings.{AreFew}
use Rattle.scenario.specs.declared.order.Allowed.{Allowed}
use Rattle.scenario.specs.declared.scenario.Scenario.{Scenario}
use Rattle.image_commands.specs.Files.{Content}
use Rattle.image_commands.specs.Loads.{IsLoadedAs}
use Rattle.image_commands.proofs.LoadLemmas.{as_many, one_or_more}

-- a session can have them
pub are_few : (content : Content) (allowed : Allowed) (path : List ℕ) (s : Scenario) (is : List TheImage) → IsLoadedAs content allowed path s is → AreFew is
are_few content allowed path s is loaded =
    let same = as_many content s.processes.entries is loaded.1 in
    let written = loaded.0.2 in
    let some = one_or_more s.processes.entries written.some in
    let few = written.lines.few in
    (omega (arith, same, some), omega (arith, same, few))
