use Rattle.std.proofs.Common.{rules}
use Rattle.scenario.proofs.Names.{party_reads}
use Rattle.scenario.specs.Process.{names_of}
use Rattle.std.specs.Prelude.{codes, ◌≢◌}
use Rattle.scenario.proofs.process.party_of.Goals as goal

pub returns : goal.returns
returns c =
    let other : c.args.text.now ≢ codes "outside" = search rules in
    party_reads (names_of c.args.processes.now) c.args.text.now c.named_process.result other c.named_process.ensures
