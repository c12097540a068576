use Rattle.std.proofs.Common.{subst, sym}
use Rattle.image_commands.specs.Inside.{ImagesFault}
use Rattle.image_commands.proofs.FaultLemmas.{becomes}
use Rattle.image_commands.proofs.LoadLemmas.{loading_fault}
use Rattle.image_commands.proofs.loader.load_scenario.Goals as goal

pub returns-in_err-images-clause-fault : goal.returns-in_err-images-clause-fault
returns-in_err-images-clause-fault g c =
    let content = g.F.Files.content c.args.files.now in
    let failed = g.F.Files.failed c.load_images.new.files in
    let es = c.in_ok-scenario.scenario.processes.entries in
    becomes c.from_residual-in_err-images.result _ _ c.from_residual-in_err-images.ensures.1
    (λ f is. loading_fault content failed c.args.allowed c.args.path.now c.in_ok-scenario.scenario f c.in_ok-scenario.ensures.read
    (subst (λ k. ImagesFault k failed es f) c.in_ok-scenario.ensures.same
    (subst (ImagesFault (g.F.Files.content c.read.new.files) failed es) (sym is) c.in_err-images.ensures.fault)))
