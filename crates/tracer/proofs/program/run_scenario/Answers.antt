use Rattle.std.proofs.Common.{◌∙◌, List, ℕ, inr, map, string_bytes, subst}
use Rattle.std.proofs.lemmas.List.{length-map}
use Rattle.interp.specs.Image.{image_in}
use Rattle.runner.specs.Run.{IsCut, IsRun}
use Rattle.scenario.specs.Process.{names_of}
use Rattle.scenario.specs.declared.order.Allowed.TheVariants.{All}
use Rattle.image_commands.proofs.FaultLemmas.{becomes}
use Rattle.image_commands.proofs.LoadLemmas.{as_many, loaded_scenario}
use Rattle.tracer.proofs.FewLemmas.{are_few}
use Rattle.tracer.proofs.program.run_scenario.Goals as goal

pub run-requires-clause-few : goal.run-requires-clause-few
run-requires-clause-few g c =
    are_few (g.F.Files.content c.args.files.now) All c.args.path.now c.in_ok-scenario.field-0.scenario (map image_in c.in_ok-scenario.field-0.images.items)
    c.in_ok-scenario.ensures.loaded

pub run-requires-clause-named : goal.run-requires-clause-named
run-requires-clause-named g c =
    as_many (g.F.Files.content c.args.files.now) c.in_ok-scenario.field-0.scenario.processes.entries (map image_in c.in_ok-scenario.field-0.images.items)
    c.in_ok-scenario.ensures.loaded.1 ∙ length-map c.in_ok-scenario.field-0.images.items image_in

pub returns-in_err-run-clause-short : goal.returns-in_err-run-clause-short
returns-in_err-run-clause-short g c =
    let s = c.in_ok-scenario.field-0.scenario in
    let images = map image_in c.in_ok-scenario.field-0.images.items in
    becomes c.from_residual-in_err-run.result _ _ c.from_residual-in_err-run.ensures.1
    (λ f is. inr (
      is,
      λ known there. record {
        scenario = s;
        images = images;
        loaded = loaded_scenario (g.F.Files.content c.args.files.now) All c.args.path.now known s images c.in_ok-scenario.ensures.loaded there;
        cut = subst (λ (old : List ℕ). IsCut images s.steps.items old (string_bytes c.run.new.out)) c.requires c.in_err-run.ensures.short;
      },
    ))

pub returns-clause-report : goal.returns-clause-report
returns-clause-report g c = λ known there.
    let s = c.in_ok-scenario.field-0.scenario in
    let images = map image_in c.in_ok-scenario.field-0.images.items in
    record {
      scenario = s;
      images = images;
      loaded = loaded_scenario (g.F.Files.content c.args.files.now) All c.args.path.now known s images c.in_ok-scenario.ensures.loaded there;
      run = subst (λ (old : List ℕ). IsRun (names_of s.processes) images s.steps.items old (string_bytes c.run.new.out)) c.requires c.in_ok-run.ensures.done;
    }
