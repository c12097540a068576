use Rattle.std.proofs.Common.{◌∙◌, map}
use Rattle.std.proofs.lemmas.List.{length-map}
use Rattle.interp.specs.Image.{image_in}
use Rattle.scenario.specs.declared.order.Allowed.TheVariants.{All}
use Rattle.image_commands.proofs.LoadLemmas.{as_many, loaded_scenario}
use Rattle.tracer.proofs.FewLemmas.{are_few}
use Rattle.tracer.proofs.styled_runs.tell_scenario.Goals as goal

pub tell-requires-clause-few : goal.tell-requires-clause-few
tell-requires-clause-few g c =
    are_few (g.F.Files.content c.args.files.now) All c.args.path.now c.in_ok-scenario.field-0.scenario (map image_in c.in_ok-scenario.field-0.images.items)
    c.in_ok-scenario.ensures.loaded

pub tell-requires-clause-named : goal.tell-requires-clause-named
tell-requires-clause-named g c =
    as_many (g.F.Files.content c.args.files.now) c.in_ok-scenario.field-0.scenario.processes.entries (map image_in c.in_ok-scenario.field-0.images.items)
    c.in_ok-scenario.ensures.loaded.1 ∙ length-map c.in_ok-scenario.field-0.images.items image_in

pub returns-clause-report : goal.returns-clause-report
returns-clause-report g c = λ known there.
    let s = c.in_ok-scenario.field-0.scenario in
    let images = map image_in c.in_ok-scenario.field-0.images.items in
    record {
      scenario = s;
      images = images;
      loaded = loaded_scenario (g.F.Files.content c.args.files.now) All c.args.path.now known s images c.in_ok-scenario.ensures.loaded there;
      telling = c.in_ok-text.ensures;
    }
