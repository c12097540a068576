use Rattle.std.proofs.Common.{◌≡◌, ◌∙◌, List, ℕ, length, map, rules, string_bytes, subst}
use Rattle.std.proofs.lemmas.List.{length-map}
use Rattle.interp.specs.Image.{image_in}
use Rattle.machine.specs.Openings.{AreFew}
use Rattle.live.specs.Live.{IsLive}
use Rattle.scenario.specs.Process.{names_of}
use Rattle.scenario.specs.declared.order.Allowed.TheVariants.{Inputs}
use Rattle.image_commands.proofs.LoadLemmas.{as_many, loaded_scenario}
use Rattle.tracer.proofs.FewLemmas.{are_few}
use Rattle.tracer.proofs.live_runs.live_scenario.Goals as goal

pub live-requires-clause-few : goal.live-requires-clause-few
live-requires-clause-few g c =
    let few : AreFew (map image_in c.in_ok-scenario.field-0.images.items) =
    are_few (g.F.Files.content c.args.files.now) Inputs c.args.path.now c.in_ok-scenario.field-0.scenario (map image_in c.in_ok-scenario.field-0.images.items)
    c.in_ok-scenario.ensures.loaded in
    search rules

pub live-requires-clause-named : goal.live-requires-clause-named
live-requires-clause-named g c =
    let named : length c.in_ok-scenario.field-0.scenario.processes.entries ≡ length c.in_ok-scenario.field-0.images.items =
    as_many (g.F.Files.content c.args.files.now) c.in_ok-scenario.field-0.scenario.processes.entries (map image_in c.in_ok-scenario.field-0.images.items)
    c.in_ok-scenario.ensures.loaded.1 ∙ length-map c.in_ok-scenario.field-0.images.items image_in in
    search rules

pub returns-clause-report : goal.returns-clause-report
returns-clause-report g c = λ known there.
    let s = c.in_ok-scenario.field-0.scenario in
    let images = map image_in c.in_ok-scenario.field-0.images.items in
    record {
      scenario = s;
      images = images;
      loaded = loaded_scenario (g.F.Files.content c.args.files.now) Inputs c.args.path.now known s images c.in_ok-scenario.ensures.loaded there;
      ended = c.in_ok-live.field-0.items;
      live = subst (λ (old : List ℕ). IsLive (names_of s.processes) images c.args.workers c.args.budget c.in_ok-live.field-0.items old (string_bytes c.live.new.out)) c.requires.empty c.in_ok-live.ensures.written;
    }
