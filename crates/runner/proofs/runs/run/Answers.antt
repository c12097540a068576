use Rattle.std.proofs.Common.{◌≡◌, ◌∙◌, List, ap, length, map, subst, sym}
use Rattle.std.proofs.lemmas.List.{length-map}
use Rattle.std.proofs.lemmas.Result.{on_err_weaker, on_ok_weaker}
use Rattle.std.specs.Prelude.{string_bytes}
use Rattle.interp.specs.Image.{image_in}
use Rattle.scenario.specs.Process.{names_of}
use Rattle.scenario.specs.declared.scenario.Step.{Step}
use Rattle.runner.specs.Inside.{ArePlayed, position_of}
use Rattle.runner.specs.Orders.{beginning}
use Rattle.runner.proofs.Played.{played-all, played-run, runs-images}
use Rattle.runner.proofs.runs.run.Goals as goal

pub push_results-requires : goal.push_results-requires
push_results-requires c =
    let images = map image_in c.args.images.items in
    let end = position_of c.in_ok-player.player in
    let played = c.in_ok-player.ensures.done in
    let same : end.images ≡ images = runs-images (beginning images) c.as_slice.result.now played.0 end played.1 in
    c.requires.named ∙ sym (length-map c.args.images.items image_in) ∙ sym (ap length same)

pub returns-clause-done : goal.returns-clause-done
returns-clause-done c =
    let steps = c.args.scenario.now.steps.items in
    let images = map image_in c.args.images.items in
    let end = position_of c.in_ok-player.player in
    let played = subst (λ (xs : List Step). ArePlayed xs (beginning images) end (string_bytes c.args.out.now) (string_bytes c.played.new.out)) c.as_slice.ensures.value c.in_ok-player.ensures.done in
    on_ok_weaker c.push_results.result (λ text. played-run (names_of c.args.scenario.now.processes) images end steps (string_bytes c.args.out.now) (string_bytes c.played.new.out) (string_bytes c.push_results.new.out)
    played c.journal-journal.ensures.legal text) c.push_results.ensures.written

pub returns-clause-short : goal.returns-clause-short
returns-clause-short c =
    let steps = c.args.scenario.now.steps.items in
    let images = map image_in c.args.images.items in
    let end = position_of c.in_ok-player.player in
    let played = subst (λ (xs : List Step). ArePlayed xs (beginning images) end (string_bytes c.args.out.now) (string_bytes c.played.new.out)) c.as_slice.ensures.value c.in_ok-player.ensures.done in
    on_err_weaker c.push_results.result (λ same. played-all images end steps (string_bytes c.args.out.now) (string_bytes c.push_results.new.out)
    (subst (λ text. ArePlayed steps (beginning images) end (string_bytes c.args.out.now) text) (sym same) played)) c.push_results.ensures.unchanged
