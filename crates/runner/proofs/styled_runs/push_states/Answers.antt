use Rattle.std.proofs.Common.{◌≡◌, ◌∙◌, ◌+◌, ◌-◌, ◌<◌, ◌++◌, [], length, get_or, ap, arith, string_bytes}
use Rattle.std.proofs.lemmas.List.{length-map}
use Rattle.scenario.specs.Process.{names_of}
use Rattle.sessions.specs.Journal.{world_at}
use Rattle.scenario.specs.Styles.Style.{style_of}
use Rattle.runner.specs.Reports.{process_told}
use Rattle.results.proofs.ResultsLemmas.{process_more}
use Rattle.runner.proofs.styled_runs.push_states.Goals as goal

pub loop-index-preserved : goal.loop-index-preserved
loop-index-preserved c =
    let line = process_told (style_of c.args.style) (world_at c.args.session.now) in
    let names = names_of c.args.processes.now in
    let i = c.loop-index.index in
    let many : length names ≡ length c.args.processes.now.entries = length-map c.args.processes.now.entries _ in
    let within : i < length names = omega (arith, many, c.requires, c.count-index-end.ensures.value, c.loop-index-test.true) in
    let place : i + 1 - 1 ≡ i = omega arith in
    let named : c.name_at.result.now ≡ get_or names i [] = c.name_at.ensures ∙ ap (λ k. get_or names k []) place in
    let written : string_bytes c.push_state.new.out ≡ string_bytes c.loop-index.out ++ line (i + 1) (get_or names i []) =
    c.in_ok-push_state.ensures ∙ ap (λ n. string_bytes c.loop-index.out ++ line (i + 1) n) named in
    process_more line names i (string_bytes c.args.out.now) (string_bytes c.loop-index.out) (string_bytes c.push_state.new.out) within c.loop-index.invariant written
