use Rattle.std.proofs.Common.{◌∙◌, ap, List, ℕ, Option, length, subst, sym}
use Rattle.std.proofs.lemmas.Result.{IfOk-weaker}
use Rattle.std.specs.Prelude.{option_map, string_bytes}
use Rattle.scenario.specs.Process.{names_of}
use Rattle.scenario.specs.declared.scenario.Step.{Step}
use Rattle.scenario.specs.Styles.Style.{TheStyle}
use Rattle.runner.specs.Inside.{AreNoted, notes_of, position_of}
use Rattle.runner.specs.Orders.{Position}
use Rattle.runner.specs.Reports.{told_text}
use Rattle.runner.proofs.Played.{runs-images, told-run}
use Rattle.runner.proofs.player.Player.telling.Goals as goal

pub told-requires : goal.told-requires
told-requires c =
    let steps = c.args.scenario.now.steps.items in
    let here = position_of c.args.self.now in
    let end = position_of c.tell_all.new.self in
    let noted = subst (λ (xs : List Step). AreNoted xs here end (notes_of c.in_ok-notes.notes)) c.as_slice.ensures.value c.in_ok-notes.ensures in
    c.requires ∙ sym (ap length (runs-images here steps noted.0 end noted.1))

pub returns : goal.returns
returns c =
    let steps = c.args.scenario.now.steps.items in
    let names = names_of c.args.scenario.now.processes in
    let end = position_of c.tell_all.new.self in
    let notes = notes_of c.in_ok-notes.notes in
    let noted = subst (λ (xs : List Step). AreNoted xs (position_of c.args.self.now) end notes) c.as_slice.ensures.value c.in_ok-notes.ensures in
    let style : Option (List (List ℕ)) → TheStyle = λ n. record { json = c.args.json; names = n } in
    let shown = style (option_map (λ m. names_of m.now) c.names_if.result) in
    let styled = ap style c.names_if.ensures in
    IfOk-weaker c.told.result _ _
    (λ text is images opened. told-run names images end steps notes shown c.args.json c.args.named (string_bytes text)
    (subst (λ (p : Position). AreNoted steps p end notes) opened noted) c.journal-journal.ensures.legal styled
    (is ∙ ap (λ ms. told_text shown names end.images ms end.entries) c.as_slice-2.ensures.value))
    c.told.ensures
