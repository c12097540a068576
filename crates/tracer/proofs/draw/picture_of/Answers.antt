use Rattle.std.proofs.Common.{◌≡◌, ℕ, List, Option, inr, length, map, string_bytes, subst, sym, true}
use Rattle.interp.specs.Image.{image_in}
use Rattle.cli.specs.Asks.{Draw}
use Rattle.diagram.specs.Picture.{IsPicture}
use Rattle.diagram.specs.Run.{Moment}
use Rattle.scenario.specs.declared.order.Allowed.TheVariants.{All}
use Rattle.world.specs.declared.entry.Entry.{Entry}
use Rattle.world.specs.declared.message.Message.{Message}
use Rattle.world.specs.History.{Payload}
use Rattle.image_commands.specs.OwnInput.{IsOwnInput}
use Rattle.image_commands.specs.Loads.{IsImagePath}
use Rattle.image_commands.proofs.FaultLemmas.{becomes, own_input_of}
use Rattle.image_commands.proofs.LoadLemmas.{loaded_scenario}
use Rattle.tracer.specs.Program.{WritesOver}
use Rattle.tracer.proofs.FewLemmas.{are_few}
use Rattle.tracer.proofs.draw.picture_of.Goals as goal

pub chronicle_of-requires : goal.chronicle_of-requires
chronicle_of-requires g c =
    are_few (g.F.Files.content c.args.files.now) All c.args.path.now c.in_ok-scenario.field-0.scenario (map image_in c.in_ok-scenario.field-0.images.items)
    c.in_ok-scenario.ensures.loaded

pub returns-clause-drawn : goal.returns-clause-drawn
returns-clause-drawn g c = λ known there.
    let s = c.in_ok-scenario.field-0.scenario in
    let images = map image_in c.in_ok-scenario.field-0.images.items in
    let count = length s.processes.entries in
    let told = c.in_ok-chronicle.chronicle in
    let P : List Entry → List Moment → List (Option Payload) → List Message → Type 0 =
    λ es ms ss os. IsPicture count (record { entries = es; moments = ms; sent = ss; shown = os }) c.args.only_messages (string_bytes c.in_ok-text.text) in
    record {
      scenario = s;
      images = images;
      loaded = loaded_scenario (g.F.Files.content c.args.files.now) All c.args.path.now known s images c.in_ok-scenario.ensures.loaded there;
      run = record { entries = told.entries.items; moments = told.moments.items; sent = told.sent.items; shown = told.shown.items };
      chronicle = c.in_ok-chronicle.ensures;
      picture = subst (P told.entries.items told.moments.items told.sent.items) c.as_slice-4.ensures.value
          (subst (λ ss. P told.entries.items told.moments.items ss c.as_slice-4.result.now) c.as_slice-3.ensures.value
          (subst (λ ms. P told.entries.items ms c.as_slice-3.result.now c.as_slice-4.result.now) c.as_slice-2.ensures.value
          (subst (λ es. P es c.as_slice-2.result.now c.as_slice-3.result.now c.as_slice-4.result.now) c.as_slice.ensures.value c.in_ok-text.ensures)));
    }

pub returns-in_err-spare_images-clause-fault : goal.returns-in_err-spare_images-clause-fault
returns-in_err-spare_images-clause-fault g c =
    let content = g.F.Files.content c.args.files.now in
    let s = c.in_ok-scenario.field-0.scenario in
    let images = map image_in c.in_ok-scenario.field-0.images.items in
    let one = g.F.Files.may_be_one in
    becomes c.from_residual-in_err-spare_images.result _ _ c.from_residual-in_err-spare_images.ensures.1
    (λ f is. inr (own_input_of ((path : List ℕ) × IsImagePath s.processes.entries path × (one path c.args.place.now ≡ true))
    (WritesOver one content (Draw c.args.path.now c.args.place.now c.args.only_messages)) f
    (λ over. inr (λ known there. (s, (loaded_scenario content All c.args.path.now known s images c.in_ok-scenario.ensures.loaded there).written, over.0, over.1, over.2)))
    (subst (IsOwnInput ((path : List ℕ) × IsImagePath s.processes.entries path × (one path c.args.place.now ≡ true))) (sym is) c.in_err-spare_images.ensures.fault)))

pub returns-clause-spared : goal.returns-clause-spared
returns-clause-spared g c = λ known there.
    let s = c.in_ok-scenario.field-0.scenario in
    let images = map image_in c.in_ok-scenario.field-0.images.items in (
      s,
      (loaded_scenario (g.F.Files.content c.args.files.now) All c.args.path.now known s images c.in_ok-scenario.ensures.loaded there).written,
      c.in_ok-spare_images.ensures.apart,
    )
