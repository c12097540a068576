use Rattle.std.proofs.Common.{◌≡◌, ◌<◌, ◌∙◌, ℕ, List, Some, ap, arith, length, subst, sym, true}
use Rattle.std.proofs.lemmas.Option.{slice_get_within}
use Rattle.std.specs.Map.Iter.{deref_pair}
use Rattle.std.specs.Option.{option_map}
use Rattle.std.specs.Prelude.{slice_get}
use Rattle.image_commands.specs.OwnInput.{IsOwnInput}
use Rattle.image_commands.specs.Loads.{IsImagePath}
use Rattle.image_commands.proofs.FaultLemmas.{becomes, own_input_of}
use Rattle.image_commands.proofs.own_input.spare_images.Goals as goal

pub returns-in_err-spare-clause-fault : goal.returns-in_err-spare-clause-fault
returns-in_err-spare-clause-fault g c =
    let at : slice_get c.args.processes.now.entries c.loop-index.index ≡ Some (c.in-Some._name.now, c.in-Some.process.now) =
    sym c.get_index.ensures.entry ∙ ap (option_map deref_pair) c.in-Some.is in
    becomes c.from_residual.result _ _ c.from_residual.ensures.1
    (λ f is. own_input_of (g.F.Files.may_be_one c.as_str.result.now c.args.output.now ≡ true)
    ((path : List ℕ) × IsImagePath c.args.processes.now.entries path × (g.F.Files.may_be_one path c.args.output.now ≡ true)) f
    (λ one. (c.as_str.result.now, (c.loop-index.index, (c.in-Some._name.now, c.in-Some.process.now), at, c.as_str.ensures.value), one))
    (subst (IsOwnInput (g.F.Files.may_be_one c.as_str.result.now c.args.output.now ≡ true)) (sym is) c.in_err-spare.ensures.fault))

pub returns-clause-apart : goal.returns-clause-apart
returns-clause-apart g c = λ path found same.
    let es = c.args.processes.now.entries in
    let within : found.0 < length es = slice_get_within es found.0 found.1 found.2 in
    c.loop-index.invariant found.0 found.1 (omega (arith, within)) found.2 (sym found.3 ∙ same)
