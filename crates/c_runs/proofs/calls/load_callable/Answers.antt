use Rattle.std.proofs.Common.{◌≡◌, ◌≢◌, length, rules, refl, inl, inr}
use Rattle.verifier.specs.declared.file_form.FileForm.TheVariants.{Sbi2}
use Rattle.interp.specs.Image.{TheImage, the_image}
use Rattle.c_runs.specs.declared.refusal.ImageRefusal.TheVariants.{Form, State}
use Rattle.c_runs.specs.Calls.{IsTypableFile, IsCallableForm}
use Rattle.c_runs.specs.Exports.{IsTypable, IsCallable, IsFormRefusal, IsStateRefusal}
use Rattle.c_runs.proofs.calls.load_callable.Goals as goal

pub returns-then-eq-clause-refused : goal.returns-then-eq-clause-refused
returns-then-eq-clause-refused c =
    let image : TheImage = the_image c.in-Ok.handler in
    let e = c.in-Ok.ensures in
    let found : IsTypableFile image c.args.file.now = record { file_is = e.found; typable = e.typable } in
    let typable : IsTypable c.args.file.now = (image, found) in
    let form : image.form ≡ Sbi2 = search rules in
    let second : IsFormRefusal c.args.file.now Form = (refl, (image, found, form)) in
    inr (typable, inl second)

pub returns-then-state-state_len-clause-refused : goal.returns-then-state-state_len-clause-refused
returns-then-state-state_len-clause-refused c =
    let image : TheImage = the_image c.in-Ok.handler in
    let e = c.in-Ok.ensures in
    let found : IsTypableFile image c.args.file.now = record { file_is = e.found; typable = e.typable } in
    let typable : IsTypable c.args.file.now = (image, found) in
    let form : IsCallableForm image = search rules in
    let callable : IsCallable c.args.file.now = (image, found, form) in
    let unfit : length c.args.state.now ≢ image.len = search rules in
    let other : IsStateRefusal c.args.file.now c.args.state.now State = (refl, (image, found, form, unfit)) in
    inr (typable, inr (callable, other))
