use Rattle.std.proofs.Common.{rules, ◌≡◌, codes}
use Rattle.clap.specs.Words.{app_of, new_app}
use Rattle.cli.proofs.command.pack.Goals as goal

pub returns-clause-shape : goal.returns-clause-shape
returns-clause-shape c =
    let bare : app_of c.about.result ≡ new_app (codes "pack") = search rules in
    c.with.ensures.shape _ _ c.text.ensures.local c.text.ensures.rule
    (c.with-with_form.ensures.shape _ _ c.form.ensures.local c.form.ensures.rule
    (c.with-with_state.ensures.shape _ _ c.state.ensures.local c.state.ensures.rule
    (c.with-image.ensures.shape _ _ c.required-2.ensures.local c.required-2.ensures.rule
    (c.with-code.ensures.shape _ _ c.required.ensures.local c.required.ensures.rule bare))))
