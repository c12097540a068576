use Rattle.std.proofs.Common.{rules, ◌≡◌, codes}
use Rattle.clap.specs.Words.{app_of, new_app}
use Rattle.cli.proofs.command.migrate.Goals as goal

pub returns-clause-shape : goal.returns-clause-shape
returns-clause-shape c =
    let bare : app_of c.about.result ≡ new_app (codes "migrate") = search rules in
    c.with.ensures.shape _ _ c.required-3.ensures.local c.required-3.ensures.rule
    (c.with-state.ensures.shape _ _ c.required-2.ensures.local c.required-2.ensures.rule
    (c.with-image.ensures.shape _ _ c.required.ensures.local c.required.ensures.rule bare))
