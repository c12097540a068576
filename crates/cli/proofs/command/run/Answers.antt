use Rattle.std.proofs.Common.{rules, ◌≡◌, codes}
use Rattle.clap.specs.Words.{app_of, new_app}
use Rattle.cli.proofs.command.run.Goals as goal

pub returns-clause-shape : goal.returns-clause-shape
returns-clause-shape c =
    let bare : app_of c.about.result ≡ new_app (codes "run") = search rules in
    c.with.ensures.shape _ _ c.flag-2.ensures.local c.flag-2.ensures.rule
    (c.with-json.ensures.shape _ _ c.flag.ensures.local c.flag.ensures.rule
    (c.with-scenario.ensures.shape _ _ c.required.ensures.local c.required.ensures.rule bare))
