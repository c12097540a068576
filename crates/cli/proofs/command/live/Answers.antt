use Rattle.std.proofs.Common.{rules, ◌≡◌, codes}
use Rattle.clap.specs.Words.{app_of, new_app}
use Rattle.cli.proofs.command.live.Goals as goal

pub returns-clause-shape : goal.returns-clause-shape
returns-clause-shape c =
    let bare : app_of c.about.result ≡ new_app (codes "live") = search rules in
    c.with.ensures.shape _ _ c.number-2.ensures.local c.number-2.ensures.rule
    (c.with-workers.ensures.shape _ _ c.number.ensures.local c.number.ensures.rule
    (c.with-scenario.ensures.shape _ _ c.required.ensures.local c.required.ensures.rule bare))
