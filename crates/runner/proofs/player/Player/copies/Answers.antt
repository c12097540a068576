use Rattle.std.proofs.Common.{◌∙◌}
use Rattle.runner.proofs.player.Player.copies.Goals as goal

pub returns-clause-entries : goal.returns-clause-entries
returns-clause-entries c = c.in_ok-entries.ensures ∙ c.journal.ensures.entries

pub returns-clause-shown : goal.returns-clause-shown
returns-clause-shown c = c.in_ok-shown.ensures ∙ c.shown_since.ensures.value
