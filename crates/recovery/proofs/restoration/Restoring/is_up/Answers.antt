use Rattle.std.proofs.Common.{rules, tests, Bool, ap, ◌∙◌}
use Rattle.std.proofs.lemmas.Iterator.{YieldsList-from_slice}
use Rattle.std.proofs.lemmas.Iterator.Search.{all_from_yields_List}
use Rattle.recovery.specs.Restoration.{is_up}
use Rattle.recovery.proofs.restoration.Restoring.is_up.Goals as goal

pub returns : goal.returns
returns c =
    all_from_yields_List (λ (b : Bool). b) _ _ _ c.all.ensures.ran (YieldsList-from_slice c.self.inside.answered.items cc) (λ x b q k. search (rules, tests)) ∙ ap is_up c.self.view_is
