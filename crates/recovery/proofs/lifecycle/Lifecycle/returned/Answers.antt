use Rattle.std.proofs.Common.{◌≡◌, true, sym, subst}
use Rattle.recovery.specs.Restoration.{is_up}
use Rattle.recovery.specs.declared.lifecycle.Lifecycle.{Lifecycle}
use Rattle.recovery.specs.declared.lifecycle.Lifecycle.TheVariants.{Up}
use Rattle.recovery.specs.Transitions.{Returns}
use Rattle.recovery.proofs.lifecycle.Lifecycle.returned.Goals as goal

pub returns-else-not-is_up : goal.returns-else-not-is_up
returns-else-not-is_up c =
    let P : Lifecycle → Type 0 = λ v. Returns v (Up c.tick.new.self) in
    let now : is_up c.in-Restoring.process ≡ true = search in
    subst P (sym c.in-Restoring.is)
    (now, (c.into_node-node.result, (c.into_node-node.ensures.value, c.into_node-node.ensures.stands, c.tick.ensures.value, c.tick.ensures.acts)))
