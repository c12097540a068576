use Rattle.std.proofs.Common.{Result, Ok, Err, OnOk, sym, subst}
use Rattle.recovery.specs.declared.lifecycle.Lifecycle.{Lifecycle}
use Rattle.recovery.specs.declared.lifecycle.Lifecycle.TheVariants.{Collecting, Restoring}
use Rattle.process.specs.Calls.{IsHanded}
use Rattle.process.proofs.traffic.hand.Goals as goal

-- of an answer that isn't refused two things hold
on-both : {X E : Type 0} (r : Result X E) (P Q : Type 0) → OnOk r P → OnOk r Q → OnOk r (P × Q)
on-both (Ok x) P Q h g = (h, g)
on-both (Err e) P Q h g = tt

pub returns-in-Collecting-clause-ok : goal.returns-in-Collecting-clause-ok
returns-in-Collecting-clause-ok c =
    let r = c.receive-in-Collecting.result in
    let P : Lifecycle → Type 0 = λ v. OnOk r (IsHanded c.args.packet.now v (Collecting c.receive-in-Collecting.new.self)) in
    subst P (sym c.in-Collecting.is) (on-both r _ _ c.receive-in-Collecting.ensures.value c.receive-in-Collecting.ensures.acts)

pub returns-in-Restoring-clause-ok : goal.returns-in-Restoring-clause-ok
returns-in-Restoring-clause-ok c =
    let P : Lifecycle → Type 0 = λ v. IsHanded c.args.packet.now v (Restoring c.receive-in-Restoring.new.self) in
    subst P (sym c.in-Restoring.is) (c.receive-in-Restoring.ensures.value, c.receive-in-Restoring.ensures.acts)
