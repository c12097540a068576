use Rattle.std.proofs.Common.{rules, arith, sym, ap, subst}
use Rattle.std.proofs.lemmas.Grind.{common_steps}
use Rattle.recovery.specs.declared.lifecycle.Lifecycle.TheVariants.{Up}
use Rattle.process.specs.Bounds.{IsWithin}
use Rattle.process.proofs.Within as within
use Rattle.process.proofs.process.Member.freeze.Goals.{in-Up, in_default}
use Rattle.process.proofs.process.Member.freeze.Goals as goal

pub invariant_of-self : goal.invariant_of-self
invariant_of-self c =
    elim c.match-self.branch [
      | in-Up w ↦
          subst IsWithin (sym (ap (λ i. i.lifecycle) w.self-inside-is)) (within.freezes (Up w.in-Up.node) (Up w.freeze.new.node) w.freeze.ensures.freezes (subst IsWithin w.in-Up.is c.self.invariant))
      | in_default w ↦ first_of (search rules, grind (arith, common_steps))
    ]
