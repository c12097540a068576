use Rattle.std.proofs.Common.{◌≡◌, ◌≢◌, ℕ, Bool, true, false, arith, refl, sym, ap, ◌∙◌, true≢false}
use Rattle.std.specs.Prelude.{◌==◌}
use Rattle.std.proofs.lemmas.Bool.Decides.{nat_tests}
use Rattle.world.specs.declared.call.Call.TheVariants.{Transmit}
use Rattle.world.specs.World.{World}
use Rattle.world.specs.Useful.{is_useful}
use Rattle.machine.specs.Simulation.{Stands}
use Rattle.machine.specs.Choice.{next_ssn}
use Rattle.machine.proofs.Picks.{if_none, outside-next, useful-wanted}
use Rattle.machine.proofs.machine.Machine.wanted_between.Goals as goal
use Rattle.machine.proofs.machine.Machine.wanted_between.Goals.{Else-is_wanted}

-- the next of the sender isn't useful
next-not : (c : Else-is_wanted) → (w : World) → Stands c.args.self.now w → (i : ℕ) → i ≡ next_ssn w c.args.from c.args.to → is_useful w (Transmit c.args.from c.args.to i) ≢ true
next-not c w s i e useful =
    let same : i ≡ c.next_ssn-next.result = e ∙ sym (c.next_ssn-next.ensures.value w s) in
    true≢false (sym useful ∙ ap (λ j. is_useful w (Transmit c.args.from c.args.to j)) same ∙ sym (c.is_wanted.ensures w s) ∙ c.if-is_wanted.false)

pub returns-then-to-eq0-clause-none : goal.returns-then-to-eq0-clause-none
returns-then-to-eq0-clause-none c =
    let g = (goal.at.returns-then-to-eq0-clause-none c).Else-is_wanted in
    λ w s i useful. next-not g w s i (outside-next w c.args.from c.args.to i c.if-to-eq0.true (useful-wanted c.args.self.now w s 0 c.args.from c.args.to i c.requires useful)) useful

pub returns-clause-none : goal.returns-clause-none
returns-clause-none c =
    let g = (goal.at.returns-clause-none c).Else-is_wanted in
    if_none c.wanted_again.result (λ others w s i useful. by_place g others w s i useful (i == next_ssn w c.args.from c.args.to) refl) c.wanted_again.ensures.none
  where
    by_place : (g : Else-is_wanted) → ((w : World) → Stands g.args.self.now w → (i : ℕ) → i ≢ next_ssn w g.args.from g.args.to → is_useful w (Transmit g.args.from g.args.to i) ≢ true)
        → (w : World) → Stands g.args.self.now w → (i : ℕ) → is_useful w (Transmit g.args.from g.args.to i) ≡ true → (b : Bool) → (i == next_ssn w g.args.from g.args.to) ≡ b → ⊥
    by_place g others w s i useful true e = next-not g w s i (grind (arith, nat_tests)) useful
    by_place g others w s i useful false e = others w s i (grind (arith, nat_tests)) useful

pub returns-then-is_wanted-clause-some : goal.returns-then-is_wanted-clause-some
returns-then-is_wanted-clause-some c = λ w s. sym (c.is_wanted.ensures w s) ∙ c.if-is_wanted.true
