use Rattle.std.proofs.Common.{◌≡◌, ℕ, ◌<◌, ◌+◌, Bool, true, false, true≢false, arith, refl, sym, ◌∙◌, subst}
use Rattle.std.specs.Prelude.{◌==◌}
use Rattle.std.proofs.lemmas.Bool.Decides.{nat_tests}
use Rattle.machine.specs.Simulation.{TheMachine}
use Rattle.machine.specs.Choice.{ArePeers, NoneWanted}
use Rattle.machine.proofs.machine.Machine.wanted_of.Goals as goal
use Rattle.machine.proofs.machine.Machine.wanted_of.Goals.{then-to-from-via-then-to-from, then-to-from-via-else-to-from+then-not-is_up-2}

more : (m : TheMachine) (from n : ℕ) → (ArePeers m from n → NoneWanted m from n) → ((d : ℕ) → d < n → ArePeers m from d → NoneWanted m from d) → (d : ℕ) → d < n + 1 → (b : Bool) → (n == d) ≡ b → ArePeers m from d → NoneWanted m from d
more m from n here below d h true e peers = let same : n ≡ d = grind (arith, nat_tests) in subst (λ q. ArePeers m from q → NoneWanted m from q) same here peers
more m from n here below d h false e peers = below d (grind (arith, nat_tests)) peers

pub loop-to-preserved : goal.loop-to-preserved
loop-to-preserved c =
    λ d h peers. more c.args.self.now c.args.from c.loop-to.to (λ _. c.in_default.ensures.none) c.loop-to.invariant d h (c.loop-to.to == d) refl peers

pub loop-to-preserved-then-to-from : goal.loop-to-preserved-then-to-from
loop-to-preserved-then-to-from c =
    λ d h peers. more c.args.self.now c.args.from c.loop-to.to apart c.loop-to.invariant d h (c.loop-to.to == d) refl peers
  where
    apart : ArePeers c.args.self.now c.args.from c.loop-to.to → NoneWanted c.args.self.now c.args.from c.loop-to.to
    apart near = elim c.then-to-from.branch [
      | then-to-from-via-then-to-from v ↦ absurd (near.other (sym v.if-to-from.true))
      | then-to-from-via-else-to-from+then-not-is_up-2 v ↦ absurd (true≢false (sym near.to_up ∙ sym v.is_up-else-to-from.ensures ∙ v.if-not-is_up-2.true))
    ]
