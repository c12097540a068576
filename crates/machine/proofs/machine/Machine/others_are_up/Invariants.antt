use Rattle.std.proofs.Common.{◌≡◌, ℕ, ◌<◌, true, false}
use Rattle.std.specs.Prelude.{◌==◌}
use Rattle.machine.specs.Simulation.{is_up_at}
use Rattle.machine.proofs.machine.Machine.others_are_up.Given as goal

abbrev pub invariant-loop-q : goal.invariant-loop-q
invariant-loop-q l = (k : ℕ) → 0 < k → k < l.q → (k == l.p) ≡ false → is_up_at l.self k ≡ true
