use Rattle.std.proofs.Common.{ℕ, Some, subst, sym}
use Rattle.world.specs.Refusals.{number_of}
use Rattle.runner.specs.Inside.{position_of}
use Rattle.runner.specs.Orders.{CarriesOut}
use Rattle.runner.proofs.Played.{cause-number}
use Rattle.runner.proofs.player.Player.heed.Goals as goal

pub returns-in_default-refusal : goal.returns-in_default-refusal
returns-in_default-refusal c =
    let refusal = c.in-Err.refusal in
    let does : ℕ → Type 0 = λ n. CarriesOut (position_of c.args.self.now) c.args.step.now.order (position_of c.carry_out.new.self) (Some n) in
    subst does (sym c.number.ensures) (c.in-Err.ensures.done (number_of refusal) (cause-number refusal c.in_default-refusal.not-Memory))
