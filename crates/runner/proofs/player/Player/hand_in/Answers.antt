use Rattle.std.proofs.Common.{◌+◌, ◌^◌, ◌≤◌, subst}
use Rattle.std.specs.Prelude.{ℕ}
use Rattle.world.specs.declared.call.Call.TheVariants.{Input}
use Rattle.runner.specs.Inside.{ComesTo, NoNumber, OnMemory, position_of}
use Rattle.runner.specs.Orders.{MakesCall}
use Rattle.runner.proofs.Carried.{at, or_else}
use Rattle.runner.proofs.player.Player.hand_in.Goals as goal

pub returns-clause-done : goal.returns-clause-done
returns-clause-done c =
    let s = c.args.self.now in
    let P : ℕ → Type 0 = λ k. ComesTo (MakesCall (at s.session s.held.items k) (Input c.args.to k c.args.payload) (position_of c.make.new.self)) c.make.result in
    subst P c.in-Some.ensures.1 c.make.ensures.done

pub returns-clause-memory : goal.returns-clause-memory
returns-clause-memory c =
    let s = c.args.self.now in
    let P : ℕ → Type 0 = λ k. OnMemory (NoNumber (MakesCall (at s.session s.held.items k) (Input c.args.to k c.args.payload))) c.make.result in
    or_else _ (2 ^ 32 ≤ s.inputs + 1) c.make.result (subst P c.in-Some.ensures.1 c.make.ensures.memory)
