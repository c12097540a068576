use Rattle.std.proofs.Common.{subst, sym}
use Rattle.scenario.specs.declared.order.Order.{Order}
use Rattle.runner.specs.Orders.{CarriesOut, FindsNoMemory}
use Rattle.runner.specs.Inside.{ComesTo, OnMemory, position_of}
use Rattle.runner.proofs.Carried.{or_else}
use Rattle.runner.proofs.player.Player.carry_out.Goals as goal

pub returns-in-Transmit-clause-memory : goal.returns-in-Transmit-clause-memory
returns-in-Transmit-clause-memory c =
    subst (λ (o : Order). OnMemory (FindsNoMemory (position_of c.args.self.now) o) c.make.result) (sym c.in-Transmit.is) (or_else _ ⊥ c.make.result c.make.ensures.memory)

pub returns-in-Resync-clause-done : goal.returns-in-Resync-clause-done
returns-in-Resync-clause-done c =
    let P : Order → Type 0 = λ o. ComesTo (CarriesOut (position_of c.args.self.now) o (position_of c.make-in-Resync.new.self)) c.make-in-Resync.result in
    subst P (sym c.in-Resync.is) c.make-in-Resync.ensures.done

pub returns-in-Resync-clause-memory : goal.returns-in-Resync-clause-memory
returns-in-Resync-clause-memory c =
    subst (λ (o : Order). OnMemory (FindsNoMemory (position_of c.args.self.now) o) c.make-in-Resync.result) (sym c.in-Resync.is)
    (or_else _ ⊥ c.make-in-Resync.result c.make-in-Resync.ensures.memory)
