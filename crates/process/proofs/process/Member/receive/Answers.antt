use Rattle.std.proofs.Common.{rules, arith}
use Rattle.std.proofs.lemmas.Grind.{common_steps}
use Rattle.process.specs.Calls.{IsHanded}
use Rattle.process.proofs.Within as within
use Rattle.process.proofs.process.Member.receive.Goals as goal

pub invariant_of-self-2 : goal.invariant_of-self-2
invariant_of-self-2 c =
    let h : IsHanded c.args.packet.now c.self.inside.lifecycle c.hand.new.lifecycle = first_of (search rules, grind (arith, common_steps)) in
    within.handed c.args.packet.now c.self.inside.lifecycle c.hand.new.lifecycle h c.self.invariant
