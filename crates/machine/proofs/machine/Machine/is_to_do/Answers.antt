use Rattle.std.proofs.Common.{rules, ◌≡◌, length, arith, sym, ◌∙◌}
use Rattle.std.specs.Prelude.{◌&&◌, nat_lt, nat_le}
use Rattle.std.proofs.lemmas.Grind.{common_steps}
use Rattle.machine.specs.Simulation.{process_at}
use Rattle.machine.specs.Work.{is_to_do}
use Rattle.machine.proofs.ReplayCauses.{todo-is}
use Rattle.machine.proofs.machine.Machine.is_to_do.Goals as goal

pub returns-then-r-count-clause-todo : goal.returns-then-r-count-clause-todo
returns-then-r-count-clause-todo c =
    let value : c.has.result ≡ (nat_lt 0 c.args.r && nat_le c.args.r (length c.args.self.now.processes) && is_to_do (process_at c.args.self.now c.args.p).mode c.args.r) = first_of (search rules, grind (arith, common_steps)) in
    λ w s. value ∙ sym (todo-is c.args.self.now w s c.args.p c.requires.0 c.requires.1 c.args.r)

pub returns-else-r-count-clause-todo : goal.returns-else-r-count-clause-todo
returns-else-r-count-clause-todo c =
    let value : c.if-r-gt0.value ≡ (nat_lt 0 c.args.r && nat_le c.args.r (length c.args.self.now.processes) && is_to_do (process_at c.args.self.now c.args.p).mode c.args.r) = first_of (search rules, grind (arith, common_steps)) in
    λ w s. value ∙ sym (todo-is c.args.self.now w s c.args.p c.requires.0 c.requires.1 c.args.r)
