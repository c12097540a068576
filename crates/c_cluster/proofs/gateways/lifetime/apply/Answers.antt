use Rattle.std.proofs.Common.{rules, ◌≡◌, arith}
use Rattle.std.specs.Prelude.{Some}
use Rattle.std.proofs.lemmas.Grind.{common_steps}
use Rattle.c_cluster.specs.Gateways.Lifetime.{IsLater, IsUnlater}
use Rattle.c_cluster.proofs.Called.{called}
use Rattle.c_cluster.proofs.gateways.lifetime.apply.Goals as goal

pub returns : goal.returns
returns c =
    let was : c.args.handle.now.gateway.value ≡ Some c.deref_mut.result.now = first_of (search rules, grind (arith, common_steps)) in
    let is : c.put.new.self.gateway.value ≡ Some c.bring_up-done.new.gateway = first_of (search rules, grind (arith, common_steps)) in
    let before = c.args.fault.now in
    let after = c.bring_up-done.new.fault in
    called c.bring_up-done.result c.deref_mut.result.now c.bring_up-done.new.gateway c.args.handle.now.gateway.value c.put.new.self.gateway.value
    (λ g h. IsLater c.args.changes.now g h × (after ≡ before)) (after ≡ before) (λ g w. IsUnlater c.args.changes.now g before after w) was is c.bring_up-done.ensures
