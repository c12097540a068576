use Rattle.std.proofs.Common.{rules, ◌≡◌, arith}
use Rattle.std.specs.Prelude.{Some}
use Rattle.std.proofs.lemmas.Grind.{common_steps}
use Rattle.stores.specs.Changes.{AreChanges}
use Rattle.c_handles.specs.Buffer.{IsUntouched}
use Rattle.c_cluster.specs.Gateways.Results.{Tells, WritesNot}
use Rattle.c_cluster.proofs.Called.{called}
use Rattle.c_cluster.proofs.gateways.results.changes.Goals as goal

pub returns : goal.returns
returns c =
    let was : c.args.handle.now.gateway.value ≡ Some c.deref_mut.result.now = first_of (search rules, grind (arith, common_steps)) in
    let is : c.put.new.self.gateway.value ≡ Some c.tell-done.new.gateway = first_of (search rules, grind (arith, common_steps)) in
    let out = c.args.out.now in
    let out' = c.tell-done.new.out in
    let size = c.args.size.now in
    let size' = c.tell-done.new.size in
    called c.tell-done.result c.deref_mut.result.now c.tell-done.new.gateway c.args.handle.now.gateway.value c.put.new.self.gateway.value
    (λ g h. Tells out out' size' g h) (IsUntouched out out' size size') (λ g w. WritesNot (AreChanges g.changes) out out' size size' w) was is c.tell-done.ensures
