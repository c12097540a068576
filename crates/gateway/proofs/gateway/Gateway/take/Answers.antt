use Rattle.std.proofs.Common.{subst}
use Rattle.gateway.specs.Gateway.{TheGateway}
use Rattle.gateway.specs.Stands.{Takes}
use Rattle.gateway.proofs.Views.{takes-so}
use Rattle.gateway.proofs.gateway.Gateway.take.Goals as goal

pub returns : goal.returns
returns c =
    let i = c.self.inside in
    let g : TheGateway = record { page = i.page; tick = i.tick; store = i.store; changes = i.changes.items; out = i.out } in
    let P : TheGateway → Type 0 = λ v. Takes c.pop.result v (record g { out = c.pop.new.self }) in
    subst P c.self.view_is (takes-so c.pop.result g c.pop.new.self c.pop.ensures)
