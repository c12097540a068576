use Rattle.stores.specs.Store.{applied_all}
use Rattle.gateway.specs.Gateway.{TheGateway}
use Rattle.gateway.proofs.Views.{on-ok}
use Rattle.gateway.proofs.Since.{stands-for}
use Rattle.gateway.proofs.gateway.Gateway.apply.Goals as goal

pub returns-clause-stands : goal.returns-clause-stands
returns-clause-stands c =
    let g : TheGateway = c.args.self.now in
    on-ok c.bring_up.result _ _ (λ e. stands-for (applied_all c.args.changes.now g.store) c.bring_up.new.self g.page g.tick e) c.bring_up.ensures.ok
