use Rattle.std.proofs.Common.{rules, ◌≡◌, sym, subst, ◌∙◌, arith}
use Rattle.std.proofs.lemmas.Grind.{common_steps}
use Rattle.gateway.specs.Gateway.{new_gateway}
use Rattle.c_cluster.specs.declared.gateways.fault.GatewayFault.{GatewayFault}
use Rattle.c_cluster.specs.declared.gateways.fault.GatewayFault.TheVariants.{Memory}
use Rattle.c_cluster.specs.Gateways.Lifetime.{IsUnopened}
use Rattle.c_cluster.proofs.Called.{matched}
use Rattle.c_cluster.proofs.gateways.lifetime.open.Goals as goal

pub returns : goal.returns
returns c =
    let old = c.args.handle.now.gateway.value in
    let n = c.args.count in
    let page = c.args.page in
    let tick = c.args.tick in
    let g = c.in_ok-gateway.gateway in
    let refused : IsUnopened n page tick old Memory = first_of (search rules, grind (arith, common_steps)) in
    let value : g ≡ new_gateway n page tick = first_of (search rules, grind (arith, common_steps)) in
    matched c.hold.result _ _ _ _ (λ e. (refused.0, refused.1, (g, e, (value, c.in_ok-gateway.ensures.stands))))
    (λ why h. (subst (λ (w : GatewayFault). IsUnopened n page tick old w) (sym h.0) refused, h.1 ∙ c.is_open.ensures.same)) c.hold.ensures
