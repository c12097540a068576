use Rattle.std.proofs.Common.{rules, ◌≡◌, refl, sym, subst, ◌∙◌, arith}
use Rattle.std.proofs.lemmas.Grind.{common_steps}
use Rattle.gateway.specs.Since.{revived}
use Rattle.c_cluster.specs.declared.gateways.fault.GatewayFault.{GatewayFault}
use Rattle.c_cluster.specs.declared.gateways.fault.GatewayFault.TheVariants.{Memory}
use Rattle.c_cluster.specs.Gateways.Lifetime.{IsUnrevived}
use Rattle.c_cluster.proofs.Called.{matched}
use Rattle.c_cluster.proofs.gateways.lifetime.revive.Goals as goal

pub returns : goal.returns
returns c =
    let old = c.args.handle.now.gateway.value in
    let bytes = c.args.store.now in
    let page = c.args.page in
    let tick = c.args.tick in
    let fault = c.args.fault.now in
    let g = c.in_ok-gateway.gateway in
    let s = c.in-Ok.store in
    let refused : IsUnrevived bytes page tick fault fault old Memory = first_of (search rules, grind (arith, common_steps)) in
    let value : g ≡ revived page tick s = first_of (search rules, grind (arith, common_steps)) in
    matched c.hold.result _ _ _ _ (λ e. ((refused.0, refused.1, (s, c.in-Ok.ensures.found, (g, e, (value, c.in_ok-gateway.ensures.stands)))), refl))
    (λ why h. (subst (λ (w : GatewayFault). IsUnrevived bytes page tick fault fault old w) (sym h.0) refused, h.1 ∙ c.is_open.ensures.same)) c.hold.ensures
