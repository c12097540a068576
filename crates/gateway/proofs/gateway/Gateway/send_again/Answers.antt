use Rattle.std.proofs.Common.{ap, ◌∙◌, ◌+◌}
use Rattle.gateway.specs.Gateway.{TheGateway, resent}
use Rattle.gateway.proofs.Transmission.{store-resent, ticked-more}
use Rattle.gateway.proofs.gateway.Gateway.send_again.Goals as goal

pub loop-before-preserved : goal.loop-before-preserved
loop-before-preserved c =
    let k = c.loop-before.before in
    let i = c.loop-before.invariant in
    record {
      is = c.resend.ensures ∙ ap (resent (k + 1)) i.is ∙ ticked-more k c.args.self.now;
      same = ap (λ (z : TheGateway). z.store) c.resend.ensures ∙ store-resent (k + 1) c.loop-before.self ∙ i.same;
    }
