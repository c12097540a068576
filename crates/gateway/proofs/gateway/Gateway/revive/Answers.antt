use Rattle.gateway.proofs.Views.{if-ok}
use Rattle.gateway.proofs.Since.{stands-for}
use Rattle.gateway.proofs.gateway.Gateway.revive.Goals as goal

pub returns-clause-stands : goal.returns-clause-stands
returns-clause-stands c = if-ok c.with_store.result _ _ (λ g e. stands-for c.args.store g c.args.page c.args.tick e) c.with_store.ensures
