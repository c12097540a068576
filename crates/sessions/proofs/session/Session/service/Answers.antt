use Rattle.std.proofs.Common.{◌≡◌, ◌∙◌, ap, refl, subst}
use Rattle.sessions.specs.Service.{alone}
use Rattle.sessions.specs.declared.session.Session.TheInside.{Inside}
use Rattle.sessions.proofs.session.Session.service.Goals as goal

pub returns : goal.returns
returns g c = subst (λ (x : Inside g.row.L.Denot). x.service ≡ alone x.service) c.self-inside.view_is refl ∙ ap alone c.self.view_is
