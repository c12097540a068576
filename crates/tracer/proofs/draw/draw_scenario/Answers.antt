use Rattle.std.proofs.Common.{refl, string_bytes}
use Rattle.tracer.proofs.draw.draw_scenario.Goals as goal

pub returns-clause-report : goal.returns-clause-report
returns-clause-report g c = λ known there. ((string_bytes c.in_ok-text.text, c.in_ok-text.ensures.drawn known there), refl)
