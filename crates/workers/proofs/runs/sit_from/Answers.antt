use Rattle.std.proofs.Common.{◌+◌, arith, inr, ◌∙◌}
use Rattle.workers.proofs.SeatsFrom.{taken-more, others-more}
use Rattle.workers.proofs.runs.sit_from.Goals as goal

pub loop-place-preserved : goal.loop-place-preserved
loop-place-preserved g c =
    let before = c.args.session.now.seats in
    let now = c.loop-place.session.seats in
    let k = c.args.worker in
    let n = c.loop-place.place in
    let kept = c.loop-place.invariant in
    let sat = c.sit_at.ensures in (
      taken-more before now k n c.args.seats.now.items c.loop-place.seats.items c.sit_at.new.seats.items kept.0 (kept.5 (k + n) (inr (omega arith))) sat.seats,
      omega (arith, sat.len, kept.1),
      sat.capacity ∙ kept.2,
      sat.entries ∙ kept.3,
      sat.images ∙ kept.4,
      others-more before now c.sit_at.new.session.seats k n kept.5 sat.out,
    )
