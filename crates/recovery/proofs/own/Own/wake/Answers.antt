use Rattle.std.proofs.Common.{length, ap, ◌∙◌, arith, rules}
use Rattle.node.specs.Suspension.{numbered_by}
use Rattle.node.proofs.Suspensions.{joined-length}
use Rattle.recovery.proofs.own.Own.wake.Goals as goal

pub invariant_of-self : goal.invariant_of-self
invariant_of-self c =
    let i = c.self.invariant in
    record {
      allowed = i.allowed;
      inside = i.inside;
      within = i.within;
      few = i.few;
      wide = i.wide;
      heard_wide = omega (arith, c.copy_from_slice.ensures.len, i.heard_wide);
      lost_wide = i.lost_wide;
      logs_wide = ap length c.number.ensures ∙ joined-length numbered_by c.as_slice-2.result.now c.self.inside.logs.items ∙ i.logs_wide;
      counts = i.counts;
      young = i.young;
      alive = i.alive;
      covers = i.covers;
    }

pub returns : goal.returns
returns c = search rules
