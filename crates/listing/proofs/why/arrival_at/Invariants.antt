use Rattle.std.proofs.Common.{◌≢◌}
use Rattle.listing.specs.declared.why.UnsetCause.TheVariants.{Unknown}
use Rattle.listing.specs.Inside.Arrives.{GoTogether, IsSet}
use Rattle.listing.specs.Why.{IsReason}
use Rattle.listing.proofs.why.arrival_at.Given as goal

abbrev pub invariant-loop-from : goal.invariant-loop-from
invariant-loop-from l = record {
  set : IsSet l.study l.reg.number l.at l.set;
  reason : l.reason ≢ Unknown → IsReason l.study l.reg.number l.reason l.at;
  together : GoTogether l.study l.reg.number l.at l.from l.set l.reason;
}
