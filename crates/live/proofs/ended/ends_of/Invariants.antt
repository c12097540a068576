use Rattle.std.proofs.Common.{◌≡◌, map, take}
use Rattle.live.specs.Inside.{ended_of}
use Rattle.live.proofs.ended.ends_of.Given as goal

abbrev pub invariant-loop-share : goal.invariant-loop-share
invariant-loop-share g l = l.ends.items ≡ map ended_of (take l.share-index l.shares)
