use Rattle.std.proofs.Common.{◌≡◌, drop}
use Rattle.live.specs.Inside.{feeds_after, feeds_of}
use Rattle.live.proofs.feeds.feeds_of.Given as goal

abbrev pub invariant-loop-step : goal.invariant-loop-step
invariant-loop-step l = feeds_after l.feeds.items (drop l.step-index l.steps) ≡ feeds_of l.steps
