use Rattle.std.proofs.Common.{◌≡◌, take}
use Rattle.checkpoint.proofs.saved.senders_of.Given as goal

abbrev pub invariant-loop-place : goal.invariant-loop-place
invariant-loop-place l = l.senders.items ≡ take l.place l.receipts.senders
