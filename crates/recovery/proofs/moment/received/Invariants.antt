use Rattle.std.proofs.Common.{◌≡◌, true, map, take, replicate}
use Rattle.node.specs.declared.job.OpenJob.{OpenJob}
use Rattle.recovery.proofs.moment.received.Given as goal

abbrev pub invariant-loop-job : goal.invariant-loop-job
invariant-loop-job l = l.receipts ≡ record { senders = take l.job-index (map (λ (j : OpenJob). j.sender) l.jobs); acknowledged = replicate l.job-index true }
