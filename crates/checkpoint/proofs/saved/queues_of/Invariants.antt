use Rattle.std.proofs.Common.{◌≡◌, take, map}
use Rattle.std.specs.List.{AllByRecursion}
use Rattle.checkpoint.specs.declared.form.CheckpointForm.TheVariants.{Second}
use Rattle.checkpoint.specs.Saved.{KeptFits, kept_of}
use Rattle.checkpoint.proofs.saved.queues_of.Given as goal

abbrev pub invariant-loop-dst : goal.invariant-loop-dst
invariant-loop-dst l = record { items : l.queues.items ≡ map kept_of (take l.dst l.log.queues); fits : AllByRecursion (KeptFits Second) l.queues.items }
