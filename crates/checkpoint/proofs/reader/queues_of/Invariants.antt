use Rattle.std.proofs.Common.{◌≡◌, ◌-◌, length}
use Rattle.std.specs.List.{AllByRecursion}
use Rattle.checkpoint.specs.declared.form.CheckpointForm.TheVariants.{Second}
use Rattle.checkpoint.specs.Saved.{KeptFits}
use Rattle.checkpoint.specs.Reader.{kept_at, times}
use Rattle.checkpoint.proofs.Counted.{with_front}
use Rattle.checkpoint.proofs.reader.queues_of.Given as goal

abbrev pub invariant-loop : goal.invariant-loop
invariant-loop l = record { read : with_front l.queues.items (times (kept_at l.form) (l.count - l.counter) l.rest) ≡ times (kept_at l.form) l.count l.bytes; count : length l.queues.items ≡ l.counter; fits : AllByRecursion (KeptFits Second) l.queues.items }
