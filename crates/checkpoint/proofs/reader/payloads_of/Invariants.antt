use Rattle.std.proofs.Common.{◌≡◌, ◌-◌, length}
use Rattle.std.specs.List.{AllByRecursion}
use Rattle.checkpoint.specs.declared.form.CheckpointForm.TheVariants.{Second}
use Rattle.checkpoint.specs.Saved.{PayloadFits}
use Rattle.checkpoint.specs.Reader.{payload_at, times}
use Rattle.checkpoint.proofs.Counted.{with_front}
use Rattle.checkpoint.proofs.reader.payloads_of.Given as goal

abbrev pub invariant-loop : goal.invariant-loop
invariant-loop l = record { read : with_front l.payloads (times (payload_at l.form) (l.count - l.counter) l.rest) ≡ times (payload_at l.form) l.count l.bytes; count : length l.payloads ≡ l.counter; fits : AllByRecursion (PayloadFits Second) l.payloads }
