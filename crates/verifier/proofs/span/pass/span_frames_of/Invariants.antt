use Rattle.std.proofs.Common.{◌≡◌, length}
use Rattle.verifier.specs.Fixpoint.{IsLeast}
use Rattle.verifier.specs.Span.Typing.{span_form, table_of}
use Rattle.verifier.proofs.span.pass.span_frames_of.Given as goal

abbrev pub invariant-loop-slot : goal.invariant-loop-slot
invariant-loop-slot l = (length l.table.items ≡ length l.slots.items) × IsLeast (span_form l.state_len l.slots.items) l.slot (table_of l.table.items)
