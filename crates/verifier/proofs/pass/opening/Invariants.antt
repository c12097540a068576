use Rattle.std.proofs.Common.{◌≡◌, length}
use Rattle.regtypes.specs.Frame.{entry_frame}
use Rattle.regtypes.specs.Typing.{frame_at}
use Rattle.verifier.specs.Inside.Pass.{IsOpening}
use Rattle.verifier.proofs.pass.opening.Given as goal

abbrev pub invariant-rest : goal.invariant-rest
invariant-rest l = (length l.table.items ≡ l.counter) × IsOpening (entry_frame l.fn.form) (frame_at l.table.items)
