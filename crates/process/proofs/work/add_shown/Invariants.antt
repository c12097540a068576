use Rattle.std.proofs.Common.{◌≡◌, ◌++◌, take, map}
use Rattle.process.specs.Work.{shown_of}
use Rattle.process.proofs.work.add_shown.Given as goal

abbrev pub invariant-loop-payload : goal.invariant-loop-payload
invariant-loop-payload l = l.given.items ≡ l.fn.given.items ++ map shown_of (take l.payload-index l.outputs)
