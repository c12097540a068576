use Rattle.std.proofs.Common.{◌≡◌, ◌++◌, take}
use Rattle.process.specs.Work.{sent_by}
use Rattle.process.proofs.work.add_sent.Given as goal

abbrev pub invariant-loop-sent : goal.invariant-loop-sent
invariant-loop-sent l = l.given.items ≡ l.fn.given.items ++ sent_by l.who (take l.sent-index l.sends)
