use Rattle.std.proofs.Common.{◌≡◌, ◌-◌}
use Rattle.node.specs.Transmission.{resends, resent}
use Rattle.node.proofs.Sendings.{OnlyPosts}
use Rattle.node.proofs.node.Node.resend.Given as goal

abbrev pub invariant-loop-before : goal.invariant-loop-before
invariant-loop-before l = record { rest : resends l.to l.before (l.last - l.before) l.left l.self ≡ resent l.to l.fn.self; only : OnlyPosts l.fn.self l.self }
