use Rattle.std.proofs.Common.{◌≡◌, ◌-◌}
use Rattle.node.specs.Transmission.{renumbers, renumbered}
use Rattle.node.proofs.Sendings.{OnlyPosts}
use Rattle.node.proofs.node.Node.renumber.Given as goal

abbrev pub invariant-loop-place : goal.invariant-loop-place
invariant-loop-place l = record { rest : renumbers l.to l.place (l.last - l.place) l.left l.self ≡ renumbered l.to l.fn.self; only : OnlyPosts l.fn.self l.self }
