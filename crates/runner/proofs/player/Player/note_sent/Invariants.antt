use Rattle.std.proofs.Common.{◌≡◌, ◌++◌, take}
use Rattle.runner.specs.Inside.{position_of}
use Rattle.runner.specs.Orders.{world_at}
use Rattle.runner.specs.Run.{sent_in}
use Rattle.runner.proofs.player.Player.note_sent.Given as goal

abbrev pub invariant-loop-slip : goal.invariant-loop-slip
invariant-loop-slip l = l.sent.items ≡ l.fn.sent.items ++ sent_in (world_at (position_of l.fn.self)) (take l.slip-index l.slips)
