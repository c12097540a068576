use Rattle.process.proofs.Fronts.{stays-front}
use Rattle.c_cluster.proofs.nodes.results.OutboxOutgoingMember.take_first.Goals as goal

pub returns : goal.returns
returns c = λ to packet waits.
    (waits.0, waits.1, waits.2, stays-front c.take-packet.result c.args.sender.now c.take-packet.new.self waits.0 waits.3.0 c.take-packet.ensures waits.3.1)
