use Rattle.node.proofs.Queues.{more-queues, all-queues}
use Rattle.node.proofs.node.add_queues.Goals as goal

pub loop-made-init : goal.loop-made-init
loop-made-init c = c.requires

pub loop-made-preserved : goal.loop-made-preserved
loop-made-preserved c = more-queues c.loop-made.made c.loop-made.logs.items c.push.new.self.items c.new.result c.in_ok-push.ensures.items c.new.ensures c.loop-made.invariant

pub returns : goal.returns
returns c = all-queues c.loop-made.made c.args.many c.loop-made.logs.items c.loop-made.invariant c.loop-made.auto.made-end c.loop-made-test.false
